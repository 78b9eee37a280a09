use Rattle.std.proofs.Common.{◌≡◌, ◌+◌, ◌∙◌, arith, subst, sym}
use Rattle.heap_census.specs.Times.{Told}
use Rattle.heap_census.proofs.Named.{told_pass, told_more, told_next}
use Rattle.heap_census.proofs.naming.add_names.Goals as goal
use Rattle.heap_census.proofs.naming.add_names.Goals.{in-Cell, in_default}

pub loop-i-init : goal.loop-i-init
loop-i-init g c = λ h shows r has told. told

pub loop-i-preserved : goal.loop-i-preserved
loop-i-preserved g c =
    let k = c.args.cell in
    let i = c.loop-i.i in
    let old = c.loop-i.times in
    elim c.match-field.branch [
      | in-Cell w ↦ λ h shows r has told.
          subst (Told h k (i + 1)) (sym (w.times-is ∙ w.add_name.ensures))
          (told_more h k i w.in-Cell.named old r has c.loop-i-test.true
          (sym (c.field.ensures h shows) ∙ w.in-Cell.is) (c.loop-i.invariant h shows r has told))
      | in_default w ↦ λ h shows r has told.
          subst (Told h k (i + 1)) (sym w.times-is)
          (told_pass h k i old (λ d is. w.in_default.not-Cell d (c.field.ensures h shows ∙ is))
          (c.loop-i.invariant h shows r has told))
    ]

pub returns : goal.returns
returns g c = λ h shows r has told.
    let all : c.loop-i.i ≡ 6 = omega (arith, c.loop-i.auto.i-end, c.loop-i-test.false) in
    told_next h c.args.cell c.loop-i.times
    (subst (λ n. Told h c.args.cell n c.loop-i.times) all (c.loop-i.invariant h shows r has told))
