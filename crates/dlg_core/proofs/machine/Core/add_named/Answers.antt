use Rattle.std.proofs.Common.{◌+◌, arith, subst, sym, ap, ◌∙◌}
use Rattle.core_machine.specs.State.{field_of}
use Rattle.dlg_core.specs.Kept.{IsKept}
use Rattle.dlg_core.specs.Search.{NamedSoFar}
use Rattle.dlg_core.proofs.Searching.{named_more, named_pass}
use Rattle.dlg_core.proofs.machine.Core.add_named.Goals as goal
use Rattle.dlg_core.proofs.machine.Core.add_named.Goals.{in-Cell+in_ok-add, in_default}

pub loop-i-preserved : goal.loop-i-preserved
loop-i-preserved c =
    let kept : IsKept c.args.self.now = subst IsKept c.self.view_is c.self.invariant in
    elim c.match-field.branch [
      | in-Cell+in_ok-add w ↦
          subst (λ f. NamedSoFar c.args.self.now c.args.cell (c.loop-i.i + 1) c.args.found.now f)
          (sym (w.found-is ∙ w.in_ok-add.ensures.added))
          (named_more c.args.self.now c.args.cell c.loop-i.i w.in-Cell.named c.args.found.now
          c.loop-i.found kept.range.shape
          c.requires.reachable c.requires.size
          (sym (c.field.ensures.field
          ∙ ap (λ s. field_of s c.args.cell c.loop-i.i) c.self.view_is) ∙ w.in-Cell.is)
          c.loop-i.invariant)
      | in_default w ↦
          subst (λ f. NamedSoFar c.args.self.now c.args.cell (c.loop-i.i + 1) c.args.found.now f)
          (sym w.found-is)
          (named_pass c.args.self.now c.args.cell c.loop-i.i c.args.found.now c.loop-i.found
          c.loop-i.invariant
          (λ d e. w.in_default.not-Cell d
          (c.field.ensures.field ∙ ap (λ s. field_of s c.args.cell c.loop-i.i) c.self.view_is
          ∙ e)))
    ]

-- all six fields were looked at
pub returns-clause-named : goal.returns-clause-named
returns-clause-named c = λ d f among is. c.loop-i.invariant.named d f (omega arith) is
