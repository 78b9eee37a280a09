use Rattle.std.proofs.Common.{◌≡◌, ◌≤◌, ◌+◌, ℕ, List, [], arith, refl, sym, ◌∙◌, subst}
use Rattle.cell_words.specs.declared.fields.Field.{Field}
use Rattle.heap_rule.specs.Lore.{five_nulls}
use Rattle.mutator_events.specs.declared.values.Value.{Value}
use Rattle.mutator_seat.specs.Bound.{Bound, held_cells}
use Rattle.promotion.specs.Copying.{AreFilled, Opened}
use Rattle.promotion.proofs.Filling.{fill_rule, filled_more, filled_none, filled_null, may_fill}
use Rattle.promotion.proofs.Filling.{may_seal}
use Rattle.promotion.proofs.Filling.{opened, ready_now, sealed_as}
use Rattle.cell_making.specs.Makes.{value_at}
use Rattle.mutator_seat.specs.Searches.{Searches}
use Rattle.cell_making.proofs.Searching.{fill_tries, seal_tries, searches_idle}
use Rattle.cell_making.proofs.making.fill_record.Goals.{then-is_filled_in, else-is_filled_in}
use Rattle.cell_making.proofs.making.fill_record.Goals as goal

pub loop-i-init : goal.loop-i-init
loop-i-init g c = (
  five_nulls,
  (
    opened c.args.m.now c.claim.new.self c.in-Ok.place c.in-Ok.ensures.got,
    filled_none (held_cells c.args.m.now) (value_at c.args.fields),
    c.claim.ensures.search,
  ),
)

pub fill-requires-clause-may : goal.fill-requires-clause-may
fill-requires-clause-may g c =
    let so = c.loop-i.invariant in
    may_fill c.args.m.now c.loop-i.m c.in-Ok.place so.0 so.1.0 (value_at c.args.fields c.loop-i.i)
    c.loop-i.i (value_at c.args.fields) (so.1.0.stays.inside ∙ c.requires.inside)
    c.loop-i-test.true (c.requires.terms c.loop-i.i c.loop-i-test.true) so.1.1

pub fill-requires-clause-rule : goal.fill-requires-clause-rule
fill-requires-clause-rule g c =
    let so = c.loop-i.invariant in
    fill_rule g.P.Keeping.holds g.P.Keeping.fixed c.loop-i.m.seat.me c.in-Ok.place c.loop-i.i
    (value_at c.args.fields c.loop-i.i)
    (ready_now c.args.m.now c.loop-i.m c.in-Ok.place so.0 so.1.0
    (value_at c.args.fields c.loop-i.i) (c.requires.terms c.loop-i.i c.loop-i-test.true))

pub loop-i-preserved : goal.loop-i-preserved
loop-i-preserved g c =
    let so = c.loop-i.invariant in
    let was = c.args.m.now in
    let given : ℕ → Value = value_at c.args.fields in
    let i = c.loop-i.i in
    let ready = c.requires.terms i c.loop-i-test.true in
    let more : Bound _ → Type 0 =
    λ n. (fields : List Field) × (Opened was c.in-Ok.place fields n
    × AreFilled (held_cells was) given (i + 1) fields
    × Searches 1000 [] c.args.hints.now c.claim.new.hints was n) in
    elim c.if-is_filled_in.branch [
      | then-is_filled_in w ↦ subst more (sym w.m-is)
          (let next = filled_more was c.loop-i.m c.in-Ok.place so.0 so.1.0 given i w.fill.new.self
          c.loop-i-test.true ready so.1.1 w.fill.ensures.told in (
            next.0,
            (
              next.1.0,
              next.1.1,
              searches_idle 1000 [] c.args.hints.now c.claim.new.hints was c.loop-i.m
                  w.fill.new.self so.1.2
                  (fill_tries c.loop-i.m w.fill.new.self _ _ _ _ _ w.fill.ensures.told),
            ),
          ))
      | else-is_filled_in w ↦ subst more (sym w.m-is) (
        so.0,
        (
          so.1.0,
          filled_null was c.loop-i.m c.in-Ok.place so.0 so.1.0 given i c.loop-i-test.true
              (w.if-is_filled_in.ensures.null refl) so.1.1,
          so.1.2,
        ),
      )
    ]

pub seal_record-requires : goal.seal_record-requires
seal_record-requires g c =
    let so = c.loop-i.invariant in
    let all : 5 ≤ c.loop-i.i = c.loop-i-test.false in
    let filled =
    subst (λ (n : ℕ). AreFilled (held_cells c.args.m.now) (value_at c.args.fields) n so.0)
    (let e : c.loop-i.i ≡ 5 = omega (arith, all, c.loop-i.auto.i-end) in e) so.1.1 in
    record {
      may = may_seal c.args.m.now c.loop-i.m c.in-Ok.place so.0 so.1.0 (value_at c.args.fields)
          (so.1.0.stays.inside ∙ c.requires.inside) filled c.requires.terms;
    }

pub returns-after-loop-i-clause-made : goal.returns-after-loop-i-clause-made
returns-after-loop-i-clause-made g c =
    let so = c.loop-i.invariant in
    let all : 5 ≤ c.loop-i.i = c.loop-i-test.false in
    let filled =
    subst (λ (n : ℕ). AreFilled (held_cells c.args.m.now) (value_at c.args.fields) n so.0)
    (let e : c.loop-i.i ≡ 5 = omega (arith, all, c.loop-i.auto.i-end) in e) so.1.1 in
    sealed_as c.args.m.now c.loop-i.m c.in-Ok.place so.0 so.1.0 (value_at c.args.fields)
    c.seal_record.new.self filled c.requires.terms c.seal_record.ensures.told

pub returns-after-loop-i-clause-search : goal.returns-after-loop-i-clause-search
returns-after-loop-i-clause-search g c =
    searches_idle 1000 [] c.args.hints.now c.claim.new.hints c.args.m.now c.loop-i.m
    c.seal_record.new.self c.loop-i.invariant.1.2
    (seal_tries c.loop-i.m c.seal_record.new.self _ _ _ c.seal_record.ensures.told)
