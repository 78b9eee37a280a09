use Rattle.std.proofs.Common.{◌≡◌, ◌≤◌, ◌+◌, ℕ, [], refl, sym, subst, arith}
use Rattle.heap_rule.proofs.Filling.{fill_picks}
use Rattle.mutator_events.specs.Values.{field_at}
use Rattle.cell_making.specs.Makes.{Filled, value_at}
use Rattle.mutator_seat.specs.Bound.{Bound}
use Rattle.mutator_seat.specs.Searches.{Tries}
use Rattle.mutator_seat.proofs.Searching.{tries_idle, tries_none}
use Rattle.cell_making.proofs.Filling.{filled_more, filled_null, filling_starts, may_fill}
use Rattle.cell_making.proofs.Filling.{names_settled}
use Rattle.cell_making.proofs.Searching.{fill_tries}
use Rattle.cell_making.proofs.making.fill_fields.Goals.{then-is_filled_in, else-is_filled_in}
use Rattle.cell_making.proofs.making.fill_fields.Goals as goal

pub loop-i-init : goal.loop-i-init
loop-i-init g c = (
  filling_starts c.args.m.now c.args.place c.args.fields c.requires.may,
  tries_none c.args.m.now,
)

pub fill-requires-clause-may : goal.fill-requires-clause-may
fill-requires-clause-may g c =
    may_fill c.args.m.now c.args.place c.args.fields c.requires.may c.loop-i.i c.loop-i.m
    c.loop-i.invariant.0 c.loop-i-test.true

pub fill-requires-clause-rule : goal.fill-requires-clause-rule
fill-requires-clause-rule g c =
    fill_picks g.P.Keeping.holds g.P.Keeping.fixed c.loop-i.m.seat.me c.args.place c.loop-i.i
    (field_at c.loop-i.m.seat.me.own.held (value_at c.args.fields c.loop-i.i))
    (names_settled c.args.m.now c.args.place c.args.fields c.requires.may c.loop-i.i c.loop-i.m
    c.loop-i.invariant.0 c.loop-i-test.true)

pub loop-i-preserved : goal.loop-i-preserved
loop-i-preserved g c =
    let was = c.args.m.now in
    let more : Bound _ → Type 0 =
    λ m. Filled was c.args.place c.args.fields (c.loop-i.i + 1) m × Tries [] was m in
    elim c.if-is_filled_in.branch [
      | then-is_filled_in w ↦ subst more (sym w.m-is) (
        filled_more was c.args.place c.args.fields c.requires.may c.loop-i.i c.loop-i.m
            c.loop-i.invariant.0 c.loop-i-test.true w.fill.new.self w.fill.ensures.told,
        tries_idle [] was c.loop-i.m w.fill.new.self c.loop-i.invariant.1
            (fill_tries c.loop-i.m w.fill.new.self _ _ _ _ _ w.fill.ensures.told),
      )
      | else-is_filled_in w ↦ subst more (sym w.m-is) (
        filled_null was c.args.place c.args.fields c.requires.may c.loop-i.i c.loop-i.m
            c.loop-i.invariant.0 c.loop-i-test.true (w.if-is_filled_in.ensures.null refl),
        c.loop-i.invariant.1,
      )
    ]

pub returns : goal.returns
returns g c =
    let all : 5 ≤ c.loop-i.i = c.loop-i-test.false in
    record {
      filled = subst (λ (n : ℕ). Filled c.args.m.now c.args.place c.args.fields n c.loop-i.m)
          (let e : c.loop-i.i ≡ 5 = omega (arith, all, c.loop-i.auto.i-end) in e)
          c.loop-i.invariant.0;
      idle = c.loop-i.invariant.1;
    }
