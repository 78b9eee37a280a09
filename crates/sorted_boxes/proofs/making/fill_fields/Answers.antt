use Rattle.std.proofs.Common.{◌≡◌, ◌≤◌, ◌+◌, ℕ, refl, sym, subst, arith}
use Rattle.heap_rule.specs.NoRule.{no_field_is_fixed}
use Rattle.heap_rule.proofs.Filling.{fill_picks}
use Rattle.heap_table.specs.Seats.{SeatView}
use Rattle.mutator_events.specs.Values.{field_at}
use Rattle.mutator_seat.specs.Bound.{IsBound, bound}
use Rattle.cell_making.specs.Makes.{Filled, value_at}
use Rattle.cell_making.proofs.Filling.{filled_more, filled_null, filling_starts, may_fill}
use Rattle.cell_making.proofs.Filling.{names_settled}
use Rattle.sorted_rule.specs.Sorted.{HoldsSorted}
use Rattle.sorted_boxes.proofs.making.fill_fields.Goals.{then-is_filled_in, else-is_filled_in}
use Rattle.sorted_boxes.proofs.making.fill_fields.Goals as goal

pub loop-i-init : goal.loop-i-init
loop-i-init c = (
  filling_starts (bound c.args.heap.now c.args.seat.now) c.args.place c.args.fields c.requires.may,
  c.requires.seat,
)

pub fill-requires : goal.fill-requires
fill-requires c =
    let was = bound c.args.heap.now c.args.seat.now in
    let now = bound c.args.heap.now c.loop-i.seat in
    record {
      seat = c.loop-i.invariant.1;
      may = may_fill was c.args.place c.args.fields c.requires.may c.loop-i.i now
          c.loop-i.invariant.0 c.loop-i-test.true;
      rule = fill_picks HoldsSorted no_field_is_fixed now.seat.me c.args.place c.loop-i.i
          (field_at now.seat.me.own.held (value_at c.args.fields c.loop-i.i))
          (names_settled was c.args.place c.args.fields c.requires.may c.loop-i.i now
          c.loop-i.invariant.0 c.loop-i-test.true);
    }

pub loop-i-preserved : goal.loop-i-preserved
loop-i-preserved c =
    let heap = c.args.heap.now in
    let was = bound heap c.args.seat.now in
    let now = bound heap c.loop-i.seat in
    let more : SeatView _ → Type 0 =
    λ s. Filled was c.args.place c.args.fields (c.loop-i.i + 1) (bound heap s) × IsBound heap s in
    elim c.if-is_filled_in.branch [
      | then-is_filled_in w ↦ subst more (sym w.seat-is) (
        filled_more was c.args.place c.args.fields c.requires.may c.loop-i.i now
            c.loop-i.invariant.0 c.loop-i-test.true (bound heap w.fill.new.seat)
            w.fill.ensures.told,
        w.fill.ensures.seat,
      )
      | else-is_filled_in w ↦ subst more (sym w.seat-is) (
        filled_null was c.args.place c.args.fields c.requires.may c.loop-i.i now
            c.loop-i.invariant.0 c.loop-i-test.true (w.if-is_filled_in.ensures.null refl),
        c.loop-i.invariant.1,
      )
    ]

pub returns : goal.returns
returns c =
    let heap = c.args.heap.now in
    let all : 5 ≤ c.loop-i.i = c.loop-i-test.false in
    record {
      seat = c.loop-i.invariant.1;
      filled = subst (λ (n : ℕ). Filled (bound heap c.args.seat.now) c.args.place c.args.fields n
          (bound heap c.loop-i.seat))
          (let e : c.loop-i.i ≡ 5 = omega (arith, all, c.loop-i.auto.i-end) in e)
          c.loop-i.invariant.0;
    }
