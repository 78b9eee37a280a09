use Rattle.std.proofs.Common.{◌≡◌, ◌≤◌, ◌+◌, ℕ, List, refl, sym, ◌∙◌, ap, subst, arith}
use Rattle.cell_words.specs.declared.fields.Field.{Field}
use Rattle.core_machine.specs.declared.events.Event.TheVariants as event
use Rattle.core_machine.specs.declared.events.Found.TheVariants as finds
use Rattle.heap_rule.specs.Lore.{five_nulls}
use Rattle.heap_table.specs.Seats.{SeatView}
use Rattle.minor_heap.specs.Nursery.{field_at as record_field}
use Rattle.mutator_events.specs.declared.values.Value.{Value}
use Rattle.mutator_events.specs.Values.{field_at}
use Rattle.mutator_seat.specs.Bound.{Bound, IsBound, bound, held_cells, takes}
use Rattle.mutator_seat.specs.Claims.{Claimed}
use Rattle.promotion.specs.Copying.{AreFilled, IsReady, Opened, value_of}
use Rattle.promotion.proofs.Filling.{fill_rule, filled_more, filled_none, filled_null, may_fill, may_seal}
use Rattle.promotion.proofs.Filling.{opened, ready_now, sealed_as}
use Rattle.record_copying.proofs.Readiness.{ready_unclaimed}
use Rattle.record_copying.proofs.copying.copy_record.Goals.{then-is_filled_in, else-is_filled_in}
use Rattle.record_copying.proofs.copying.copy_record.Goals as goal

pub loop-i-init : goal.loop-i-init
loop-i-init g c = (
  c.requires.seat,
  (λ before got. (
    five_nulls,
    (
      opened before (bound c.args.heap.now c.args.seat.now) c.args.place got,
      filled_none (held_cells before)
          (λ i. value_of c.args.places.now
          (record_field c.args.minor.now.records c.args.r.number i)),
    ),
  )),
)

pub fill-requires : goal.fill-requires
fill-requires g c =
    let raw = c.requires.raw in
    let was = bound c.args.heap.now c.args.seat.now in
    let now = bound c.args.heap.now c.loop-i.seat in
    let so = c.loop-i.invariant.1 raw.before raw.claimed in
    let place = c.args.place in
    let v = c.value_of-value.result in
    let ready = ready_unclaimed raw.before was place raw.claimed v
    (subst (λ (v : Value). IsReady was.seat.me.known v)
    (sym c.value_of-value.ensures.value) (c.requires.ready c.loop-i.i c.loop-i-test.true)) in
    let first = opened raw.before was place raw.claimed in
    record {
      seat = c.loop-i.invariant.0;
      may = may_fill raw.before now place so.0 so.1.0 v c.loop-i.i
          (λ i. value_of c.args.places.now
          (record_field c.args.minor.now.records c.args.r.number i))
          (so.1.0.stays.inside ∙ sym first.stays.inside ∙ raw.inside) c.loop-i-test.true ready
          so.1.1;
      rule = fill_rule g.P.Keeping.holds g.P.Keeping.fixed now.seat.me place c.loop-i.i v
          (ready_now raw.before now place so.0 so.1.0 v ready);
    }

pub loop-i-preserved : goal.loop-i-preserved
loop-i-preserved g c =
    let heap = c.args.heap.now in
    let was = bound heap c.args.seat.now in
    let now = bound heap c.loop-i.seat in
    let place = c.args.place in
    let i = c.loop-i.i in
    let given : ℕ → Value = λ i. value_of c.args.places.now
    (record_field c.args.minor.now.records c.args.r.number i) in
    let more : SeatView _ → Type 0 = λ s. IsBound heap s
    × ((before : Bound _) → Claimed before place was
    → (fields : List Field) × (Opened before place fields (bound heap s)
    × AreFilled (held_cells before) given (i + 1) fields)) in
    elim c.if-is_filled_in.branch [
      | then-is_filled_in w ↦ subst more (sym w.seat-is) (
        w.fill.ensures.seat,
        (λ before got.
            let so = c.loop-i.invariant.1 before got in
            filled_more before now place so.0 so.1.0 given i (bound heap w.fill.new.seat)
            c.loop-i-test.true
            (ready_unclaimed before was place got (given i) (c.requires.ready i c.loop-i-test.true))
            so.1.1
            (w.fill.ensures.told
            ∙ ap (λ (v : Value). takes now (event.Fill now.seat.me.number place i
            (field_at now.seat.me.own.held v)) finds.Stored) c.value_of-value.ensures.value)),
      )
      | else-is_filled_in w ↦ subst more (sym w.seat-is) (
        c.loop-i.invariant.0,
        (λ before got.
            let so = c.loop-i.invariant.1 before got in (
              so.0,
              (
                so.1.0,
                filled_null before now place so.0 so.1.0 given i c.loop-i-test.true
                    (sym c.value_of-value.ensures.value ∙ w.if-is_filled_in.ensures.null refl)
                    so.1.1,
              ),
            )),
      )
    ]

pub seal_record-requires : goal.seal_record-requires
seal_record-requires g c =
    let raw = c.requires.raw in
    let was = bound c.args.heap.now c.args.seat.now in
    let now = bound c.args.heap.now c.loop-i.seat in
    let so = c.loop-i.invariant.1 raw.before raw.claimed in
    let place = c.args.place in
    let given : ℕ → Value = λ i. value_of c.args.places.now
    (record_field c.args.minor.now.records c.args.r.number i) in
    let first = opened raw.before was place raw.claimed in
    let all : 5 ≤ c.loop-i.i = c.loop-i-test.false in
    let filled = subst (λ (n : ℕ). AreFilled (held_cells raw.before) given n so.0)
    (let e : c.loop-i.i ≡ 5 = omega (arith, all, c.loop-i.auto.i-end) in e) so.1.1 in
    record {
      seat = c.loop-i.invariant.0;
      may = may_seal raw.before now place so.0 so.1.0 given
          (so.1.0.stays.inside ∙ sym first.stays.inside ∙ raw.inside) filled
          (λ i lt. ready_unclaimed raw.before was place raw.claimed (given i)
          (c.requires.ready i lt));
    }

pub returns : goal.returns
returns g c =
    let heap = c.args.heap.now in
    let was = bound heap c.args.seat.now in
    let now = bound heap c.loop-i.seat in
    let place = c.args.place in
    let given : ℕ → Value = λ i. value_of c.args.places.now
    (record_field c.args.minor.now.records c.args.r.number i) in
    let all : 5 ≤ c.loop-i.i = c.loop-i-test.false in
    record {
      seat = c.seal_record.ensures.seat;
      copied = λ before got.
          let so = c.loop-i.invariant.1 before got in
          let filled = subst (λ (n : ℕ). AreFilled (held_cells before) given n so.0)
          (let e : c.loop-i.i ≡ 5 = omega (arith, all, c.loop-i.auto.i-end) in e) so.1.1 in
          sealed_as before now place so.0 so.1.0 given (bound heap c.seal_record.new.seat) filled
          (λ i lt. ready_unclaimed before was place got (given i) (c.requires.ready i lt))
          c.seal_record.ensures.told;
    }
