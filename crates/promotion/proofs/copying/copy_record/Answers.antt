use Rattle.std.proofs.Common.{◌≡◌, ◌≤◌, ◌+◌, ℕ, List, length, refl, sym, ◌∙◌, ap, subst, arith}
use Rattle.cell_words.specs.declared.fields.Field.{Field}
use Rattle.cell_words.specs.declared.fields.Kind.TheVariants as kind
use Rattle.core_machine.specs.declared.events.Event.TheVariants as event
use Rattle.core_machine.specs.declared.events.Found.TheVariants as finds
use Rattle.heap_rule.specs.Lore.{five_nulls}
use Rattle.minor_heap.specs.Nursery.{field_at as record_field}
use Rattle.mutator_events.proofs.HeldCells.{cells_many}
use Rattle.mutator_events.specs.declared.values.Value.{Value}
use Rattle.mutator_events.specs.Values.{field_at}
use Rattle.mutator_seat.specs.Bound.{Bound, held_cells, takes}
use Rattle.promotion.specs.Copying.{AreFilled, IsReady, Opened, value_of}
use Rattle.promotion.specs.Hinting.{IsCopy}
use Rattle.promotion.specs.Linking.{AreCopying}
use Rattle.promotion.specs.Promoting.{Adds}
use Rattle.promotion.proofs.Filling.{fill_rule, filled_more, filled_none, filled_null, may_fill, may_seal}
use Rattle.promotion.proofs.Filling.{opened, ready_now, sealed_as}
use Rattle.promotion.proofs.Hinting.{copy_begun_by, copy_made}
use Rattle.promotion.proofs.Linked.{copy_begun, copying_calm, copying_event, copying_then}
use Rattle.promotion.proofs.copying.copy_record.Goals.{then-is_filled_in, else-is_filled_in}
use Rattle.promotion.proofs.copying.copy_record.Goals as goal

pub loop-i-init : goal.loop-i-init
loop-i-init g c = (
  five_nulls,
  (
    opened c.args.m.now c.claim_hinted.new.self c.in-Ok.place c.in-Ok.ensures.got,
    filled_none (held_cells c.args.m.now)
        (λ i. value_of c.args.places.now
        (record_field c.args.minor.now.records c.args.r.number i)),
    copy_begun (length c.args.m.now.seat.me.own.held) c.args.m.now c.claim_hinted.new.self
        c.in-Ok.place c.in-Ok.ensures.got,
    copy_begun_by c.args.m.now c.claim_hinted.new.self c.in-Ok.place c.args.hint
        c.in-Ok.ensures.got c.claim_hinted.ensures.tries,
  ),
)

pub fill-requires-clause-may : goal.fill-requires-clause-may
fill-requires-clause-may g c =
    let so = c.loop-i.invariant in
    let ready = subst (λ (v : Value). IsReady c.args.m.now.seat.me.known v)
    (sym c.value_of-value.ensures.value) (c.requires.ready c.loop-i.i c.loop-i-test.true) in
    may_fill c.args.m.now c.loop-i.m c.in-Ok.place so.0 so.1.0 c.value_of-value.result c.loop-i.i
    (λ i. value_of c.args.places.now
    (record_field c.args.minor.now.records c.args.r.number i))
    (so.1.0.stays.inside ∙ c.requires.inside) c.loop-i-test.true ready so.1.1

pub fill-requires-clause-rule : goal.fill-requires-clause-rule
fill-requires-clause-rule g c =
    let so = c.loop-i.invariant in
    let ready = subst (λ (v : Value). IsReady c.args.m.now.seat.me.known v)
    (sym c.value_of-value.ensures.value) (c.requires.ready c.loop-i.i c.loop-i-test.true) in
    fill_rule g.P.Keeping.holds g.P.Keeping.fixed c.loop-i.m.seat.me c.in-Ok.place c.loop-i.i
    c.value_of-value.result
    (ready_now c.args.m.now c.loop-i.m c.in-Ok.place so.0 so.1.0 c.value_of-value.result ready)

pub loop-i-preserved : goal.loop-i-preserved
loop-i-preserved g c =
    let so = c.loop-i.invariant in
    let was = c.args.m.now in
    let m = c.loop-i.m in
    let i = c.loop-i.i in
    let given : ℕ → Value = λ i. value_of c.args.places.now
    (record_field c.args.minor.now.records c.args.r.number i) in
    let held = length was.seat.me.own.held in
    let further : held ≤ c.in-Ok.place =
    omega (arith, so.1.0.place_is, cells_many was.seat.me.own.held) in
    elim c.if-is_filled_in.branch [
      | then-is_filled_in w ↦
          let after = w.fill.new.self in
          let step = filled_more was m c.in-Ok.place so.0 so.1.0 given i after
          c.loop-i-test.true (c.requires.ready i c.loop-i-test.true) so.1.1
          (w.fill.ensures.told
          ∙ ap (λ (v : Value). takes m (event.Fill m.seat.me.number c.in-Ok.place i
          (field_at m.seat.me.own.held v)) finds.Stored) c.value_of-value.ensures.value) in
          subst (λ (n : Bound _). (fields : List Field) × (Opened was c.in-Ok.place fields n
          × AreFilled (held_cells was) given (i + 1) fields × Adds (AreCopying held) was n
          × Adds (IsCopy was.seat.me.number was.seat.me.shape.cells c.args.hint) was n))
          (sym w.m-is) (
            step.0,
            (
              step.1.0,
              step.1.1,
              copying_then held was m after so.1.2
                  (copying_event held m after
                  (event.Fill m.seat.me.number c.in-Ok.place i
                  (field_at m.seat.me.own.held c.value_of-value.result)) finds.Stored further
                  w.fill.ensures.told),
              copy_made was.seat.me.number was.seat.me.shape.cells c.args.hint was m after
                  (event.Fill m.seat.me.number c.in-Ok.place i
                  (field_at m.seat.me.own.held c.value_of-value.result)) finds.Stored refl
                  w.fill.ensures.told so.1.3,
            ),
          )
      | else-is_filled_in w ↦
          subst (λ (n : Bound _). (fields : List Field) × (Opened was c.in-Ok.place fields n
          × AreFilled (held_cells was) given (i + 1) fields × Adds (AreCopying held) was n
          × Adds (IsCopy was.seat.me.number was.seat.me.shape.cells c.args.hint) was n))
          (sym w.m-is) (
            so.0,
            (
              so.1.0,
              filled_null was m c.in-Ok.place so.0 so.1.0 given i c.loop-i-test.true
                  (sym c.value_of-value.ensures.value ∙ w.if-is_filled_in.ensures.null refl)
                  so.1.1,
              so.1.2,
              so.1.3,
            ),
          )
    ]

pub seal_record-requires : goal.seal_record-requires
seal_record-requires g c =
    let so = c.loop-i.invariant in
    let given : ℕ → Value = λ i. value_of c.args.places.now
    (record_field c.args.minor.now.records c.args.r.number i) in
    let all : 5 ≤ c.loop-i.i = c.loop-i-test.false in
    let filled = subst (λ (n : ℕ). AreFilled (held_cells c.args.m.now) given n so.0)
    (let e : c.loop-i.i ≡ 5 = omega (arith, all, c.loop-i.auto.i-end) in e) so.1.1 in
    record {
      may = may_seal c.args.m.now c.loop-i.m c.in-Ok.place so.0 so.1.0 given
          (so.1.0.stays.inside ∙ c.requires.inside) filled c.requires.ready;
    }

pub returns-after-loop-i-clause-got : goal.returns-after-loop-i-clause-got
returns-after-loop-i-clause-got g c =
    let so = c.loop-i.invariant in
    let given : ℕ → Value = λ i. value_of c.args.places.now
    (record_field c.args.minor.now.records c.args.r.number i) in
    let all : 5 ≤ c.loop-i.i = c.loop-i-test.false in
    let filled = subst (λ (n : ℕ). AreFilled (held_cells c.args.m.now) given n so.0)
    (let e : c.loop-i.i ≡ 5 = omega (arith, all, c.loop-i.auto.i-end) in e) so.1.1 in
    sealed_as c.args.m.now c.loop-i.m c.in-Ok.place so.0 so.1.0 given c.seal_record.new.self filled
    c.requires.ready c.seal_record.ensures.told

pub returns-after-loop-i-clause-copies : goal.returns-after-loop-i-clause-copies
returns-after-loop-i-clause-copies g c =
    let so = c.loop-i.invariant in
    let m = c.loop-i.m in
    let held = length c.args.m.now.seat.me.own.held in
    let further : held ≤ c.in-Ok.place =
    omega (arith, so.1.0.place_is, cells_many c.args.m.now.seat.me.own.held) in
    copying_then held c.args.m.now m c.seal_record.new.self so.1.2
    (copying_event held m c.seal_record.new.self
    (event.Seal m.seat.me.number c.in-Ok.place kind.Record) finds.Stored (further, refl)
    c.seal_record.ensures.told)

pub returns-after-loop-i-clause-tries : goal.returns-after-loop-i-clause-tries
returns-after-loop-i-clause-tries g c =
    let m = c.loop-i.m in
    copy_made c.args.m.now.seat.me.number c.args.m.now.seat.me.shape.cells c.args.hint c.args.m.now
    m c.seal_record.new.self (event.Seal m.seat.me.number c.in-Ok.place kind.Record) finds.Stored
    refl c.seal_record.ensures.told c.loop-i.invariant.1.3

pub returns-in-Err-clause-copies : goal.returns-in-Err-clause-copies
returns-in-Err-clause-copies g c =
    copying_calm (length c.args.m.now.seat.me.own.held) c.args.m.now c.claim_hinted.new.self
    c.in-Err.ensures.seeking
