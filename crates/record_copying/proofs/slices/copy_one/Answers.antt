use Rattle.std.proofs.Common.{◌∙◌, subst}
use Rattle.cell_words.specs.Term.{Term}
use Rattle.heap_rule.specs.Lore.{five_nulls}
use Rattle.minor_heap.specs.Nursery.{field_at}
use Rattle.mutator_seat.specs.Bound.{bound}
use Rattle.promotion.specs.Copying.{Copied, value_of}
use Rattle.promotion.proofs.Filling.{opened, ready_now}
use Rattle.record_copying.proofs.Standing.{copies_one, ready_one, term_one}
use Rattle.record_copying.proofs.slices.copy_one.Goals as goal

pub copy_record-requires-clause-raw : goal.copy_record-requires-clause-raw
copy_record-requires-clause-raw g c =
    let a = bound c.args.heap.now c.args.seat.now in
    let m = bound c.args.heap.now c.claim.new.seat in
    record {
      inside = (opened a m c.in-Some.place c.in-Some.ensures.got).stays.inside ∙ c.requires.inside;
      before = a;
      claimed = c.in-Some.ensures.got;
    }

pub copy_record-requires-clause-ready : goal.copy_record-requires-clause-ready
copy_record-requires-clause-ready g c i lt =
    let a = bound c.args.heap.now c.args.seat.now in
    let m = bound c.args.heap.now c.claim.new.seat in
    ready_now a m c.in-Some.place five_nulls (opened a m c.in-Some.place c.in-Some.ensures.got)
    (value_of c.args.places.now (field_at c.args.minor.now.records c.args.r.number i))
    (ready_one a m c.args.minor.now.records c.args.copied.now c.args.places.now c.args.r
    c.in-Some.place c.requires.ordered c.requires.stands c.requires.shares c.requires.copies
    c.requires.older i lt)

pub returns-in-Some-clause-got : goal.returns-in-Some-clause-got
returns-in-Some-clause-got g c =
    let a = bound c.args.heap.now c.args.seat.now in
    let b = bound c.args.heap.now c.copy_record.new.seat in
    subst (λ (t : Term). Copied a c.in-Some.place t b)
    (term_one a b c.args.minor.now.records c.args.copied.now c.args.places.now c.args.r
    c.in-Some.place c.requires.ordered c.requires.stands c.requires.shares c.requires.copies
    c.requires.older) (c.copy_record.ensures.copied a c.in-Some.ensures.got)

pub returns-in-Some-clause-copies : goal.returns-in-Some-clause-copies
returns-in-Some-clause-copies g c =
    let a = bound c.args.heap.now c.args.seat.now in
    let b = bound c.args.heap.now c.copy_record.new.seat in
    copies_one a b c.args.minor.now.records c.args.copied.now c.args.places.now c.args.r
    c.in-Some.place c.requires.ordered c.requires.stands c.requires.shares c.requires.copies
    c.requires.older (returns-in-Some-clause-got g c) c.requires.fit c.requires.places
