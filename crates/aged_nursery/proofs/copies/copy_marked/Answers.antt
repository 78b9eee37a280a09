use Rattle.std.proofs.Common.{◌≡◌, ◌<◌, ◌+◌, ◌++◌, ◌∷◌, [], List, ℕ, length, arith, sym, subst, ap}
use Rattle.std.proofs.Common.{◌∙◌, length-append}
use Rattle.std.specs.Prelude.{slice_index_or, slice_set}
use Rattle.minor_heap.specs.declared.fields.MinorField.{MinorField}
use Rattle.minor_heap.specs.Nursery.{IsOrdered, Nursery}
use Rattle.minor_heap.proofs.Terms.{ordered_snoc}
use Rattle.aged_nursery.specs.Copies.{AreCopied, moved_record}
use Rattle.aged_nursery.proofs.Copying.{copied_next, copied_skip, moved_fits, none_more}
use Rattle.aged_nursery.proofs.Copying.{all_ranked, one_more}
use Rattle.aged_nursery.specs.Survivors.{NameNoMore}
use Rattle.aged_nursery.proofs.Naming.{named_more}
use Rattle.aged_nursery.proofs.copies.copy_marked.Goals.{then-marks-number, else-marks-number}
use Rattle.aged_nursery.proofs.copies.copy_marked.Goals as goal

pub copy-made-requires-clause-fits : goal.copy-made-requires-clause-fits
copy-made-requires-clause-fits c =
    moved_fits c.args.heap.now.records c.args.marks.now c.loop-number.numbers
    c.loop-number.other.records c.loop-number.number c.loop-number.invariant.copied
    c.len-number-end.ensures.ordered c.requires.closed (omega arith) c.if-marks-number.true

pub loop-number-preserved : goal.loop-number-preserved
loop-number-preserved c =
    let old = c.args.heap.now.records in
    let marks = c.args.marks.now in
    let numbers = c.loop-number.numbers in
    let new = c.loop-number.other.records in
    let n = c.loop-number.number in
    let so = c.loop-number.invariant in
    let ordered = c.len-number-end.ensures.ordered in
    let stands : n < length old = omega arith in
    let left = so.many in
    elim c.if-marks-number.branch [
      | then-marks-number w ↦
          let fields = moved_record numbers (slice_index_or old n []) in
          let is = w.if-marks-number.true in
          let records : c.if-marks-number.other.records ≡ new ++ fields ∷ [] =
          ap (λ (h : Nursery). h.records) w.other-is ∙ w.copy-made.ensures.records in
          let room = ap (λ (h : Nursery). h.room) w.other-is in
          let longer = ap length records ∙ length-append new (fields ∷ []) in
          let in_numbers : n < length numbers =
          omega (arith, stands, c.requires.numbers, so.numbers) in
          let next = copied_next old marks numbers new n so.copied ordered stands in_numbers
          w.copy-made.result.number w.copy-made.ensures.made left in
          let more = one_more marks n is in
          record {
            copied =
                subst
                (λ (ns : List ℕ). AreCopied old marks ns c.if-marks-number.other.records (n + 1))
                (sym w.numbers-is)
                (subst
                (λ (rs : List (List MinorField)).
                AreCopied old marks (slice_set numbers n w.copy-made.result.number) rs (n + 1))
                (sym records) next);
            named =
                subst (λ (rs : List (List MinorField)). NameNoMore old rs) (sym records)
                (named_more old new numbers n so.named);
            ordered =
                subst (λ (rs : List (List MinorField)). IsOrdered 0 rs) (sym records)
                (ordered_snoc new fields so.ordered
                (moved_fits old marks numbers new n so.copied ordered c.requires.closed stands
                is));
            many = omega (arith, longer, more, left);
            fewer = omega (arith, longer, so.fewer);
            room = room ∙ w.copy-made.ensures.room ∙ so.room;
            numbers = c.if-marks-number.auto.numbers ∙ so.numbers;
          }
      | else-marks-number w ↦
          let is = w.if-marks-number.false in
          let records : c.if-marks-number.other.records ≡ new =
          ap (λ (h : Nursery). h.records) w.other-is in
          let room = ap (λ (h : Nursery). h.room) w.other-is in
          let count = ap length records in
          let more = none_more marks n is in
          record {
            copied =
                subst
                (λ (ns : List ℕ). AreCopied old marks ns c.if-marks-number.other.records (n + 1))
                (sym w.numbers-is)
                (subst
                (λ (rs : List (List MinorField)). AreCopied old marks numbers rs (n + 1))
                (sym records) (copied_skip old marks numbers new n so.copied is));
            named =
                subst (λ (rs : List (List MinorField)). NameNoMore old rs) (sym records) so.named;
            ordered =
                subst (λ (rs : List (List MinorField)). IsOrdered 0 rs) (sym records) so.ordered;
            many = omega (arith, count, more, left);
            fewer = omega (arith, count, so.fewer);
            room = room ∙ so.room;
            numbers = c.if-marks-number.auto.numbers ∙ so.numbers;
          }
    ]

pub returns-clause-many : goal.returns-clause-many
returns-clause-many c =
    c.loop-number.invariant.many
    ∙ all_ranked c.args.heap.now.records c.args.marks.now c.loop-number.number c.requires.closed
    (omega arith)
