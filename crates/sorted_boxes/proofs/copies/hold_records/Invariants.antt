use Rattle.sorted_boxes.proofs.HeldCopies.{RecordsUpto}
use Rattle.sorted_boxes.proofs.copies.hold_records.Given as goal

abbrev pub invariant-loop-place : goal.invariant-loop-place
invariant-loop-place l = RecordsUpto l.from l.place l.fn.sorts l.sorts
