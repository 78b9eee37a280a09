-- what was counted, and what the walk would count from here on
use Rattle.std.proofs.Common.{◌≡◌, ◌≤◌, ◌+◌, ℕ}
use Rattle.core_machine.specs.State.{State, field_of}
use Rattle.heap_table.specs.Images.{Shows}
use Rattle.example_log.specs.Leaving.{boxes_from}
use Rattle.example_log.proofs.whole.count_boxes.Given as goal

abbrev pub invariant-loop-seen : goal.invariant-loop-seen
invariant-loop-seen l =
    (l.boxes ≤ l._seen)
    × ((s : State) → Shows l.image s → (left : ℕ) → l._seen + left ≡ l.most
    → l.boxes + boxes_from left s l.at ≡ boxes_from l.most s (field_of s 0 0))
