use Rattle.std.proofs.Common.{◌≡◌, ◌≤◌, length, IsTrue, Some}
use Rattle.core_replay.specs.Schedule.{schedule_of}
use Rattle.line_texts.specs.Lines.{lines_of}
use Rattle.core_replay.specs.ScheduleValue.{are_sizes}
use Rattle.core_replay.specs.declared.start.Sizes.{Sizes}
use Rattle.core_replay.proofs.Lines.{with_front, left_after}
use Rattle.core_replay.proofs.schedule.read_schedule.Given as goal

abbrev pub invariant-loop-line : goal.invariant-loop-line
invariant-loop-line l = record {
  count : l.number ≡ length l.yielded;
  so_far : with_front l.steps.items (left_after (length l.yielded) (lines_of l.bytes) l.sizes)
      ≡ schedule_of l.bytes;
  few : length l.steps.items ≤ l.number;
  allowed : (found : Sizes) → l.sizes ≡ Some found → IsTrue (are_sizes found);
}
