-- What the collector's code keeps at hand of the collector's own part, and what a change of the
-- part makes of it. Who answered is not kept: a cycle learns it from its polls.
-- Source: this project's.
use Rattle.std.specs.Prelude.{[], false}
use Rattle.cell_heap.specs.declared.progress.Progress.{Progress}
use Rattle.core_machine.specs.Collector.{Collector}

abbrev pub progress_of : Collector → Progress
progress_of part = record {
  cursor = part.cursor;
  clean = part.clean;
  scan = part.scan;
  sweep = part.sweep;
  freed = part.number_freed;
}

-- a part with this, and nothing else
abbrev pub part_of : Progress → Collector
part_of progress = record {
  answered = [];
  anchor_marked = false;
  cursor = progress.cursor;
  clean = progress.clean;
  scan = progress.scan;
  sweep = progress.sweep;
  times_freed = [];
  number_freed = progress.freed;
}

abbrev pub changed : (Collector → Collector) → Progress → Progress
changed change progress = progress_of (change (part_of progress))
