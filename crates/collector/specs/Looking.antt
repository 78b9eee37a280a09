-- What a look of tracing found.
-- Source: this project's.
use Rattle.std.specs.Prelude.{Option, Some, None}
use Rattle.core_machine.specs.declared.progress.Scanning.{Scanning}
use Rattle.collector.specs.Bound.{scan_at}
use Rattle.collector.specs.Counting.{nothing, passes_one}
use Rattle.collector.specs.declared.report.CycleReport.{CycleReport}
use Rattle.collector.specs.declared.tracing.Looked.{Looked}
use Rattle.collector.specs.declared.tracing.Looked.TheVariants as looked

abbrev pub counted : Looked → CycleReport
counted (looked.Gray c) = nothing
counted (looked.Other ends) = passes_one ends

-- the scan after it
abbrev pub scan_of : Looked → Option Scanning
scan_of (looked.Gray c) = Some (scan_at c 0)
scan_of (looked.Other ends) = None
