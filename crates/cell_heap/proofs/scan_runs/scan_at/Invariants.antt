use Rattle.heap_rule.specs.Steps.{same_pass}
use Rattle.cell_heap.proofs.scan_runs.scan_at.Given as goal

abbrev pub ghosts-collector_load : goal.ghosts-collector_load
ghosts-collector_load g a = record { event = a.event; next = same_pass }
