use Rattle.heap_rule.specs.Steps.{same_pass}
use Rattle.cell_heap.proofs.scan_runs.shade_at.Given as goal

abbrev pub ghosts-collector_exchange : goal.ghosts-collector_exchange
ghosts-collector_exchange g a = record { event = a.event; next = same_pass }
