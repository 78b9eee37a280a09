use Rattle.heap_rule.specs.Steps.{same_pass}
use Rattle.cell_heap.proofs.scan_runs.blacken_at.Given as goal

abbrev pub ghosts-collector_store : goal.ghosts-collector_store
ghosts-collector_store g a = record { event = a.event; next = same_pass }
