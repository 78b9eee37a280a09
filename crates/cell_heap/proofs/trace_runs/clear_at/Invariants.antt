use Rattle.heap_rule.specs.Steps.{same_pass}
use Rattle.cell_heap.proofs.trace_runs.clear_at.Given as goal

abbrev pub ghosts-collector_exchange : goal.ghosts-collector_exchange
ghosts-collector_exchange g a = record { event = a.event; next = same_pass }
