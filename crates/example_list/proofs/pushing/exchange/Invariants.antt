-- no rule speaks of the pass
use Rattle.heap_rule.specs.Steps.{same_pass}
use Rattle.example_list.proofs.pushing.exchange.Given as goal

abbrev pub ghosts-update : goal.ghosts-update
ghosts-update a = record { next = same_pass }
