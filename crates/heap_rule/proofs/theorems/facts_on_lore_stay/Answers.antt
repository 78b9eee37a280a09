use Rattle.heap_rule.proofs.FactsAfter.{facts_after}
use Rattle.heap_rule.proofs.theorems.facts_on_lore_stay.Goals as goal

pub returns : goal.returns
returns c = λ fixed s l e shape k facts h proper. facts_after fixed s l shape k facts e h proper
