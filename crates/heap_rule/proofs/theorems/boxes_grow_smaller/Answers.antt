use Rattle.heap_rule.proofs.SmallerAfter.{smaller_after}
use Rattle.heap_rule.proofs.theorems.boxes_grow_smaller.Goals as goal

pub returns : goal.returns
returns c = λ fixed s l e shape k facts h proper. smaller_after fixed s l shape k facts e h proper
