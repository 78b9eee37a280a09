use Rattle.mail_rule.proofs.Seen.{small_there, tells_latest, tells_next, tells_position}
use Rattle.mail_rule.proofs.Seen.{tells_sender, tells_value}
use Rattle.mail_rule.proofs.theorems.reads_tell_items.Goals as goal

pub returns : goal.returns
returns c = record {
  latest = λ v w place word anchor step.
      tells_latest v step.core step.lore step.passes step.mine step.kept place anchor;
  position = λ v w place word item knows step.
      tells_position v step.core step.lore step.passes step.mine step.kept place item knows;
  sender = λ v w place word item knows step.
      tells_sender v step.core step.lore step.passes step.mine step.kept place item knows;
  value = λ v w place word item knows step.
      tells_value v step.core step.lore step.passes step.mine step.kept place item knows;
  next = λ v w place word item knows step.
      tells_next v step.core step.lore step.passes step.mine step.kept place item knows;
  small = λ v w place f word item knows step. small_there v w place f word step item knows;
}
