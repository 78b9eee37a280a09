use Rattle.mail_rule.proofs.Counts.{takes_fewer, takes_many, takes_once, takes_rise, takes_sent}
use Rattle.mail_rule.proofs.theorems.each_position_is_taken_once.Goals as goal

pub returns : goal.returns
returns c = record {
  many = takes_many;
  once = takes_once;
  rise = takes_rise;
  sent = takes_sent;
  fewer = takes_fewer;
}
