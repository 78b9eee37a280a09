use Rattle.std.proofs.Common.{arith}
use Rattle.mail_rule.proofs.Counts.{sends_many, sends_once, sends_rise, was_sent}
use Rattle.mail_rule.proofs.theorems.each_position_is_sent_once.Goals as goal

pub returns : goal.returns
returns c = record {
  many = sends_many;
  once = sends_once;
  rise = sends_rise;
  signed = λ map passes h position first low. was_sent map passes h position first
      (let many = sends_many map passes h in omega (arith, low, many));
}
