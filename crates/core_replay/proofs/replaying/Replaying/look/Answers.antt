use Rattle.std.proofs.Common.{rules}
use Rattle.core_replay.proofs.replaying.Replaying.look.Goals as goal

pub returns-in-AnswerOut : goal.returns-in-AnswerOut
returns-in-AnswerOut c = record { look = rw c.in-AnswerOut.is (search rules) }
