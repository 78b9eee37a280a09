-- A text that is a dump and then further bytes is at fault after the dump's end.
use Rattle.dump_text.proofs.Dumps.{none_is_a_front}
use Rattle.dump_text.proofs.theorems.no_dump_begins_another.Goals as goal

pub returns : goal.returns
returns c = none_is_a_front
