-- Each call is for fewer bytes.
use Rattle.std.specs.Prelude.{length}
use Rattle.doc_records.proofs.writes.+make_text.Given as goal

abbrev pub decreases-make_text : goal.decreases-make_text
decreases-make_text g l = length l.bytes.now
