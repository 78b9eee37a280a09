-- Each call is for one byte less.
use Rattle.doc_records.proofs.words.+push_bytes.Given as goal

abbrev pub decreases-push_bytes : goal.decreases-push_bytes
decreases-push_bytes l = l.count
