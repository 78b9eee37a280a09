use Rattle.doc_records.proofs.Fields.{told_word}
use Rattle.doc_records.proofs.reads.read_word.Goals as goal

pub returns-in-Num-clause-told : goal.returns-in-Num-clause-told
returns-in-Num-clause-told g c shared =
    told_word c.in-Num.number _ _ c.read.ensures.later.marks (c.in-Num.ensures.told shared)
