use Rattle.std.proofs.Common.{ap, subst, sym, ◌∙◌}
use Rattle.cell_words.specs.Term.{number}
use Rattle.trails.proofs.Telling.{tells_shows, keeps_begins}
use Rattle.doc_records.specs.Shapes.{IsNum}
use Rattle.doc_records.proofs.Fields.{not_null, not_record}
use Rattle.doc_records.proofs.Spellings.{node_count}
use Rattle.doc_records.proofs.nodes.count.Goals as goal

pub returns-in-Num-clause-count : goal.returns-in-Num-clause-count
returns-in-Num-clause-count g c =
    ap number (c.in-Num.ensures.part ∙ node_count _ c.requires.node)

pub returns-in-Null-clause-count : goal.returns-in-Null-clause-count
returns-in-Null-clause-count g c =
    absurd (not_null _ c.in-Null.ensures.part
    (subst IsNum (sym (node_count _ c.requires.node)) tt))

pub returns-in-Record-clause-count : goal.returns-in-Record-clause-count
returns-in-Record-clause-count g c =
    absurd (not_record _ _ c.in-Record.ensures.part c.in-Record.ensures.stands.1
    (subst IsNum (sym (node_count _ c.requires.node)) tt))

pub returns-in-Num-clause-shows : goal.returns-in-Num-clause-shows
returns-in-Num-clause-shows g c shared =
    tells_shows (c.in-Num.ensures.told shared) (keeps_begins c.read.ensures.later.marks)
