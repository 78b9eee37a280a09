use Rattle.doc_records.proofs.Rows.{names_shown}
use Rattle.doc_records.proofs.listing.names.Goals as goal

pub returns-clause-shows : goal.returns-clause-shows
returns-clause-shows g c =
    names_shown c.read_names-names.result _ _ _ _ _ c.requires.node.node
    c.read_names-names.ensures.told c.read_names-names.ensures.later.marks
    c.cut.ensures.kept.marks
