use Rattle.doc_records.proofs.Spellings.{node_text, text_shown}
use Rattle.doc_records.proofs.nodes.text_of.Goals as goal

pub returns-clause-shows : goal.returns-clause-shows
returns-clause-shows g c =
    text_shown c.read_text-text.result _ _ _ _ _ (node_text _ c.requires.node)
    c.read_text-text.ensures.told c.read_text-text.ensures.later.marks c.cut.ensures.kept.marks
