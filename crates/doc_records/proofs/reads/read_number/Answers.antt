use Rattle.doc_records.proofs.Fields.{untold}
use Rattle.doc_records.proofs.reads.read_number.Goals as goal

pub read_word-requires-clause-stands : goal.read_word-requires-clause-stands
read_word-requires-clause-stands g c = c.requires.stands

pub read_word-requires-clause-range : goal.read_word-requires-clause-range
read_word-requires-clause-range g c = c.requires.range

pub read_word-requires-clause-place : goal.read_word-requires-clause-place
read_word-requires-clause-place g c = c.requires.place

pub read_word-requires-clause-num : goal.read_word-requires-clause-num
read_word-requires-clause-num g c = c.requires.num

pub returns-clause-number : goal.returns-clause-number
returns-clause-number g c = c.read_word.ensures.number

pub returns-clause-fits : goal.returns-clause-fits
returns-clause-fits g c = c.read_word.ensures.fits

pub returns-clause-later : goal.returns-clause-later
returns-clause-later g c = c.read_word.ensures.later

pub returns-clause-held : goal.returns-clause-held
returns-clause-held g c = c.read_word.ensures.held

pub returns-clause-records : goal.returns-clause-records
returns-clause-records g c = c.read_word.ensures.records

pub returns-clause-told : goal.returns-clause-told
returns-clause-told g c shared = untold _ _ c.read_word.ensures.later.marks
