use Rattle.doc_records.proofs.Fields.{untold}
use Rattle.doc_records.proofs.reads.read_part.Goals as goal

pub read-requires-clause-stands : goal.read-requires-clause-stands
read-requires-clause-stands g c = c.requires.stands

pub read-requires-clause-range : goal.read-requires-clause-range
read-requires-clause-range g c = c.requires.range

pub read-requires-clause-place : goal.read-requires-clause-place
read-requires-clause-place g c = c.requires.place

pub returns-clause-part : goal.returns-clause-part
returns-clause-part g c = c.read.ensures.part

pub returns-clause-stands : goal.returns-clause-stands
returns-clause-stands g c = c.read.ensures.stands

pub returns-clause-later : goal.returns-clause-later
returns-clause-later g c = c.read.ensures.later

pub returns-clause-held : goal.returns-clause-held
returns-clause-held g c = c.read.ensures.held

pub returns-clause-records : goal.returns-clause-records
returns-clause-records g c = c.read.ensures.records

pub returns-clause-shared : goal.returns-clause-shared
returns-clause-shared g c = c.read.ensures.shared

pub returns-clause-on : goal.returns-clause-on
returns-clause-on g c = c.read.ensures.on

pub returns-clause-told : goal.returns-clause-told
returns-clause-told g c shared = untold _ _ c.read.ensures.later.marks
