use Rattle.std.proofs.Common.{arith, refl}
use Rattle.doc_edits.proofs.Pools.{entries_later}
use Rattle.doc_edits.proofs.entries.EntryPoolKidPool.height.Goals as goal

pub returns-clause-later : goal.returns-clause-later
returns-clause-later g c =
    let later = c.read_number.ensures.later in
    entries_later g.R.RecordPool.shown _ _ later
    (omega (arith, later.room, c.read_number.ensures.held, c.requires)) (omega arith) refl
