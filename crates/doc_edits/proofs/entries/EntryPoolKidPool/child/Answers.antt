use Rattle.std.proofs.Common.{arith, refl}
use Rattle.doc_edits.proofs.Pools.{entries_later}
use Rattle.doc_edits.proofs.entries.EntryPoolKidPool.child.Goals as goal

pub returns-clause-later : goal.returns-clause-later
returns-clause-later g c =
    let later = c.entry_child.ensures.later in
    entries_later g.R.RecordPool.shown _ _ later
    (omega (arith, later.room, c.entry_child.ensures.held, c.requires)) (omega arith) refl
