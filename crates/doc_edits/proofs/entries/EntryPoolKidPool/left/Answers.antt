use Rattle.std.proofs.Common.{arith, refl}
use Rattle.doc_edits.proofs.Pools.{entries_later}
use Rattle.doc_edits.proofs.Sized.{place_one}
use Rattle.doc_edits.proofs.entries.EntryPoolKidPool.left.Goals as goal

pub returns-clause-later : goal.returns-clause-later
returns-clause-later g c =
    let later = c.read_part.ensures.later in
    entries_later g.R.RecordPool.shown _ _ later
    (omega (
      arith,
      later.room,
      c.read_part.ensures.held,
      place_one c.read_part.result,
      c.requires.places,
    )) (omega arith) refl
