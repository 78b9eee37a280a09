-- Pending writes, and the fields that they put in doubt.
--
-- A doubtful field is one of a cell that is held, so the cell is live and a box.
use Rattle.std.proofs.Common.{◌≡◌, ℕ, true, List, Some, None, subst}
use Rattle.cell_words.specs.declared.fields.Field.{Field}
use Rattle.cell_words.specs.declared.presences.Status.{Status}
use Rattle.core_machine.specs.declared.pending.Pending.{Pending}
use Rattle.core_machine.specs.Own.{Own}
use Rattle.core_machine.specs.State.{State, field_of, held_of}
use Rattle.core_machine.specs.Words.{is_box_kind}
use Rattle.dlg_core.specs.Consistent.{IsConsistent}
use Rattle.dlg_core.specs.Doubt.{IsPending, IsInDoubt, IsDoubtful}
use Rattle.dlg_core.specs.Facts.{live}
use Rattle.dlg_core.proofs.HeldLists.{at_place}

-- a part without a pending write owes nothing for one
pub no_pending : (status : Status) (own : Own) (rows : List (List Field)) → own.pending ≡ None
    → (write : Pending) → own.pending ≡ Some write → IsPending status own rows write
no_pending status own rows none write e = absurd cc

-- and puts nothing in doubt
pub no_doubt : (own : Own) (c f : ℕ) (x : Field) → own.pending ≡ None → ¬ (IsInDoubt own c f x)
no_doubt own c f x none doubt = let e = doubt.begun in cc

pub doubtful_live : (s : State) (c f : ℕ) (x : Field) → IsConsistent s → IsDoubtful s.owns c f x
    → live s.colours s.control s.collector.sweep c ≡ true
doubtful_live s c f x k is =
    let i = is.mutator in
    let write = is.doubt.write in
    subst (λ d. live s.colours s.control s.collector.sweep d ≡ true) is.doubt.cell
    (at_place (λ d. live s.colours s.control s.collector.sweep d ≡ true) (held_of s i) write.place
    (k.cells.pendings i write is.doubt.begun).there (k.cells.held_live i))

pub doubtful_box : (s : State) (c f : ℕ) (x : Field) → IsConsistent s → IsDoubtful s.owns c f x
    → is_box_kind (field_of s c 5) ≡ true
doubtful_box s c f x k is =
    subst (λ d. is_box_kind (field_of s d 5) ≡ true) is.doubt.cell
    (k.cells.pendings is.mutator is.doubt.write is.doubt.begun).box
