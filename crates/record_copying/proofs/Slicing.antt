-- A slice of copies: what the held list grew by, and what roots have.
use Rattle.std.proofs.Common.{◌≡◌, ◌<◌, ◌≤◌, ◌+◌, ◌∙◌, ◌⊎◌, ⊎_elim, ℕ, List}
use Rattle.std.proofs.Common.{All, Bool, true, false, length, length-append, sym, ap, subst, arith}
use Rattle.std.specs.Prelude.{slice_index_or}
use Rattle.std.specs.List.{Contains}
use Rattle.std.proofs.lemmas.List.Elements.{All-contains_itself}
use Rattle.core_machine.specs.declared.events.Taken.{Taken}
use Rattle.minor_heap.specs.declared.fields.MinorField.{MinorField}
use Rattle.minor_heap.specs.declared.fields.MinorField.TheVariants as field
use Rattle.minor_heap.specs.declared.fields.MinorRef.{MinorRef}
use Rattle.minor_heap.specs.Nursery.{FitsRecord, IsOrdered, field_at}
use Rattle.minor_heap.specs.Reaches.{IsMarked, Reaches, root}
use Rattle.minor_heap.proofs.Terms.{fits_is}
use Rattle.mutator_events.proofs.HeldCells.{cells_many}
use Rattle.mutator_seat.specs.Bound.{Bound, held_cells}
use Rattle.mutator_seat.specs.Stretches.{Calm}
use Rattle.promotion.specs.Copying.{GrownBy}
use Rattle.promotion.proofs.Stretching.{adds_anyhow, adds_calm, any_then, stays_kept, stays_then}
use Rattle.record_copying.specs.Copies.{CopiesUpTo, IsCopied}

module _ {P : Type 0} where
  pub grown_calm : (F : List Taken → Type 0) (a b c : Bound P) (count : ℕ) → GrownBy count a b
      → Calm F b c → GrownBy count a c
  grown_calm F a b c count so calm =
      let g = so.grown in
      record {
        grown = record {
          cells = g.cells;
          terms = g.terms;
          held = calm.kept.held ∙ g.held;
          known = calm.kept.known ∙ g.known;
          many = g.many;
          fit = g.fit;
          claims = calm.kept.claims ∙ g.claims;
          stays = stays_then a b c g.stays (stays_kept b c calm.kept);
          adds = any_then a b c g.adds (adds_anyhow F b c (adds_calm F b c calm));
        };
        count_is = so.count_is;
      }

  -- there is a place for one more
  pub grown_room : (a b : Bound P) (count most : ℕ) → GrownBy count a b
      → length a.seat.me.own.held + most ≤ a.seat.me.room → count < most
      → length b.seat.me.own.held < b.seat.me.room
  grown_room a b count most so room lt =
      let more : length (held_cells b) ≡ length (held_cells a) + length so.grown.cells =
      ap (λ (cs : List ℕ). length cs) so.grown.held
      ∙ length-append (held_cells a) so.grown.cells in
      omega (
        arith,
        more,
        cells_many a.seat.me.own.held,
        cells_many b.seat.me.own.held,
        so.count_is,
        so.grown.stays.room,
        room,
        lt,
      )

  pub up_to_most : (a b : Bound P) (count most : ℕ) → count ≤ most → GrownBy count a b
      → CopiesUpTo most a b
  up_to_most a b count most few so = record { count = count; few = few; grown = so }

-- a record that a field names is older
pub names_older : (records : List (List MinorField)) (n i : ℕ) (older : MinorRef)
    → IsOrdered 0 records → n < length records → field_at records n i ≡ field.Minor older
    → older.number < n
names_older records n i older ordered stands names =
    subst (λ (f : MinorField). FitsRecord n f) names (fits_is records n i ordered stands)

below_or : (k n : ℕ) → k < n + 1 → (k < n) ⊎ (k ≡ n)
below_or k n lt = search (arith, lt)

-- one record further
pub done_more : (marks copied : List Bool) (n : ℕ)
    → ((k : ℕ) → k < n → slice_index_or marks k false ≡ true → slice_index_or copied k false ≡ true)
    → (slice_index_or marks n false ≡ true → slice_index_or copied n false ≡ true)
    → (k : ℕ) → k < n + 1 → slice_index_or marks k false ≡ true
    → slice_index_or copied k false ≡ true
done_more marks copied n done here k lt is =
    ⊎_elim (λ (less : k < n). done k less is)
    (λ (same : k ≡ n). ap (λ (j : ℕ). slice_index_or copied j false) same
    ∙ here (ap (λ (j : ℕ). slice_index_or marks j false) (sym same) ∙ is))
    (below_or k n lt)

-- where all that is marked is copied, the roots are
pub roots_done : (records : List (List MinorField)) (from : List MinorRef)
    (marks copied : List Bool)
    → ((r : MinorRef) → Reaches records (Contains from) r → IsMarked marks r)
    → ((k : ℕ) → slice_index_or marks k false ≡ true → slice_index_or copied k false ≡ true)
    → All (IsCopied copied) from
roots_done records from marks copied marked done i d lt =
    done (slice_index_or from i d).number (marked (slice_index_or from i d) (root (All-contains_itself from i d lt)))
