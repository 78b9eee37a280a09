-- Events that change no field and no mutator's cells: nothing that lore speaks of changes.
use Rattle.std.proofs.Common.{◌≡◌, ◌==◌, ℕ, Bool, true, false, List, [], ◌∷◌, map, refl, sym, ◌∙◌}
use Rattle.std.proofs.Common.{ap, subst, if◌then◌else◌}
use Rattle.std.proofs.Math.ListN.{set}
use Rattle.std.proofs.lemmas.List.{set-get_or}
use Rattle.cell_words.specs.declared.fields.Field.{Field}
use Rattle.core_machine.specs.declared.places.Held.{Held}
use Rattle.core_machine.specs.Own.{Own}
use Rattle.core_machine.specs.Places.{unmark, mark_of}
use Rattle.core_machine.specs.State.{State, field_in}
use Rattle.dlg_core.specs.Consistent.{IsConsistent}
use Rattle.dlg_core.specs.Reachable.{Reachable, named}
use Rattle.dlg_core.proofs.Each.{own_each}
use Rattle.heap_rule.specs.Facts.{Facts}
use Rattle.heap_rule.specs.Lore.{Lore, cells_of, has, known_in}
use Rattle.heap_rule.proofs.Carried.{SameAt, back_from, still_facts}
use Rattle.heap_rule.proofs.Lists.{reached_held}

module _ (s t : State) (consistent : IsConsistent s) (rows : t.rows ≡ s.rows)
    (cells : (i : ℕ) → cells_of t i ≡ cells_of s i) where
  pub quiet_back : (x : ℕ) → Reachable t x → Reachable s x
  quiet_back = back_from s t
      (λ i x h. reached_held s i x consistent (subst (λ (c : List ℕ). has c x ≡ true) (cells i) h))
      (λ c d f r e. named f r (sym (ap (λ (rs : List (List Field)). field_in rs c f) rows) ∙ e))

  pub quiet_same : (l : Lore) (x : ℕ) → Reachable t x → SameAt s t l l x
  quiet_same l x r = record {
    reached = quiet_back x r;
    rows = λ f. ap (λ (rs : List (List Field)). field_in rs x f) rows;
    term = refl;
    fresh = refl;
    entries = λ f. refl;
  }

  pub quiet_facts : (fixed : ℕ → Bool) (l : Lore) → IsConsistent t → t.mutators ≡ s.mutators
      → Facts fixed s l
      → Facts fixed t l
  quiet_facts fixed l after mutators facts = still_facts fixed s t l after
      (quiet_same l) cells mutators facts

-- what a mutator knows, written back
pub known_back : (l : Lore) (i : ℕ) → record l { known = set l.known i (known_in l.known i) } ≡ l
known_back l i = λ t. record l { known = set-get_or l.known i [] t }

-- Own parts with the same cells.

pub cells_unmarked : (held : List Held)
    → map (λ p. p.cell) (map unmark held) ≡ map (λ p. p.cell) held
cells_unmarked [] = refl
cells_unmarked (p ∷ ps) = ap (λ cs. p.cell ∷ cs) (cells_unmarked ps)

cell_marked : (b : Bool) (p : Held) → (if b then record p { marked = true } else p).cell ≡ p.cell
cell_marked true p = refl
cell_marked false p = refl

pub cells_marked : (c : ℕ) (held : List Held)
    → map (λ p. p.cell) (map (mark_of c) held) ≡ map (λ p. p.cell) held
cells_marked c [] = refl
cells_marked c (p ∷ ps) =
    λ t. cell_marked (p.cell == c) p t ∷ cells_marked c ps t

pub cells_own : (s : State) (i : ℕ) (own : Own) → map (λ p. p.cell) own.held ≡ cells_of s i
    → (j : ℕ) → cells_of (record s { owns = set s.owns i own }) j ≡ cells_of s j
cells_own s i own same j =
    own_each (λ k (o : Own). map (λ p. p.cell) o.held
    ≡ cells_of s k) s.owns i own same (λ k. refl) j
