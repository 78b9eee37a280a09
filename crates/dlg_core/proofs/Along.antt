-- What every run keeps, for runs whose events are told with what they found; and that these are the
-- runs of lists of events.
use Rattle.std.proofs.Common.{◌≡◌, ℕ, zero, suc, true, List, [], ◌∷◌, ◌++◌, length, get_or, IsTrue}
use Rattle.std.proofs.Common.{refl, sym, ◌∙◌, ap, subst}
use Rattle.std.specs.List.{list_all}
use Rattle.std.proofs.lemmas.Bool.{and_parts, ltb-true}
use Rattle.std.proofs.lemmas.List.{append-nil}
use Rattle.cell_words.specs.declared.fields.Field.{Field}
use Rattle.cell_words.specs.declared.fields.Field.TheVariants as field
use Rattle.core_machine.specs.declared.events.Event.{Event}
use Rattle.core_machine.specs.declared.events.Taken.{Taken}
use Rattle.core_machine.specs.InRange.{IsShaped, NumberFits, HasWords}
use Rattle.core_machine.specs.Next.{can, found_by, after}
use Rattle.core_machine.specs.Run.{Runs, last}
use Rattle.core_machine.specs.State.{State, field_in, opening}
use Rattle.core_machine.proofs.HasWords.{opening_has_words, runs_have_words}
use Rattle.core_machine.proofs.Ranges.Events.{after_shaped}
use Rattle.dlg_core.specs.Collects.{AreTwoCycles, IsGarbage, IsFreedSince}
use Rattle.dlg_core.specs.Consistent.{IsConsistent}
use Rattle.dlg_core.specs.FirstRows.{is_first_value, is_first_row, are_first_rows}
use Rattle.dlg_core.specs.Runs.{taken_from, events_of, LeadsTo}
use Rattle.dlg_core.specs.Safe.{IsSafe}
use Rattle.dlg_core.specs.Sums.{IsBalanced}
use Rattle.dlg_core.proofs.Collects.Cycles.{collects}
use Rattle.dlg_core.proofs.Safety.{consistent_safe}
use Rattle.dlg_core.proofs.Step.{consistent_after}
use Rattle.dlg_core.proofs.Sums.{balanced_after}

-- what is told of a run is what its events find
pub taken_again : (s : State) (ts : List Taken) → Runs s ts → taken_from s (events_of ts) ≡ ts
taken_again s [] runs = refl
taken_again s (t ∷ ts) runs =
    let first : record { event = t.event; found = found_by s t.event } ≡ t =
    (λ k. record { event = t.event; found = sym runs.1 k }) in
    λ k. first k ∷ taken_again (after s t.event) ts runs.2 k

-- a run leads to its last state, by its events
pub runs_lead : (s : State) (ts : List Taken) → Runs s ts → LeadsTo s (events_of ts) (last s ts)
runs_lead s ts runs = record {
  runs = subst (Runs s) (sym (taken_again s ts runs)) runs;
  ends = ap (last s) (taken_again s ts runs);
}

-- What each event keeps of states with the invariant.

pub along_taken : (P : State → Type 0)
    → ((s : State) (e : Event) → IsShaped s → IsConsistent s → can s e ≡ true → P s → P (after s e))
    → (s : State) (ts : List Taken) → Runs s ts → IsShaped s → IsConsistent s → P s → P (last s ts)
along_taken P step s [] runs range k here = here
along_taken P step s (t ∷ ts) runs range k here =
    along_taken P step (after s t.event) ts runs.2 (after_shaped s t.event range runs.0)
    (consistent_after s t.event range k runs.0) (step s t.event range k runs.0 here)

pub runs_consistent : (s : State) (ts : List Taken) → IsShaped s → IsConsistent s → Runs s ts
    → IsConsistent (last s ts)
runs_consistent s ts range k runs = along_taken IsConsistent
    (λ s e range k h c. consistent_after s e range k h) s ts runs range k k

pub runs_safe : (s : State) (ts : List Taken) → IsShaped s → IsConsistent s → Runs s ts
    → IsSafe (last s ts)
runs_safe s ts range k runs = consistent_safe (last s ts) (runs_consistent s ts range k runs)

pub runs_balanced : (first : ℕ) (s : State) (ts : List Taken) → IsShaped s → IsConsistent s
    → Runs s ts
    → IsBalanced first s → IsBalanced first (last s ts)
runs_balanced first s ts range k runs here = along_taken (IsBalanced first)
    (balanced_after first) s ts runs range k here

-- garbage before two whole cycles is freed by their end
pub runs_collect : (s : State) (ts : List Taken) (first between next : List Event) (c : ℕ)
    → IsShaped s → IsConsistent s
    → Runs s ts → events_of ts ≡ first ++ (between ++ next) → AreTwoCycles first between next
    → IsGarbage s c
    → IsFreedSince s (last s ts) c
runs_collect s ts first between next c range k runs is cycles garbage =
    collects s (events_of ts) range k [] first between next [] s (last s ts) c
    (is ∙ ap (λ (es : List Event). first ++ (between ++ es)) (sym (append-nil next))) cycles
    (record { runs = tt; ends = refl })
    (subst (λ (es : List Event). LeadsTo s es (last s ts)) is (runs_lead s ts runs)) garbage

-- Runs from an opening.

first_number : (count : ℕ) (x : Field) → is_first_value count x ≡ true → NumberFits x
first_number count field.Null h = tt
first_number count (field.Num n) h = ltb-true n _ h
first_number count (field.Cell c) h = tt

row_numbers : (count : ℕ) (row : List Field) → list_all (is_first_value count) row ≡ true → (f : ℕ)
    → NumberFits (get_or row f field.Null)
row_numbers count [] h f = tt
row_numbers count (x ∷ xs) h zero = first_number count x (and_parts _ _ h).0
row_numbers count (x ∷ xs) h (suc f) = row_numbers count xs (and_parts _ _ h).1 f

rows_numbers : (count : ℕ) (rows : List (List Field)) → list_all (is_first_row count) rows ≡ true
    → (c f : ℕ)
    → NumberFits (field_in rows c f)
rows_numbers count [] h c f = tt
rows_numbers count (row ∷ rows) h zero f = row_numbers count row
    (and_parts _ _ (and_parts _ _ h).0).0 f
rows_numbers count (row ∷ rows) h (suc c) f = rows_numbers count rows (and_parts _ _ h).1 c f

-- every state of a run has words
pub every_run_has_words : (cells : ℕ) (rooms : List ℕ) (first : List (List Field)) (ts : List Taken)
    → IsTrue (are_first_rows first) → Runs (opening cells rooms first) ts
    → HasWords (last (opening cells rooms first) ts)
every_run_has_words cells rooms first ts rows runs =
    runs_have_words (opening cells rooms first) ts runs
    (opening_has_words cells rooms first (rows_numbers (length first) first (and_parts _ _ rows).1))
