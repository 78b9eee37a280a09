-- What every run keeps, from any state that has the invariant.
use Rattle.std.proofs.Common.{◌≡◌, ◌≤◌, ◌<◌, ℕ, true, List, [], ◌∷◌, length, take, Result, Ok, Err}
use Rattle.std.proofs.Common.{IsTrue, refl, sym, subst, arith}
use Rattle.std.specs.List.{list_all}
use Rattle.std.proofs.lemmas.Bool.{and_parts, and_from, ltb-true, lt-ltb}
use Rattle.cell_words.specs.declared.fields.Field.{Field}
use Rattle.cell_words.specs.declared.fields.Field.TheVariants as field
use Rattle.core_machine.specs.declared.events.Event.{Event}
use Rattle.core_machine.specs.Takes.{Takes}
use Rattle.core_machine.specs.InRange.{InRange, IsShaped, names_below, rows_name_below}
use Rattle.core_machine.specs.Next.{can, after, next}
use Rattle.core_machine.specs.State.{State, opening}
use Rattle.core_machine.proofs.Ranges.Events.{after_shaped, when_some}
use Rattle.core_machine.proofs.Ranges.Start.{opening_shaped, rows_below}
use Rattle.dlg_core.proofs.Starts.{opening_consistent}
use Rattle.dlg_core.specs.Consistent.{IsConsistent}
use Rattle.dlg_core.specs.FirstRows.{is_first_value, is_first_row, are_first_rows, AreRows}
use Rattle.dlg_core.specs.Kept.{IsKept}
use Rattle.dlg_core.specs.Runs.{LeadsTo}
use Rattle.dlg_core.specs.Safe.{StaysSafe}
use Rattle.dlg_core.proofs.Safety.{consistent_safe}
use Rattle.dlg_core.proofs.Step.{consistent_after}

-- What each event keeps of states with the invariant holds at the end of a run.
pub along_run : (P : State → Type 0)
    → ((s : State) (e : Event) → IsShaped s → IsConsistent s → can s e ≡ true → P s → P (after s e))
    → (s : State) (events : List Event) (t : State) → LeadsTo s events t → IsShaped s
    → IsConsistent s → P s → P t
along_run P step s [] t leads range k here = subst P leads.ends here
along_run P step s (e ∷ events) t leads range k here =
    let h = leads.runs.0 in
    along_run P step (after s e) events t record { runs = leads.runs.2; ends = leads.ends }
    (after_shaped s e range h)
    (consistent_after s e range k h) (step s e range k h here)

-- as the invariant does
pub shaped_along : (s : State) (events : List Event) (t : State) → LeadsTo s events t → IsShaped s
    → IsConsistent s → IsShaped t
shaped_along s events t leads range k = along_run IsShaped
    (λ s e range k h r. after_shaped s e r h) s events t leads range k range

pub consistent_along : (s : State) (events : List Event) (t : State) → LeadsTo s events t
    → IsShaped s → IsConsistent s → IsConsistent t
consistent_along s events t leads range k = along_run IsConsistent
    (λ s e range k h r. consistent_after s e range r h) s events t leads range k k

pub stays_safe : (s : State) (events : List Event) → IsShaped s → IsConsistent s
    → StaysSafe s events
stays_safe s events shape k n t leads = consistent_safe t
    (consistent_along s (take n events) t leads shape k)

-- whatever a call of one event answers, the invariant stays
pub takes_consistent : {U E : Type 0} (result : Result U E) (old new : State) (e : Event)
    → InRange old → IsConsistent old
    → Takes result old (next old e) new → IsConsistent new
takes_consistent (Ok done) old new e range k is =
    let happens = when_some (can old e) (after old e) new is in
    subst IsConsistent happens.1 (consistent_after old e range.shape k happens.0)
takes_consistent (Err refusal) old new e range k is = subst IsConsistent (sym is.1) k

pub value_named : (count cells : ℕ) (x : Field) → count ≤ cells → is_first_value count x ≡ true
    → names_below cells x ≡ true
value_named count cells field.Null le h = refl
value_named count cells (field.Num n) le h = refl
value_named count cells (field.Cell c) le h = let lt = ltb-true c count h in lt-ltb c cells
    (omega arith)

-- the first rows name cells that there are
pub row_named : (count cells : ℕ) (row : List Field) → count ≤ cells
    → list_all (is_first_value count) row ≡ true
    → list_all (names_below cells) row ≡ true
row_named count cells [] le h = refl
row_named count cells (x ∷ xs) le h =
    let r = and_parts _ _ h in
    and_from (names_below cells x) (list_all (names_below cells) xs)
    (value_named count cells x le r.0) (row_named count cells xs le r.1)

pub rows_named : (count cells : ℕ) (rows : List (List Field)) → count ≤ cells
    → list_all (is_first_row count) rows ≡ true
    → rows_name_below cells rows ≡ true
rows_named count cells [] le h = refl
rows_named count cells (row ∷ rows) le h =
    let r = and_parts _ _ h in
    let q = and_parts _ _ r.0 in
    and_from (list_all (names_below cells) row) (rows_name_below cells rows)
    (row_named count cells row le q.0) (rows_named count cells rows le r.1)

pub first_rows_named : (cells : ℕ) (first : List (List Field)) → length first ≤ cells
    → IsTrue (are_first_rows first)
    → IsTrue (rows_name_below cells first)
first_rows_named cells first le h = rows_named (length first) cells first le (and_parts _ _ h).1

pub kept_safe : (s : State) (events : List Event) → IsKept s → StaysSafe s events
kept_safe s events k = stays_safe s events k.range.shape k.consistent

-- an opening on rows that meet the conditions has its shape
pub rows_shaped : (cells : ℕ) (rooms : List ℕ) (first : List (List Field)) → AreRows first
    → IsTrue (are_first_rows first)
    → length first ≤ cells → IsShaped (opening cells rooms first)
rows_shaped cells rooms first six rows few =
    let some : 0 < length first = ltb-true 0 (length first)
    (and_parts _ _ (and_parts _ _ rows).0).0 in
    opening_shaped cells rooms first (omega arith) few six
    (rows_below cells first (first_rows_named cells first few rows))

-- every run from an opening stays safe
pub every_run_safe : (cells : ℕ) (rooms : List ℕ) (first : List (List Field)) (events : List Event)
    → AreRows first
    → IsTrue (are_first_rows first) → length first ≤ cells
    → StaysSafe (opening cells rooms first) events
every_run_safe cells rooms first events six rows few =
    stays_safe (opening cells rooms first) events (rows_shaped cells rooms first six rows few)
    (opening_consistent cells rooms first few rows)
