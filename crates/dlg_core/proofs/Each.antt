-- What holds of each element of a list, after one element was replaced.
use Rattle.std.proofs.Common.{◌≡◌, ◌≢◌, ◌==◌, ℕ, zero, suc, true, ◌<◌, inl, inr, List, [], ◌∷◌}
use Rattle.std.proofs.Common.{length, get_or, refl, subst, arith, eq-eqb, ap, ◌≤◌}
use Rattle.std.proofs.Math.ListN.{set}
use Rattle.std.specs.List.{All}
use Rattle.std.proofs.lemmas.Bool.{or_cases, eqb-true, cases_lt}
use Rattle.std.proofs.lemmas.List.Elements.{All-nil, All-cons, All-head, All-tail}
use Rattle.cell_words.specs.declared.colours.Colour.{Colour}
use Rattle.cell_words.specs.declared.fields.Field.{Field}
use Rattle.cell_words.specs.declared.fields.Field.TheVariants as field
use Rattle.cell_words.specs.declared.presences.Presence.{Presence}
use Rattle.core_machine.specs.declared.places.Held.{Held}
use Rattle.core_machine.specs.State.{colour_in, row_in, field_in, presence_in, own_in, set_field}
use Rattle.core_machine.specs.State.{State, field_of}
use Rattle.core_machine.specs.Own.{Own}
use Rattle.core_machine.specs.Places.{holds}
use Rattle.dlg_core.proofs.Truths.{or_here, or_later}
use Rattle.std.proofs.lemmas.List.{get_or_past}
use Rattle.core_machine.specs.InRange.{IsShaped}

-- at the place of the new element it holds of that one, at every other of the old one
pub set_each : {X : Type 0} (P : ℕ → X → Type 0) (xs : List X) (i : ℕ) (y d : X)
    → (i < length xs → P i y) → ((j : ℕ) → P j (get_or xs j d)) → (j : ℕ)
    → P j (get_or (set xs i y) j d)
set_each P [] i y d here old j = old j
set_each P (x ∷ xs) zero y d here old zero = here (omega arith)
set_each P (x ∷ xs) zero y d here old (suc j) = old (suc j)
set_each P (x ∷ xs) (suc i) y d here old zero = old zero
set_each P (x ∷ xs) (suc i) y d here old (suc j) =
    set_each (λ k. P (suc k)) xs i y d (λ lt. here (omega arith)) (λ k. old (suc k)) j

-- where it need hold of the old ones elsewhere alone
pub set_else : {X : Type 0} (P : ℕ → X → Type 0) (xs : List X) (i : ℕ) (y d : X) → i < length xs
    → P i y → ((j : ℕ) → j ≢ i → P j (get_or xs j d)) → (j : ℕ) → P j (get_or (set xs i y) j d)
set_else P [] i y d lt here old j = absurd (omega arith)
set_else P (x ∷ xs) zero y d lt here old zero = here
set_else P (x ∷ xs) zero y d lt here old (suc j) = old (suc j) (omega arith)
set_else P (x ∷ xs) (suc i) y d lt here old zero = old zero (omega arith)
set_else P (x ∷ xs) (suc i) y d lt here old (suc j) =
    set_else (λ k. P (suc k)) xs i y d (omega arith) here
    (λ k ne. old (suc k) (λ e. ne (omega arith))) j

-- the parts of the state

pub colour_each : (P : ℕ → Colour → Type 0) (colours : List Colour) (c : ℕ) (x : Colour)
    → P c x → ((d : ℕ) → P d (colour_in colours d)) → (d : ℕ) → P d (colour_in (set colours c x) d)
colour_each P colours c x here old d = set_each P colours c x _ (λ lt. here) old d

-- of a cell that there is, where the old colours matter elsewhere alone
pub colour_else : (P : ℕ → Colour → Type 0) (colours : List Colour) (c : ℕ) (x : Colour)
    → c < length colours
    → P c x → ((d : ℕ) → d ≢ c → P d (colour_in colours d)) → (d : ℕ)
    → P d (colour_in (set colours c x) d)
colour_else P colours c x lt here old d = set_else P colours c x _ lt here old d

pub own_each : (P : ℕ → Own → Type 0) (owns : List Own) (i : ℕ) (own : Own)
    → P i own → ((j : ℕ) → P j (own_in owns j)) → (j : ℕ) → P j (own_in (set owns i own) j)
own_each P owns i own here old j = set_each P owns i own _ (λ lt. here) old j

pub presence_each : (P : ℕ → Presence → Type 0) (presences : List Presence) (i : ℕ) (p : Presence)
    → P i p → ((j : ℕ) → P j (presence_in presences j)) → (j : ℕ)
    → P j (presence_in (set presences i p) j)
presence_each P presences i p here old j = set_each P presences i p _ (λ lt. here) old j

pub field_each : (P : ℕ → ℕ → Field → Type 0) (rows : List (List Field)) (c f : ℕ) (x : Field)
    → P c f x → ((d g : ℕ) → P d g (field_in rows d g)) → (d g : ℕ)
    → P d g (field_in (set_field rows c f x) d g)
field_each P rows c f x here old d =
    set_each (λ e row. (g : ℕ) → P e g (get_or row g field.Null)) rows c
    (set (row_in rows c) f x) []
    (λ lt. set_each (P c) (row_in rows c) f x field.Null (λ lt2. here) (old c)) old d

-- Held lists.

-- what holds of every place holds of a held cell
pub all_held : (P : ℕ → Type 0) (places : List Held) (c : ℕ) → All (λ place. P place.cell) places
    → holds places c ≡ true → P c
all_held P [] c all h = absurd cc
all_held P (p ∷ ps) c all h = elim (or_cases (p.cell == c) (holds ps c) h) [
  | inl here ↦ let same : p.cell ≡ c = eqb-true p.cell c here in
      subst P same (All-head (λ place. P place.cell) p ps all)
  | inr there ↦ all_held P ps c (All-tail (λ place. P place.cell) p ps all) there
]

-- what holds of each held cell holds of every place
pub all_from_held : (P : ℕ → Type 0) (places : List Held) → ((c : ℕ) → holds places c ≡ true → P c)
    → All (λ place. P place.cell) places
all_from_held P [] each = All-nil (λ place. P place.cell)
all_from_held P (p ∷ ps) each =
    All-cons (λ place. P place.cell) p ps
    (each p.cell (or_here (p.cell == p.cell) _ (eq-eqb p.cell p.cell refl)))
    (all_from_held P ps (λ c h. each c (or_later (p.cell == c) _ h)))

-- two facts of each element
pub all_both : {X : Type 0} (P Q R : X → Type 0) (xs : List X) → ((x : X) → P x → Q x → R x)
    → All P xs → All Q xs → All R xs
all_both P Q R [] step p q = All-nil R
all_both P Q R (x ∷ xs) step p q =
    All-cons R x xs (step x (All-head P x xs p) (All-head Q x xs q))
    (all_both P Q R xs step (All-tail P x xs p) (All-tail Q x xs q))

-- beyond a row fields are null
pub null_beyond : (s : State) (c f : ℕ) → IsShaped s → 6 ≤ f → field_of s c f ≡ field.Null
null_beyond s c f range past = elim (cases_lt c s.cells) [
  | inl lt ↦
      let six = range.cells_fit.six_fields c lt in
      get_or_past (row_in s.rows c) f field.Null (omega arith)
  | inr out ↦
      let fit = range.cells_fit.rows_fit in
      let empty : row_in s.rows c ≡ [] = get_or_past s.rows c [] (omega arith) in
      ap (λ row. get_or row f field.Null) empty
]

-- another cell's fields stay
pub field_elsewhere : (rows : List (List Field)) (p f : ℕ) (x : Field) (c : ℕ) → c ≢ p → (g : ℕ)
    → field_in (set_field rows p f x) c g ≡ field_in rows c g
field_elsewhere rows p f x c other g =
    field_each (λ d h y. d ≢ p → y ≡ field_in rows d h) rows p f x (λ ne. absurd (ne refl))
    (λ d h ne. refl) c g other
