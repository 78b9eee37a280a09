-- The opening state is consistent: the first cells are white and sealed and name each other alone,
-- all others are blue and null, and nobody is in.
use Rattle.std.proofs.Common.{◌≡◌, inl, inr, ℕ, zero, suc, Bool, true, false, List, [], ◌∷◌, ◌++◌}
use Rattle.std.proofs.Common.{length, replicate, get_or, ◌-◌, ◌<◌, ◌≤◌, arith, refl, sym, subst}
use Rattle.std.proofs.Common.{◌∙◌, ap}
use Rattle.std.specs.List.{All, list_all}
use Rattle.std.proofs.lemmas.Bool.{and_parts, ltb-true, cases_lt}
use Rattle.std.proofs.lemmas.List.{length-replicate}
use Rattle.std.proofs.lemmas.List.Elements.{All-nil}
use Rattle.cell_words.specs.declared.colours.Colour.TheVariants as colour
use Rattle.cell_words.specs.declared.fields.Field.{Field}
use Rattle.cell_words.specs.declared.fields.Field.TheVariants as field
use Rattle.cell_words.specs.declared.controls.Stage.TheVariants as stage
use Rattle.cell_words.specs.declared.presences.Presence.{Presence}
use Rattle.core_machine.specs.Own.{no_own}
use Rattle.core_machine.specs.Places.{holds}
use Rattle.core_machine.specs.State.{opening, null_row, no_presence, opening_presence, colour_of}
use Rattle.core_machine.specs.State.{row_in, field_in, field_of, own_of, presence_of}
use Rattle.core_machine.specs.Words.{is_raw_kind, is_box_kind}
use Rattle.dlg_core.specs.Consistent.{IsConsistent, HoldsNothing, MarkStands, NoRawBlack}
use Rattle.dlg_core.specs.Facts.{is_kind_field, is_live, live, status_fits, IsStaleMode}
use Rattle.dlg_core.specs.FirstRows.{is_first_value, is_sealed_kind, is_first_row, are_first_rows}
use Rattle.dlg_core.proofs.Changes.Live.{not_sweeping, live_outside}
use Rattle.dlg_core.proofs.Doubtful.{no_pending}

-- Lists.

-- past its end the same stands as in it
pub same_everywhere : {X : Type 0} (n i : ℕ) (x : X) → get_or (replicate n x) i x ≡ x
same_everywhere zero i x = refl
same_everywhere (suc n) zero x = refl
same_everywhere (suc n) (suc i) x = same_everywhere n i x

pub front_of : {X : Type 0} (xs ys : List X) (i : ℕ) (d : X) → i < length xs
    → get_or (xs ++ ys) i d ≡ get_or xs i d
front_of [] ys i d lt = absurd (omega arith)
front_of (x ∷ xs) ys zero d lt = refl
front_of (x ∷ xs) ys (suc i) d lt = front_of xs ys i d (omega arith)

pub back_of : {X : Type 0} (xs ys : List X) (i : ℕ) (d x : X) → length xs ≤ i
    → ((j : ℕ) → get_or ys j d ≡ x) → get_or (xs ++ ys) i d ≡ x
back_of [] ys i d x ge all = all i
back_of (y ∷ xs) ys zero d x ge all = absurd (omega arith)
back_of (y ∷ xs) ys (suc i) d x ge all = back_of xs ys i d x (omega arith) all

pub in_replicate : {X : Type 0} (n i : ℕ) (x d : X) → i < n → get_or (replicate n x) i d ≡ x
in_replicate zero i x d lt = absurd (omega arith)
in_replicate (suc n) zero x d lt = refl
in_replicate (suc n) (suc i) x d lt = in_replicate n i x d (omega arith)

pub one_of_list : {X : Type 0} (test : X → Bool) (xs : List X) (i : ℕ) (d : X)
    → list_all test xs ≡ true → i < length xs
    → test (get_or xs i d) ≡ true
one_of_list test [] i d h lt = absurd (omega arith)
one_of_list test (x ∷ xs) zero d h lt = (and_parts _ _ h).0
one_of_list test (x ∷ xs) (suc i) d h lt = one_of_list test xs i d (and_parts _ _ h).1 (omega arith)

-- Fields of the first rows.

-- a cell in a first row is one of the first
pub first_cell : (count : ℕ) (row : List Field) (f d : ℕ)
    → list_all (is_first_value count) row ≡ true
    → get_or row f field.Null ≡ field.Cell d → d < count
first_cell count [] f d h e = absurd cc
first_cell count (x ∷ xs) zero d h e =
    let r = and_parts _ _ h in
    ltb-true d count (subst (λ y. is_first_value count y ≡ true) e r.0)
first_cell count (x ∷ xs) (suc f) d h e = first_cell count xs f d (and_parts _ _ h).1 e

pub sealed_not_raw : (x : Field) → is_sealed_kind x ≡ true → is_raw_kind x ≡ false
sealed_not_raw (field.Num n) h = refl
sealed_not_raw _ h = absurd cc

pub sealed_is_kind : (x : Field) → is_sealed_kind x ≡ true → is_kind_field x ≡ true
sealed_is_kind (field.Num n) h = h
sealed_is_kind _ h = absurd cc

-- The opening.

pub null_rows : (n c f : ℕ) → field_in (replicate n null_row) c f ≡ field.Null
null_rows zero c f = refl
null_rows (suc n) zero f = same_everywhere 6 f field.Null
null_rows (suc n) (suc c) f = null_rows n c f

-- after the first rows all is null
pub null_behind : (first : List (List Field)) (n c f : ℕ) → length first ≤ c
    → field_in (first ++ replicate n null_row) c f ≡ field.Null
null_behind [] n c f ge = null_rows n c f
null_behind (x ∷ xs) n zero f ge = absurd (omega arith)
null_behind (x ∷ xs) n (suc c) f ge = null_behind xs n c f (omega arith)

pub async_fits_idle : {p : Presence} → p ≡ opening_presence → status_fits stage.Idle p.status ≡ true
async_fits_idle {p} e = ap (λ q. status_fits stage.Idle q.status) e

pub opening_consistent : (cells : ℕ) (rooms : List ℕ) (first : List (List Field))
    → length first ≤ cells
    → are_first_rows first ≡ true → IsConsistent (opening cells rooms first)
opening_consistent cells rooms first few h =
    let s = opening cells rooms first in
    let k = length first in
    let a = and_parts _ _ h in
    let b = and_parts _ _ a.0 in
    let some : 0 < k = ltb-true 0 k b.0 in
    let long : length (replicate k colour.White) ≡ k = length-replicate k colour.White in
    let white : (c : ℕ) → c < k → colour_of s c ≡ colour.White
    = (λ c lt. front_of (replicate k colour.White) (replicate (cells - k) colour.Blue) c colour.Blue
    (omega arith)
    ∙ in_replicate k c colour.White colour.Blue lt) in
    let blue : (c : ℕ) → k ≤ c → colour_of s c ≡ colour.Blue
    = (λ c ge. back_of (replicate k colour.White)
    (replicate (cells - k) colour.Blue) c colour.Blue colour.Blue (omega arith)
    (λ j. same_everywhere (cells - k) j colour.Blue)) in
    let row : (c : ℕ) → c < k → row_in s.rows c ≡ row_in first c
    = (λ c lt. front_of first (replicate (cells - k) null_row) c [] lt) in
    let here : (c f : ℕ) → c < k → field_of s c f ≡ field_in first c f
    = (λ c f lt. ap (λ r. get_or r f field.Null) (row c lt)) in
    let null : (c f : ℕ) → k ≤ c → field_of s c f ≡ field.Null
    = (λ c f ge. null_behind first (cells - k) c f ge) in
    let kind : (c : ℕ) → c < k → is_sealed_kind (field_of s c 5) ≡ true
    = (λ c lt. ap is_sealed_kind (here c 5 lt)
    ∙ (and_parts _ _ (one_of_list (is_first_row k) first c [] a.1 lt)).1) in
    let own : (i : ℕ) → own_of s i ≡ no_own = (λ i. same_everywhere (length rooms) i no_own) in
    let alive : (c : ℕ) → c < k → live s.colours s.control s.collector.sweep c ≡ true
    = (λ c lt. live_outside s.colours s.control s.collector.sweep c refl
    ∙ ap (λ x. is_live x false) (white c lt)) in
    record {
      mutators = record {
        statuses = (λ i lt. async_fits_idle
            (in_replicate (length rooms) i opening_presence no_presence lt));
        answered = (λ i lt e. absurd cc);
        modes = (λ i. subst (λ o. IsStaleMode (presence_of s i).status o.mode s.control)
            (sym (own i)) tt);
        out = (λ i o. subst HoldsNothing (sym (own i)) (refl, refl, refl));
        marks = (λ i m. subst (λ o. All (MarkStands s.colours) o.held) (sym (own i))
            (All-nil (MarkStands s.colours)));
      };
      cells = record {
        anchor_box = ap is_box_kind (here 0 5 some) ∙ b.1;
        kinds = (λ c. elim (cases_lt c k) [
          | inl lt ↦ sealed_is_kind (field_of s c 5) (kind c lt)
          | inr ge ↦ ap is_kind_field (null c 5 ge)
        ]);
        blue_null = (λ c f is. elim (cases_lt c k) [
          | inl lt ↦ absurd (let w = white c lt in cc)
          | inr ge ↦ null c f ge
        ]);
        anchor_live = alive 0 some;
        held_live = (λ i. subst
            (λ o. All (λ p. live s.colours s.control s.collector.sweep p.cell ≡ true) o.held)
            (sym (own i))
            (All-nil (λ p. live s.colours s.control s.collector.sweep p.cell ≡ true)));
        child_live = (λ c e. absurd cc);
        names_live = (λ c d f l n. elim (cases_lt c k) [
          | inl lt ↦
              let within = and_parts _ _ (one_of_list (is_first_row k) first c [] a.1 lt) in
              let below = first_cell k (row_in first c) f d within.0 (sym (here c f lt) ∙ n) in
              (alive d below, sealed_not_raw (field_of s d 5) (kind d below))
          | inr ge ↦ absurd (let e = null c f ge in cc)
        ]);
        raw_once = (λ i j c raw hi hj. absurd
            (let none : holds (own_of s i).held c
            ≡ false = ap (λ o. holds o.held c) (own i) in cc));
        raw_not_black = (λ i e. subst (λ o. All (NoRawBlack s.colours s.rows) o.held) (sym (own i))
            (All-nil (NoRawBlack s.colours s.rows)));
        pendings = (λ i. no_pending (presence_of s i).status (own_of s i) s.rows
            (ap (λ x. x.pending) (own i)));
      };
      tracing = record {
        cleared = (λ c e. absurd cc);
        anchor_marked = (λ e. absurd cc);
        traced = (λ e. absurd cc);
        clean_pass = (λ e. absurd cc);
        pass_waits = (λ e. absurd cc);
        scans = (λ x e. absurd cc);
      };
      sweep = record {
        unswept = (λ c far. absurd
            (let never = not_sweeping s.control s.collector.sweep c refl in cc));
        wipes = (λ n e. absurd cc);
        found_black = (λ e. absurd cc);
      };
    }
