-- What is known at the places of a held list where a field of one cell is stored: of that cell, and
-- of the one that the value names.
use Rattle.std.proofs.Common.{◌≡◌, ◌≢◌, ◌<◌, ℕ, Bool, true, false, List, [], length, get_or}
use Rattle.std.proofs.Common.{slice_set, inl, inr, refl, sym, ◌∙◌, ap}
use Rattle.std.proofs.lemmas.Bool.{cases_eq}
use Rattle.cell_words.specs.declared.fields.Field.{Field}
use Rattle.cell_words.specs.declared.fields.Field.TheVariants as field
use Rattle.heap_rule.specs.declared.known.Known.{Known}
use Rattle.heap_rule.specs.declared.known.Known.TheVariants as knows
use Rattle.heap_rule.specs.Asks.{is_sealed}
use Rattle.heap_rule.specs.Lore.{at_cell, known_at, known_named}
use Rattle.heap_rule.specs.Lore.{known_revealed, known_set, known_stored, known_stored_if}
use Rattle.heap_rule.specs.Settled.{IsSettled}
use Rattle.heap_rule.proofs.Many.{at_cell_many}
use Rattle.held_places.specs.Calls.{StillKnown, known_fresh, settled}
use Rattle.held_places.proofs.Going.{still_same, still_then}
use Rattle.held_places.proofs.Knowns.{changed_else, changed_fresh, changed_here, changed_still}

-- What is not fresh stays so where fields are stored and cells are named.

set_still : (fixed : ℕ → Bool) (f : ℕ) (value : Field) (k : Known) → (known_fresh k ≡ true → ⊥)
    → StillKnown fixed k (known_set f value k)
set_still fixed f value knows.Nothing other = tt
set_still fixed f value (knows.Raw fields) other = absurd (other refl)
set_still fixed f value (knows.Fresh fields) other = absurd (other refl)
set_still fixed f value (knows.Record t) other = refl
set_still fixed f value (knows.Boxed told) other = still_same fixed (knows.Boxed told)

set_fresh : (f : ℕ) (value : Field) (k : Known)
    → known_fresh (known_set f value k) ≡ known_fresh k
set_fresh f value knows.Nothing = refl
set_fresh f value (knows.Raw fields) = refl
set_fresh f value (knows.Fresh fields) = refl
set_fresh f value (knows.Record t) = refl
set_fresh f value (knows.Boxed told) = refl

revealed_still : (fixed : ℕ → Bool) (k : Known) → (known_fresh k ≡ true → ⊥)
    → StillKnown fixed k (known_revealed k)
revealed_still fixed knows.Nothing other = tt
revealed_still fixed (knows.Raw fields) other = absurd (other refl)
revealed_still fixed (knows.Fresh fields) other = absurd (other refl)
revealed_still fixed (knows.Record t) other = refl
revealed_still fixed (knows.Boxed told) other = still_same fixed (knows.Boxed told)

pub settled_is : (k : Known) → settled k ≡ true → IsSettled k
settled_is knows.Nothing is = absurd cc
settled_is (knows.Raw fields) is = absurd cc
settled_is (knows.Fresh fields) is = absurd cc
settled_is (knows.Record t) is = tt
settled_is (knows.Boxed told) is = tt

pub settled_sealed : (k : Known) → settled k ≡ true → is_sealed k ≡ true
settled_sealed knows.Nothing is = absurd cc
settled_sealed (knows.Raw fields) is = absurd cc
settled_sealed (knows.Fresh fields) is = absurd cc
settled_sealed (knows.Record t) is = refl
settled_sealed (knows.Boxed told) is = refl

module _ (cells : List ℕ) (known : List Known) (many : length known ≡ length cells) where
  named_many : (value : Field) → length (known_named cells known value) ≡ length known
  named_many field.Null = refl
  named_many (field.Num n) = refl
  named_many (field.Cell c) = at_cell_many known_revealed c cells known many

  named_still : (fixed : ℕ → Bool) (value : Field) (place : ℕ) → place < length cells
      → (known_fresh (known_at known place) ≡ true
      → (c : ℕ) → value ≡ field.Cell c → get_or cells place 0 ≢ c)
      → StillKnown fixed (known_at known place) (known_at (known_named cells known value) place)
  named_still fixed field.Null place lt other = still_same fixed (known_at known place)
  named_still fixed (field.Num n) place lt other = still_same fixed (known_at known place)
  named_still fixed (field.Cell c) place lt other =
      changed_still fixed known_revealed c cells known place lt many
      (λ here. revealed_still fixed (known_at known place) (λ fresh. other fresh c refl here))

  -- the value names another cell
  abbrev NamesNot : ℕ → Field → Type 0
  NamesNot c value = (other : ℕ) → value ≡ field.Cell other → c ≢ other

  pub named_not : (value : Field) (place : ℕ) → place < length cells
      → NamesNot (get_or cells place 0) value
      → known_at (known_named cells known value) place ≡ known_at known place
  named_not field.Null place lt other = refl
  named_not (field.Num n) place lt other = refl
  named_not (field.Cell c) place lt other =
      changed_else known_revealed c cells known place lt (other c refl)

  -- the fresh box that the value names
  named_box : (c place : ℕ) (fields : List Field) → place < length cells
      → get_or cells place 0 ≡ c → known_at known place ≡ knows.Fresh fields
      → known_at (known_named cells known (field.Cell c)) place ≡ knows.Boxed []
  named_box c place fields lt is fresh =
      changed_here known_revealed c cells known place lt many is ∙ ap known_revealed fresh

pub stored_many : (cells : List ℕ) (known : List Known) (place f : ℕ) (value : Field)
    → length known ≡ length cells
    → length (known_stored cells known place f value) ≡ length known
stored_many cells known place f value many =
    let set = at_cell_many (known_set f value) (get_or cells place 0) cells known many in
    named_many cells (at_cell (known_set f value) (get_or cells place 0) cells known) (set ∙ many)
    value ∙ set

pub stored_still : (fixed : ℕ → Bool) (cells : List ℕ) (known : List Known) (place f : ℕ)
    (value : Field)
    → length known ≡ length cells → (other : ℕ) → other < length cells
    → (known_fresh (known_at known other) ≡ true → get_or cells other 0 ≢ get_or cells place 0)
    → (known_fresh (known_at known other) ≡ true
    → (c : ℕ) → value ≡ field.Cell c → get_or cells other 0 ≢ c)
    → StillKnown fixed (known_at known other)
    (known_at (known_stored cells known place f value) other)
stored_still fixed cells known place f value many other lt apart unnamed =
    let change = known_set f value in
    let c = get_or cells place 0 in
    let next = at_cell change c cells known in
    let first : StillKnown fixed (known_at known other) (known_at next other) =
    changed_still fixed change c cells known other lt many
    (λ here. set_still fixed f value (known_at known other) (λ fresh. apart fresh here)) in
    let same = changed_fresh change (set_fresh f value) c cells known other lt many in
    still_then fixed (known_at known other) (known_at next other)
    (known_at (known_stored cells known place f value) other) first
    (named_still cells next (at_cell_many change c cells known many ∙ many) fixed value other lt
    (λ fresh. unnamed (sym same ∙ fresh)))

pub stored_box : (cells : List ℕ) (known : List Known) (place f : ℕ) → length known ≡ length cells
    → (other : ℕ) (fields : List Field) → other < length cells
    → known_at known other ≡ knows.Fresh fields
    → known_at (known_stored cells known place f (field.Cell (get_or cells other 0))) other
    ≡ knows.Boxed []
stored_box cells known place f many other fields lt fresh =
    let c = get_or cells other 0 in
    let change = known_set f (field.Cell c) in
    let d = get_or cells place 0 in
    let next = at_cell change d cells known in
    let long = at_cell_many change d cells known many ∙ many in
    elim (cases_eq c d) [
      | inl same ↦ named_box cells next long c other (slice_set fields f (field.Cell c)) lt refl
          (changed_here change d cells known other lt many same ∙ ap change fresh)
      | inr apart ↦ named_box cells next long c other fields lt refl
          (changed_else change d cells known other lt apart ∙ fresh)
    ]

-- whether it is stored, or it is not
pub stored_if_still : (fixed : ℕ → Bool) (made : Bool) (cells : List ℕ) (known : List Known)
    (place f : ℕ) (value : Field) → length known ≡ length cells → (other : ℕ)
    → other < length cells
    → (known_fresh (known_at known other) ≡ true → get_or cells other 0 ≢ get_or cells place 0)
    → (known_fresh (known_at known other) ≡ true
    → (c : ℕ) → value ≡ field.Cell c → get_or cells other 0 ≢ c)
    → StillKnown fixed (known_at known other)
    (known_at (known_stored_if made cells known place f value) other)
stored_if_still fixed true cells known place f value many other lt apart unnamed =
    stored_still fixed cells known place f value many other lt apart unnamed
stored_if_still fixed false cells known place f value many other lt apart unnamed =
    still_same fixed (known_at known other)
