-- A cell that is made in one call: what its fields may be, and what is held and known of it then.
-- Source: this project's.
use Rattle.std.specs.Prelude.{ℕ, ◌≡◌, ◌≢◌, ◌<◌, ◌≤◌, ◌+◌, ◌^◌, ◌++◌, true, List, [], ◌∷◌, length}
use Rattle.std.specs.Prelude.{slice_index_or}
use Rattle.cell_words.specs.declared.fields.Field.{Field}
use Rattle.cell_words.specs.declared.fields.Field.TheVariants as field
use Rattle.cell_words.specs.Term.{Term, five}
use Rattle.core_machine.specs.declared.places.Held.{Held}
use Rattle.heap_rule.specs.declared.known.Known.{Known}
use Rattle.heap_rule.specs.declared.known.Known.TheVariants as knows
use Rattle.heap_rule.specs.declared.view.View.{View}
use Rattle.heap_rule.specs.Asks.{known_of, target}
use Rattle.heap_rule.specs.Lore.{five_nulls}
use Rattle.held_places.specs.Calls.{Goes, known_fresh, settled}
use Rattle.mutator_events.specs.declared.values.Value.{Value}
use Rattle.mutator_events.specs.declared.values.Value.TheVariants as values
use Rattle.mutator_events.specs.Values.{field_at}
use Rattle.mutator_seat.specs.Bound.{Bound, held_cells}
use Rattle.promotion.specs.Copying.{Copied, IsReady, term_at}

abbrev pub value_at : List Value → ℕ → Value
value_at given i = slice_index_or given i values.Null

-- it holds of each of these values
abbrev pub AreAll : (Value → Type 0) → List Value → Type 0
AreAll Q [] = Unit {0}
AreAll Q (v ∷ vs) = Q v × AreAll Q vs

-- The value may be a field of a new box: null, a number that fits a word, or a place below this
-- end whose cell is known as a record or as a box that others may know.
abbrev pub MayName : {P : Type 0} → View P → ℕ → Value → Type 0
MayName v end values.Null = Unit {0}
MayName v end (values.Num n) = n < 2 ^ 62
MayName v end (values.Held place) = (place < end) × (settled (known_of v place) ≡ true)

-- and of a new record: the place is known as a record
abbrev pub MayTerm : List Known → Value → Type 0
MayTerm known value = IsReady known value

-- the five fields that the values stand for, where these places are held
abbrev pub five_fields : List Held → List Value → List Field
five_fields held given =
    field_at held (value_at given 0) ∷ field_at held (value_at given 1)
    ∷ field_at held (value_at given 2) ∷ field_at held (value_at given 3)
    ∷ field_at held (value_at given 4) ∷ []

-- where the place is known as fresh, none of the values names its cell
abbrev pub IsUnnamed : {P : Type 0} → View P → List Value → ℕ → Type 0
IsUnnamed v given place = known_fresh (known_of v place) ≡ true → (i other : ℕ) → i < 5
    → value_at given i ≡ values.Held other → target v place ≢ target v other

-- a raw cell at this place that may get these fields; each cell that they name is held before it
pub record MayFillAll {P : Type 0} (m : Bound P) (fresh : ℕ) (given : List Value) : Type 0 where
  pub inside : m.seat.me.presence.inside ≡ true
  pub there : fresh < length m.seat.me.own.held
  pub many : length m.seat.me.known ≡ length m.seat.me.own.held
  pub raw : known_of m.seat.me fresh ≡ knows.Raw five_nulls
  pub apart : (place : ℕ) → place < fresh → target m.seat.me place ≢ target m.seat.me fresh
  pub named : (i : ℕ) → i < 5 → MayName m.seat.me fresh (value_at given i)

-- the first n fields of a raw cell have these values, and the others are null
pub record AreFields (held : List Held) (given : List Value) (n : ℕ) (fields : List Field)
    : Type 0 where
  pub five : length fields ≡ 5
  pub done : (i : ℕ) → i < n
      → slice_index_or fields i field.Null ≡ field_at held (value_at given i)
  pub rest : (i : ℕ) → n ≤ i → i < 5 → slice_index_or fields i field.Null ≡ field.Null

-- The first n of the values are filled in. What is known of the places before the cell is as it
-- was, except for those that are known as fresh and are named now.
pub record Filled {P : Type 0} (old : Bound P) (fresh : ℕ) (given : List Value) (n : ℕ)
    (m : Bound P) : Type 0 where
  pub goes : Goes [] old m
  pub held : held_cells m ≡ held_cells old
  pub many : length m.seat.me.known ≡ length m.seat.me.own.held
  pub fields : List Field
  pub raw : known_of m.seat.me fresh ≡ knows.Raw fields
  pub are : AreFields old.seat.me.own.held given n fields
  pub known : (place : ℕ) → place < fresh → IsUnnamed old.seat.me given place
      → known_of m.seat.me place ≡ known_of old.seat.me place
  pub pass : m.seat.me.pass ≡ old.seat.me.pass
  pub claims : m.seat.me.own.claims ≡ old.seat.me.own.claims

-- A new cell is held at the last place, as a box with these fields that no cell names. What was
-- known of the other places is as it was, except for those that are known as fresh and are named
-- now.
pub record MakesBox {P : Type 0} (old : Bound P) (place : ℕ) (given : List Value) (new : Bound P)
    : Type 0 where
  pub cell : ℕ
  pub goes : Goes [] old new
  pub place_is : place ≡ length old.seat.me.own.held
  pub held : held_cells new ≡ held_cells old ++ cell ∷ []
  pub is_new : (other : ℕ) → other < length old.seat.me.own.held
      → target old.seat.me other ≢ cell
  pub many : length new.seat.me.known ≡ length new.seat.me.own.held
  pub box : known_of new.seat.me place
      ≡ knows.Fresh (five_fields old.seat.me.own.held given)
  pub known : (other : ℕ) → other < length old.seat.me.own.held
      → IsUnnamed old.seat.me given other
      → known_of new.seat.me other ≡ known_of old.seat.me other
  pub pass : new.seat.me.pass ≡ old.seat.me.pass
  pub claims : new.seat.me.own.claims ≡ old.seat.me.own.claims + 1

-- the terms of the five values make that of a record
abbrev pub five_terms : List Known → List Value → Term
five_terms known given =
    five (term_at known (value_at given 0)) (term_at known (value_at given 1))
    (term_at known (value_at given 2)) (term_at known (value_at given 3))
    (term_at known (value_at given 4))

-- a new cell is held at the last place, as a record with their term; all else is known as it was
abbrev pub MakesRecord : {P : Type 0} → Bound P → ℕ → List Value → Bound P → Type 0
MakesRecord old place given new = Copied old place (five_terms old.seat.me.known given) new
