-- One record copied, and one after the other: what holds between the steps.
-- Source: this project's.
use Rattle.std.specs.Prelude.{ℕ, suc, ◌≡◌, ◌<◌, ◌≤◌, ◌+◌, ◌^◌, Bool, true, false, List, [], ◌∷◌}
use Rattle.std.specs.Prelude.{◌++◌, length, map, slice_index_or}
use Rattle.cell_words.specs.declared.fields.Field.{Field}
use Rattle.cell_words.specs.declared.fields.Field.TheVariants as word
use Rattle.cell_words.specs.Term.{Term, null, num, five}
use Rattle.core_machine.specs.declared.events.Taken.{Taken}
use Rattle.heap_rule.specs.Apart.{IsNewTo}
use Rattle.heap_rule.specs.Facts.{is_term}
use Rattle.heap_rule.specs.Lore.{known_at, term_or}
use Rattle.heap_rule.specs.declared.known.Known.{Known}
use Rattle.heap_rule.specs.declared.known.Known.TheVariants as knows
use Rattle.minor_heap.specs.declared.fields.MinorField.{MinorField}
use Rattle.minor_heap.specs.declared.fields.MinorField.TheVariants as field
use Rattle.minor_heap.specs.Nursery.{field_at}
use Rattle.mutator_events.specs.declared.values.Value.{Value}
use Rattle.mutator_events.specs.declared.values.Value.TheVariants as values
use Rattle.mutator_events.specs.Values.{field_among}
use Rattle.mutator_seat.specs.declared.full.HeapFull.{HeapFull}
use Rattle.mutator_seat.specs.Bound.{Bound, held_cells}
use Rattle.mutator_seat.specs.Claims.{anything}
use Rattle.promotion.specs.Linking.{AreKeeping}
use Rattle.promotion.specs.Promoting.{Adds, HasRefusal, Stays}

-- A field of a record as a value of the shared heap, where the older records' copies stand at these
-- places.
abbrev pub value_of : List ℕ → MinorField → Value
value_of places field.Null = values.Null
value_of places (field.Num n) = values.Num n
value_of places (field.Minor r) = values.Held (slice_index_or places r.number 0)
value_of places (field.Shared place) = values.Held place

-- the value may be a field: a number fits, and a place is known as a record
abbrev pub IsReady : List Known → Value → Type 0
IsReady known values.Null = Unit {0}
IsReady known (values.Num n) = n < 2 ^ 62
IsReady known (values.Held place) = is_term (known_at known place) ≡ true

abbrev pub term_at : List Known → Value → Term
term_at known values.Null = null
term_at known (values.Num n) = num n
term_at known (values.Held place) = term_or null (known_at known place)

-- the term of the copy of record k
abbrev pub copied_term : List Known → List ℕ → List (List MinorField) → ℕ → Term
copied_term known places records k =
    let term : ℕ → Term = λ i. term_at known (value_of places (field_at records k i)) in
    five (term 0) (term 1) (term 2) (term 3) (term 4)

-- the first n fields are these values, where these cells are held, and the others are null
pub record AreFilled (cells : List ℕ) (value : ℕ → Value) (n : ℕ) (fields : List Field)
    : Type 0 where
  pub five : length fields ≡ 5
  pub done : (i : ℕ) → i < n → slice_index_or fields i word.Null ≡ field_among cells (value i)
  pub rest : (i : ℕ) → n ≤ i → i < 5 → slice_index_or fields i word.Null ≡ word.Null

-- how many marks are set
abbrev pub marked_count : List Bool → ℕ
marked_count [] = 0
marked_count (true ∷ marks) = suc (marked_count marks)
marked_count (false ∷ marks) = marked_count marks

-- each record that is marked, of the first n, has its copy at its place
abbrev pub AreCopied : List Known → List Bool → ℕ → List ℕ → List Term → Type 0
AreCopied known marks n places terms =
    (k : ℕ) → k < n → slice_index_or marks k false ≡ true
    → known_at known (slice_index_or places k 0) ≡ knows.Record (slice_index_or terms k null)

module _ {P : Type 0} where
  -- one more cell is held, which is raw with these fields
  pub record Opened (old : Bound P) (place : ℕ) (fields : List Field) (new : Bound P) : Type 0 where
    pub cell : ℕ
    pub place_is : place ≡ length (held_cells old)
    pub is_new : IsNewTo (held_cells old) old.seat.me.known cell
    pub held : held_cells new ≡ held_cells old ++ cell ∷ []
    pub known : new.seat.me.known ≡ old.seat.me.known ++ knows.Raw fields ∷ []
    pub claims : new.seat.me.own.claims ≡ old.seat.me.own.claims + 1
    pub stays : Stays old new
    pub adds : Adds anything old new

  -- one more cell is held, which is a record with this term
  pub record Copied (old : Bound P) (place : ℕ) (t : Term) (new : Bound P) : Type 0 where
    pub cell : ℕ
    pub place_is : place ≡ length (held_cells old)
    pub fit : length (held_cells old) ≡ length old.seat.me.known
    pub held : held_cells new ≡ held_cells old ++ cell ∷ []
    pub known : new.seat.me.known ≡ old.seat.me.known ++ knows.Record t ∷ []
    pub claims : new.seat.me.own.claims ≡ old.seat.me.own.claims + 1
    pub stays : Stays old new
    pub adds : Adds anything old new

  -- some more cells are held, which are records
  pub record Grown (F : List Taken → Type 0) (old new : Bound P) : Type 0 where
    pub cells : List ℕ
    pub terms : List Term
    pub held : held_cells new ≡ held_cells old ++ cells
    pub known : new.seat.me.known ≡ old.seat.me.known ++ map (λ t. knows.Record t) terms
    pub many : length terms ≡ length cells
    -- where cells were added, as many places were known before as held, which a claim told
    pub fit : 0 < length cells → length (held_cells old) ≡ length old.seat.me.known
    pub claims : new.seat.me.own.claims ≡ old.seat.me.own.claims + length cells
    pub stays : Stays old new
    pub adds : Adds F old new

  -- by so many cells
  pub record GrownBy (count : ℕ) (old new : Bound P) : Type 0 where
    pub grown : Grown anything old new
    pub count_is : length grown.cells ≡ count

  abbrev pub Halted : Bound P → HeapFull → Bound P → Type 0
  Halted old full new = Grown (HasRefusal old full) old new

  -- after the places so far there is one for each of these
  pub record Appended (old : Bound P) (cells : List ℕ) (known : List Known) (new : Bound P)
      : Type 0 where
    pub held : held_cells new ≡ held_cells old ++ cells
    pub known_is : new.seat.me.known ≡ old.seat.me.known ++ known
    pub claims : new.seat.me.own.claims ≡ old.seat.me.own.claims
    pub stays : Stays old new
    pub adds : Adds (AreKeeping old.seat.me.number (length old.seat.me.own.held)) old new
