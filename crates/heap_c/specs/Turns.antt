-- How C names places.
--
-- A move of private records may move places too, from its base on. A place below every base so far
-- has its index as its number. Any other has the turn of private records in it, as a reference to a
-- record has, so that a number from before a move names nothing.
-- Source: this project's.
use Rattle.std.specs.Prelude.{ℕ, ◌≡◌, ◌≢◌, ◌<◌, ◌≤◌, ◌+◌, ◌*◌, ◌%◌, ◌⊎◌, min}
use Rattle.heap_c.specs.declared.turns.Turns.{Turns}

-- the number of a reference: its turn, and the number of its record, or the index of its place
abbrev pub ref_number : (turn number : ℕ) → ℕ
ref_number turn number = turn * 4294967296 + number

-- this is the number of the place
abbrev pub NamesPlace : Turns → (n place : ℕ) → Type 0
NamesPlace t n place = ((place < t.steady) × (n ≡ place))
    ⊎ ((t.steady ≤ place) × (n ≡ ref_number t.turn place))

abbrev pub NamesNone : Turns → (n : ℕ) → Type 0
NamesNone t n = (place : ℕ) → NamesPlace t n place → ⊥

-- The number that is given to C. A mutator has fewer than 2^32 places (heap_seat).
abbrev pub IsNumber : Turns → (n place : ℕ) → Type 0
IsNumber t n place = NamesPlace t n (place % 4294967296)

-- Below which place none has moved, once this is the turn. If it is another one than it was, places
-- may have moved from the base on.
abbrev pub SteadyAfter : Turns → (turn base steady : ℕ) → Type 0
SteadyAfter t turn base steady = ((turn ≡ t.turn) × (steady ≡ t.steady))
    ⊎ ((turn ≢ t.turn) × (steady ≡ min t.steady base))

-- After a move each number from before names the place that it did, if that is steady still, and
-- none if it is not; and a reference from before is that of no record. A mutator has fewer than
-- 2^32 places (heap_seat), and fewer private records (heap_records).
pub record Renumbers (t later : Turns) : Type 0 where
  pub kept : (n place : ℕ) → place < later.steady → NamesPlace t n place → NamesPlace later n place
  pub stale : (n place : ℕ) → later.steady ≤ place → place < 4294967296 → NamesPlace t n place
      → NamesNone later n
  pub records : (number other : ℕ) → number < 4294967296
      → ref_number t.turn number ≡ ref_number later.turn other → ⊥
