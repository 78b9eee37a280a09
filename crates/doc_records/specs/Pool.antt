-- What a pool of records shows, and what its calls leave as it was. Records are shared cells, at
-- places of a held list, and private records. A private record stands as long as the places that it
-- leads to.
--
-- `Shown` is all that contracts see of a pool, so what stays is a relation of two values (`Later`).
-- `Fact` is what a pool keeps besides: of a client's pool, its mutator and its private records so
-- far. A record stands on the first so many places, so whoever reads many gives their places back
-- (`Kept`).
-- Source: this project's.
use Rattle.std.specs.Prelude.{◌≡◌, ℕ, ◌<◌, ◌≤◌, ◌^◌, Bool, true, false, List, ◌∷◌}
use Rattle.std.specs.Prelude.{Option, Some, None}
use Rattle.cell_words.specs.Term.{Term, null, num, IsFive}
use Rattle.cell_words.specs.declared.fields.Field.TheVariants as field
use Rattle.trails.specs.Marks.{Mark}
use Rattle.trails.specs.Asks.{Ask, gave}
use Rattle.trails.specs.Telling.{Keeps}
use Rattle.doc_records.specs.declared.pool.Part.{Part}
use Rattle.doc_records.specs.declared.pool.Part.TheVariants as parts

-- Besides its records a pool may have more to say, in facts of its own: each stands on so many
-- places of the held list, and what stood on places that stay stands from then on.
pub record Shown (At Fact : Type 0) : Type 1 where
  -- the term of a record
  pub term : At → Term
  -- the record stands on the first so many places of the held list
  pub stands : ℕ → At → Type 0
  -- how many places are held, and how many there are room for
  pub held : ℕ
  pub room : ℕ
  -- the fact stands on the first so many places
  pub says : ℕ → Fact → Type 0
  -- how many more records there is room for
  pub records : ℕ
  -- what was read of shared records
  pub marks : List Mark

-- the term of a part of a record
abbrev pub part_term : {A : Type 0} → (A → Term) → Part A → Term
part_term term parts.Null = null
part_term term (parts.Num n) = num n
part_term term (parts.Record a) = term a

-- a part that a record may have: what it names stands
abbrev pub Stands : {A F : Type 0} → Shown A F → Part A → Type 0
Stands s parts.Null = Unit {0}
Stands s (parts.Num n) = n < 2 ^ 62
Stands s (parts.Record a) = s.stands s.held a × IsFive (s.term a)

-- how many places a part that is read takes
abbrev pub places_of : {A : Type 0} → Part A → ℕ
places_of parts.Null = 0
places_of (parts.Num n) = 0
places_of (parts.Record a) = 1

-- a part names no private record
abbrev pub is_shared : {A : Type 0} → (A → Bool) → Part A → Bool
is_shared shared parts.Null = true
is_shared shared (parts.Num n) = true
is_shared shared (parts.Record a) = shared a

-- whatever stood still stands and says what it said, and the held list is as it was, but that it
-- may be longer
pub record Later {A F : Type 0} (old new : Shown A F) : Type 0 where
  pub still : (a : A) (n : ℕ) → old.stands n a → n ≤ old.held → new.stands n a
  pub now : (a : A) → old.stands old.held a → new.stands new.held a
  pub same : (a : A) → old.stands old.held a → new.term a ≡ old.term a
  pub says : (f : F) (n : ℕ) → old.says n f → n ≤ old.held → new.says n f
  pub longer : old.held ≤ new.held
  pub room : new.room ≡ old.room
  pub marks : Keeps old.marks new.marks

-- the held list is its first so many places, and perhaps what was kept after them
pub record Kept {A F : Type 0} (places : ℕ) (old new : Shown A F) : Type 0 where
  pub still : (a : A) (n : ℕ) → old.stands n a → n ≤ places → new.stands n a
  pub now : (a : A) → old.stands places a → new.stands new.held a
  pub same : (a : A) → old.stands places a → new.term a ≡ old.term a
  pub says : (f : F) (n : ℕ) → old.says n f → n ≤ places → new.says n f
  pub longer : places ≤ new.held
  pub room : new.room ≡ old.room
  pub marks : Keeps old.marks new.marks

-- a record that is shared, or stands on so many places
abbrev pub IsOn : {A F : Type 0} → (A → Bool) → Shown A F → ℕ → A → Type 0
IsOn shared s places a = shared a ≡ false → s.stands places a

abbrev pub PartOn : {A F : Type 0} → (A → Bool) → Shown A F → ℕ → Part A → Type 0
PartOn shared s places parts.Null = Unit {0}
PartOn shared s places (parts.Num n) = Unit {0}
PartOn shared s places (parts.Record a) = IsOn shared s places a

-- how many places a record takes
abbrev pub own_place : Bool → ℕ
own_place true = 1
own_place false = 0

abbrev pub places_found : {A : Type 0} → (A → Bool) → Option A → ℕ
places_found shared None = 0
places_found shared (Some a) = own_place (shared a)

-- the read that gave this part is asked for where that is a number
abbrev pub ask_part : {A : Type 0} → Part A → List Ask → List Ask
ask_part parts.Null rest = rest
ask_part (parts.Num n) rest = gave (field.Num n) ∷ rest
ask_part (parts.Record a) rest = rest
