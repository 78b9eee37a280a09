-- What the calls that move private records answer, code by code, and what they leave.
-- Source: this project's.
use Rattle.std.specs.Prelude.{ℕ, ◌≡◌, ◌<◌, ◌≤◌, ◌+◌, ◌/◌, ◌⊎◌, Bool, true, false, List, []}
use Rattle.std.specs.Prelude.{◌∷◌, Ok, Err, length, max, slice_index_or}
use Rattle.std.specs.List.{SameBelow}
use Rattle.std.specs.declared.result.Result.{Result}
use Rattle.aged_nursery.specs.Survivors.{AreSurvivors}
use Rattle.heap_rule.specs.Lore.{known_at}
use Rattle.local_records.specs.Local.{Local}
use Rattle.local_records.specs.Settling.{RootsSettled, cell_count, shared_from}
use Rattle.local_references.specs.Roots.{RootsKeep, private_of}
use Rattle.local_references.specs.declared.roots.Root.{Root}
use Rattle.local_references.specs.declared.roots.Root.TheVariants as root
use Rattle.minor_heap.specs.Spans.{NoneMarked}
use Rattle.minor_heap.specs.Terms.{terms_of}
use Rattle.minor_heap.specs.declared.fields.MinorRef.{MinorRef}
use Rattle.promotion.specs.Copying.{GrownBy}
use Rattle.promotion.specs.Promoting.{knows_term}
use Rattle.promotion.specs.Sharing.{known_terms}
use Rattle.record_copying.specs.Copies.{CopiesUpTo, KeepCopies}
use Rattle.sorted_boxes.specs.Sorts.{SortList, holds_record}
use Rattle.heap_c.specs.Calls.{IsIn, KeepsChosen}
use Rattle.heap_c.specs.Holding.{Held, Mutator, Owned, turns_of}
use Rattle.heap_c.specs.Records.{NamesRecord}
use Rattle.heap_c.specs.Refusing.{IsOut, NoRoomFor, held_of}
use Rattle.heap_c.specs.Turns.{Renumbers, SteadyAfter}
use Rattle.heap_c.specs.declared.codes.Code.{Code}
use Rattle.heap_c.specs.declared.codes.Code.TheVariants as code
use Rattle.heap_c.specs.declared.values.HeapVal.{HeapVal}

-- by root that is a cell, in order, whether it is a record, where the list tells of places
abbrev pub root_sorts : SortList → List Root → List Bool
root_sorts sorts [] = []
root_sorts sorts (root.Null ∷ roots) = root_sorts sorts roots
root_sorts sorts (root.Num n ∷ roots) = root_sorts sorts roots
root_sorts sorts (root.Private r ∷ roots) = true ∷ root_sorts sorts roots
root_sorts sorts (root.Shared place ∷ roots) =
    holds_record sorts place ∷ root_sorts sorts roots

-- The list tells of these roots at the places from one on, and of the places below as it did.
pub record TellsRoots (first : ℕ) (old : SortList) (roots : List Root) (new : SortList)
    : Type 0 where
  pub boxes : new.boxes ≡ old.boxes
  pub many : length new.records ≡ length old.records
  pub same : SameBelow old.records new.records first
  pub told : (k : ℕ) → k < cell_count roots
      → holds_record new (first + k) ≡ slice_index_or (root_sorts old roots) k false

-- Fewer places are free, or there are more of them than a number of the machine counts.
abbrev pub TooFewPlaces : Held → ℕ → Type 0
TooFewPlaces m places = NoRoomFor m places ⊎ (18446744073709551616 ≤ m.bound.seat.me.room)

module _ (m later : Owned) where
  -- The first n places are kept, and those that private records and roots name.
  abbrev pub ReleasesPlaces : (n : ℕ) → Code → Type 0
  ReleasesPlaces n code.Ok =
      KeepsChosen m.held later.held (max n m.local.named) 0 0 code.Ok × (later.local ≡ m.local)
  ReleasesPlaces n code.NotIn = IsOut m.held × (later ≡ m)
  ReleasesPlaces n code.BadPlace = ((n < 1) ⊎ (held_of m.held < n)) × (later ≡ m)
  ReleasesPlaces n _ = ⊥

  -- At most so many private records were copied: their copies are held after all else. Each record
  -- denotes what it did, and a reference or a root is what it was.
  pub record CopiesRecords (most : ℕ) : Type 0 where
    pub grown : CopiesUpTo most m.held.bound later.held.bound
    pub sorts : SameBelow m.held.sorts.records later.held.sorts.records (held_of m.held)
    pub keeps : KeepCopies m.local.copied m.local.places later.local.copied later.local.places
    pub terms : terms_of (known_terms later.held.bound.seat.me.known) later.local.records
        ≡ terms_of (known_terms m.held.bound.seat.me.known) m.local.records
    pub only : later.local ≡ record m.local {
      copied = later.local.copied;
      places = later.local.places;
      named = later.local.named;
    }

  -- one copy at least was made
  abbrev pub MakesCopies : Type 0
  MakesCopies = (n : ℕ) × ((1 ≤ n) × GrownBy n m.held.bound later.held.bound)

  -- A place holds the copy of a private record.
  abbrev pub PromotesRecord : HeapVal → (most : ℕ) → Result ℕ Code → Type 0
  PromotesRecord val most (Ok place) = IsIn m.held × ((r : MinorRef)
      × (NamesRecord m.local val.tag val.n r × ((place < held_of later.held)
      × ((known_at later.held.bound.seat.me.known place
      ≡ knows_term m.held.bound m.local.records r) × CopiesRecords most))))
  PromotesRecord val most (Err code.Part) = IsIn m.held × (MakesCopies × CopiesRecords most)
  PromotesRecord val most (Err code.Wait) = IsIn m.held × CopiesRecords most
  PromotesRecord val most (Err code.Full) = IsIn m.held × CopiesRecords most
  PromotesRecord val most (Err code.NoRoom) =
      IsIn m.held × ((m.held.bound.seat.me.room ≡ held_of m.held) × CopiesRecords 0)
  PromotesRecord val most (Err code.NotIn) = IsOut m.held × (later ≡ m)
  PromotesRecord val most (Err code.BadValue) =
      ((r : MinorRef) → NamesRecord m.local val.tag val.n r → ⊥) × (later ≡ m)
  PromotesRecord val most (Err code.BadSize) = (most ≡ 0) × (later ≡ m)
  PromotesRecord val most (Err _) = ⊥

  -- The first places are held, and then each root that is a cell. No private record is left.
  pub record SettlesRoots (base : ℕ) : Type 0 where
    pub settled : RootsSettled m.held.bound m.local.records m.local.places m.local.roots base
        later.held.bound
    pub sorts : SameBelow m.held.sorts.records later.held.sorts.records base
    pub roots : later.local.roots ≡ shared_from base m.local.roots
    pub named : later.local.named ≡ base + cell_count m.local.roots
    pub empty : later.local.records ≡ []
    pub none : NoneMarked later.local.copied
    pub aged : later.local.aged ≡ 0
    pub turn : later.local.turn ≡ m.local.turn + 1
    pub room : later.local.room ≡ m.local.room
    pub most : later.local.most ≡ m.local.most

-- Private records are copied until the roots lead to no other, and the roots are settled then.
module _ (m later : Owned) (base most : ℕ) where
  abbrev pub SharesRoots : Code → Type 0
  SharesRoots code.Ok = IsIn m.held × ((between : Owned)
      × (CopiesRecords m between most × SettlesRoots between later base))
  SharesRoots code.Part = IsIn m.held × (MakesCopies m later × CopiesRecords m later most)
  SharesRoots code.Wait = IsIn m.held × CopiesRecords m later most
  SharesRoots code.Full = IsIn m.held × CopiesRecords m later most
  SharesRoots code.NoRoom = IsIn m.held
      × ((TooFewPlaces m.held (length m.local.roots) × (later ≡ m))
      ⊎ ((m.held.bound.seat.me.room ≡ held_of m.held + length m.local.roots)
      × CopiesRecords m later 0))
  SharesRoots code.NotIn = IsOut m.held × (later ≡ m)
  SharesRoots code.BadPlace = ((base < 1) ⊎ (held_of m.held < base)) × (later ≡ m)
  SharesRoots code.BadSize = (most ≡ 0) × (later ≡ m)
  SharesRoots code.Spent = (m.local.turn ≡ 4294967295) × (later ≡ m)
  SharesRoots _ = ⊥

-- Records that no root leads to went, and the roots moved with theirs.
pub record AgesRecords (old new : Local) : Type 0 where
  pub keep : RootsKeep old.records old.roots new.records new.roots
  pub survivors : AreSurvivors old.records (private_of old.roots) new.records
      (private_of new.roots)
  pub aged : new.aged ≡ length new.records
  pub none : NoneMarked new.copied
  pub turn : new.turn ≡ old.turn + 1
  pub room : new.room ≡ old.room
  pub most : new.most ≡ old.most
  pub named : new.named ≡ old.named

-- An ageing is enough for so many more records, or is not.
abbrev pub AgesFor : (old new : Local) → (records : ℕ) → Code → Type 0
AgesFor old new records code.Ok =
    AgesRecords old new × (records + length new.records ≤ new.room)
AgesFor old new records code.Part =
    AgesRecords old new × (new.room < records + length new.records)
AgesFor old new records code.Spent = (old.turn ≡ 4294967295) × (new ≡ old)
AgesFor old new records _ = ⊥

-- One ageing and no more, of records of which none has a copy, and none was kept by an ageing
-- before.
abbrev pub Ages : Owned → Owned → Type 0
Ages m later = NoneMarked m.local.copied
    × ((m.local.aged ≡ 0) × ((later.held ≡ m.held) × AgesRecords m.local later.local))

-- at most how many copies a call makes that makes room
abbrev pub slice_of : Owned → ℕ
slice_of m = max 1000 (m.local.room / 8)

-- one step of a sharing that is to leave so many places free
module _ (m later : Owned) (base places : ℕ) where
  abbrev pub SharesFor : Code → Type 0
  SharesFor code.Ok = SharesRoots m later base (slice_of m) code.Ok
      × (held_of later.held + places ≤ later.held.bound.seat.me.room)
  SharesFor code.NoRoom = SharesRoots m later base (slice_of m) code.NoRoom
      ⊎ (SharesRoots m later base (slice_of m) code.Ok × NoRoomFor later.held places)
  SharesFor c = SharesRoots m later base (slice_of m) c

-- There is room for so many more records and places: as it was, after an ageing, or after the last
-- step of a sharing. Or there was an ageing that is not enough, or a step of a sharing that has not
-- ended.
module _ (m later : Owned) (base records places : ℕ) where
  abbrev pub MakesRoom : Code → Type 0
  MakesRoom code.Ok = IsIn m.held
      × ((records + length later.local.records ≤ later.local.room)
      × ((held_of later.held + places ≤ later.held.bound.seat.me.room)
      × ((later ≡ m) ⊎ (Ages m later ⊎ SharesFor m later base places code.Ok))))
  MakesRoom code.Part = IsIn m.held × ((records ≤ m.local.room)
      × ((Ages m later × (later.local.room < records + length later.local.records))
      ⊎ SharesFor m later base places code.Part))
  MakesRoom code.BadSize = (m.local.room < records) × (later ≡ m)
  MakesRoom code.Spent = (m.local.turn ≡ 4294967295) × (later ≡ m)
  MakesRoom c = SharesFor m later base places c

-- Of a call that may have moved places from a base on: which are steady still, and what their
-- numbers from before name.
abbrev pub Steadies : (base : ℕ) → (m later : Mutator) → Type 0
Steadies base m later = SteadyAfter (turns_of m) later.owned.local.turn base later.steady
    × (m.owned.local.turn < later.owned.local.turn → Renumbers (turns_of m) (turns_of later))

-- of a call that does this and may move places from a base on
abbrev pub OnPlaces : (base : ℕ) → (Owned → Owned → Code → Type 0) → Mutator → Mutator → Code
    → Type 0
OnPlaces base Does m later c = Does m.owned later.owned c × Steadies base m later
