-- What the calls of a handle answer and hand out, by what it owns: of nothing, `NoHandle`; else
-- what its mutator's call says. What is handed out is so where the answer is `Ok`, and else as it
-- was.
-- Source: this project's.
use Rattle.std.specs.Prelude.{ℕ, ◌≡◌, ◌≢◌, ◌≤◌, ◌-◌, ◌⊎◌, ℤ, pos, Bool, List, Option, Some, None}
use Rattle.std.specs.Prelude.{Ok, Err, if◌then◌else◌, length}
use Rattle.std.specs.declared.result.Result.{Result}
use Rattle.heap_c.specs.declared.codes.Code.{Code}
use Rattle.heap_c.specs.declared.codes.Code.TheVariants as code
use Rattle.heap_c.specs.Holding.{AtPlace, Mutator, Owned, StillLocal, turns_of}
use Rattle.heap_c.specs.declared.turns.Turns.{Turns}
use Rattle.heap_c.specs.declared.values.HeapVal.{HeapVal}
use Rattle.local_records.specs.Local.{Local}
use Rattle.heap_c.specs.Calls.{ComparesPlaces, MakesCell, SwapsField, WritesField}
use Rattle.heap_c.specs.Keeps.{KeepsAbove, MakesAbove}
use Rattle.heap_c.specs.Moving.{PromotesRecord}
use Rattle.heap_c.specs.Records.{GetsAllFields, GetsField, MakesRecord, ReadsAllVals, ReadsVal}
use Rattle.heap_c.specs.Records.{PopsRoots, PushesRoot, SetsRoot, TellsPlace, TellsRoot}
use Rattle.heap_c.specs.Turns.{IsNumber}
use Rattle.heap_c.specs.Refusing.{held_of}
use Rattle.heap_c.specs.Walking.{WalksPath}

-- the numbers of heap.h
abbrev pub number_of : Code → ℤ
number_of code.Ok = pos 0
number_of code.NoMemory = pos 1
number_of code.BadPlace = pos 2
number_of code.BadField = pos 3
number_of code.NoRoom = pos 4
number_of code.Wait = pos 5
number_of code.Moved = pos 6
number_of code.NotIn = pos 7
number_of code.BadValue = pos 8
number_of code.IsIn = pos 9
number_of code.NoHandle = pos 10
number_of code.Full = pos 11
number_of code.NoSeat = pos 12
number_of code.Spent = pos 13
number_of code.BadSize = pos 14
number_of code.NotZero = pos 15
number_of code.NoRecords = pos 16
number_of code.Part = pos 17

-- a number is that of a code of which this is so
abbrev pub Numbered : ℤ → (Code → Type 0) → Type 0
Numbered n Is = (c : Code) × ((n ≡ number_of c) × Is c)

-- A handle of nothing is left so, this is as it was, and the call says `NoHandle`; with another one
-- it does that.
module _ {A : Type 0} (Rest : Type 0) (Does : A → A → Code → Type 0) where
  abbrev pub OfHandleOr : Option A → Option A → Code → Type 0
  OfHandleOr None new code.NoHandle = (new ≡ None) × Rest
  OfHandleOr None new _ = ⊥
  OfHandleOr (Some old) (Some new) c = Does old new c
  OfHandleOr (Some old) None c = ⊥

abbrev pub OfHandle : {A : Type 0} → (A → A → Code → Type 0) → Option A → Option A → Code → Type 0
OfHandle Does old new c = OfHandleOr (Unit {0}) Does old new c

-- how many places it holds, and how many more it may: none where it is out
abbrev pub places_held : Option Mutator → ℕ
places_held None = 0
places_held (Some m) =
    if m.owned.held.bound.seat.me.presence.inside then held_of m.owned.held else 0

abbrev pub places_free : Option Mutator → ℕ
places_free None = 0
places_free (Some m) = if m.owned.held.bound.seat.me.presence.inside
    then m.owned.held.bound.seat.me.room - held_of m.owned.held else 0

-- how many roots are on its stack
abbrev pub roots_kept : Option Mutator → ℕ
roots_kept None = 0
roots_kept (Some m) = length m.owned.local.roots

-- What is done at a place, and what was handed out.

-- the place is not looked at where none is to be kept from there on
abbrev pub KeepsAt : (n place count : ℕ) → Mutator → Mutator → Code → Type 0
KeepsAt n place count old new c = (new.steady ≡ old.steady)
    × (((count ≡ 0) × KeepsAbove old.owned new.owned n 0 0 c)
    ⊎ ((1 ≤ count) × AtPlace old new place (c ≡ code.BadPlace)
    (λ at. KeepsAbove old.owned new.owned n at count c)))

abbrev pub WritesAt : (place f : ℕ) → HeapVal → Mutator → Mutator → Code → Type 0
WritesAt place f val old new c = AtPlace old new place (c ≡ code.BadPlace)
    (λ at. WritesField (turns_of old) old.owned.held new.owned.held at f val c
    × StillLocal old new)

abbrev pub SwapsAt : (place f : ℕ) → (was now : HeapVal) → Mutator → Mutator → Code → Type 0
SwapsAt place f was now old new c = AtPlace old new place (c ≡ code.BadPlace)
    (λ at. SwapsField (turns_of old) old.owned.held new.owned.held at f was now c
    × StillLocal old new)

abbrev pub GivesVal : (place f : ℕ) → (was given : HeapVal) → Mutator → Mutator → Code → Type 0
GivesVal place f was given old new c =
    AtPlace old new place ((c ≡ code.BadPlace) × (given ≡ was)) (λ at.
    (((c ≡ code.Ok) × ReadsVal (turns_of old) old.owned.held new.owned.held at f (Ok given))
    ⊎ ((given ≡ was) × ReadsVal (turns_of old) old.owned.held new.owned.held at f (Err c)))
    × StillLocal old new)

-- the number of a new cell's place
abbrev pub GivesPlace : List HeapVal → (was given : ℕ) → Mutator → Mutator → Code → Type 0
GivesPlace vals was given old new c =
    (((c ≡ code.Ok) × ((place : ℕ) × (IsNumber (turns_of old) given place
    × MakesCell (turns_of old) old.owned.held new.owned.held vals (Ok place))))
    ⊎ ((given ≡ was) × MakesCell (turns_of old) old.owned.held new.owned.held vals (Err c)))
    × StillLocal old new

abbrev pub GivesSame : (one other : ℕ) → (was given : ℤ) → Mutator → Mutator → Code → Type 0
GivesSame one other was given old new c =
    AtPlace old new one ((c ≡ code.BadPlace) × (given ≡ was)) (λ first.
    AtPlace old new other ((c ≡ code.BadPlace) × (given ≡ was)) (λ second.
    (((c ≡ code.Ok) × ((same : Bool) × ((given ≡ (if same then pos 1 else pos 0))
    × ComparesPlaces old.owned.held new.owned.held first second (Ok same))))
    ⊎ ((given ≡ was) × ComparesPlaces old.owned.held new.owned.held first second (Err c)))
    × StillLocal old new))

-- the number of a new cell's place, where it was kept
abbrev pub GivesKept : (first : ℕ) → List HeapVal → (was given : ℕ) → Mutator → Mutator → Code
    → Type 0
GivesKept first vals was given old new c =
    MakesAbove old.owned new.owned (turns_of old) first vals c
    × ((((c ≡ code.Ok) × IsNumber (turns_of old) given first) ⊎ ((c ≢ code.Ok) × (given ≡ was)))
    × (new.steady ≡ old.steady))

-- five values
abbrev pub GivesAll : (place : ℕ) → (was given : List HeapVal) → Mutator → Mutator → Code → Type 0
GivesAll place was given old new c =
    AtPlace old new place ((c ≡ code.BadPlace) × (given ≡ was)) (λ at.
    (((c ≡ code.Ok) × ReadsAllVals (turns_of old) old.owned.held new.owned.held at (length was)
    (Ok given))
    ⊎ ((given ≡ was) × ReadsAllVals (turns_of old) old.owned.held new.owned.held at (length was)
    (Err c)))
    × StillLocal old new)

-- A value that was handed out, of a private record or of a cell.
abbrev pub GivesGot : HeapVal → (f : ℕ) → (was given : HeapVal) → Mutator → Mutator → Code → Type 0
GivesGot of f was given old new c =
    ((c ≡ code.Ok) × GetsField old new of f (Ok given))
    ⊎ ((given ≡ was) × GetsField old new of f (Err c))

abbrev pub GivesAllGot : HeapVal → (was given : List HeapVal) → Mutator → Mutator → Code → Type 0
GivesAllGot of was given old new c =
    ((c ≡ code.Ok) × GetsAllFields old new of (length was) (Ok given))
    ⊎ ((given ≡ was) × GetsAllFields old new of (length was) (Err c))

-- what a path led to
abbrev pub GivesWalked : HeapVal → (path : List ℕ) → (was given : HeapVal) → Mutator → Mutator
    → Code → Type 0
GivesWalked of path was given old new c =
    ((c ≡ code.Ok) × WalksPath old new of path (Ok given))
    ⊎ ((given ≡ was) × WalksPath old new of path (Err c))

abbrev pub GivesRoot : (i : ℕ) → (was given : HeapVal) → Mutator → Mutator → Code → Type 0
GivesRoot i was given old new c =
    (((c ≡ code.Ok) × TellsRoot (turns_of old) old.owned i (Ok given))
    ⊎ ((given ≡ was) × TellsRoot (turns_of old) old.owned i (Err c)))
    × (new ≡ old)

-- the number of a place
abbrev pub GivesNumber : (i : ℕ) → (was given : ℕ) → Mutator → Mutator → Code → Type 0
GivesNumber i was given old new c =
    (((c ≡ code.Ok) × TellsPlace (turns_of old) old.owned.held i (Ok given))
    ⊎ ((given ≡ was) × TellsPlace (turns_of old) old.owned.held i (Err c)))
    × (new ≡ old)

-- of the stack of roots
abbrev pub OnRoots : (Turns → Owned → Local → Code → Type 0) → Mutator → Mutator → Code → Type 0
OnRoots Does old new c = Does (turns_of old) old.owned new.owned.local c
    × ((new.owned.held ≡ old.owned.held) × (new.steady ≡ old.steady))

abbrev pub PushesOf : HeapVal → Mutator → Mutator → Code → Type 0
PushesOf val = OnRoots (λ t m later c. PushesRoot t m later val c)

abbrev pub PopsOf : (n : ℕ) → Mutator → Mutator → Code → Type 0
PopsOf n = OnRoots (λ t m later c. PopsRoots m later n c)

abbrev pub SetsOf : (i : ℕ) → HeapVal → Mutator → Mutator → Code → Type 0
SetsOf i val = OnRoots (λ t m later c. SetsRoot t m later i val c)

-- of a new private record, by what a handle owns
abbrev pub MakesOf : (kinds : ℕ) → (words : List ℕ) → Option Mutator → Option Mutator
    → Result HeapVal Code → Type 0
MakesOf kinds words None new r = (r ≡ Err code.NoHandle) × (new ≡ None)
MakesOf kinds words (Some old) (Some new) r =
    MakesRecord (turns_of old) old.owned new.owned.local kinds words r
    × ((new.owned.held ≡ old.owned.held) × (new.steady ≡ old.steady))
MakesOf kinds words (Some old) None r = ⊥

-- a new private record, or no value with the code
abbrev pub IsGiven : Result HeapVal Code → HeapVal → Type 0
IsGiven (Ok val) given = given ≡ val
IsGiven (Err c) given = (given.tag ≡ 4) × (pos given.n ≡ number_of c)

abbrev pub GivesRecord : (kinds : ℕ) → (words : List ℕ) → HeapVal → Option Mutator
    → Option Mutator → Type 0
GivesRecord kinds words given old new = (made : Result HeapVal Code) × (IsGiven made given
    × MakesOf kinds words old new made)

-- the number of a copy's place
abbrev pub GivesCopy : HeapVal → (most was given : ℕ) → Mutator → Mutator → Code → Type 0
GivesCopy val most was given old new c =
    (((c ≡ code.Ok) × ((place : ℕ) × (IsNumber (turns_of old) given place
    × PromotesRecord old.owned new.owned val most (Ok place))))
    ⊎ ((given ≡ was) × PromotesRecord old.owned new.owned val most (Err c)))
    × (new.steady ≡ old.steady)
