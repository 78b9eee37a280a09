-- What a read along a path of fields answers, and what it leaves.
-- Source: this project's.
use Rattle.std.specs.Prelude.{ℕ, ◌≡◌, ◌≢◌, ◌<◌, ◌≤◌, ◌++◌, ◌∷◌, ◌⊎◌, [], List, Ok, Err}
use Rattle.std.specs.declared.result.Result.{Result}
use Rattle.mutator_events.specs.declared.values.Value.TheVariants as values
use Rattle.heap_c.specs.Calls.{IsIn, KeepsChosen}
use Rattle.heap_c.specs.Holding.{Held, Mutator, Owned, turns_of}
use Rattle.heap_c.specs.Keeps.{OnHeld}
use Rattle.heap_c.specs.Records.{GetsField}
use Rattle.heap_c.specs.Refusing.{IsVal, held_of}
use Rattle.heap_c.specs.Turns.{NamesPlace}
use Rattle.heap_c.specs.declared.codes.Code.{Code}
use Rattle.heap_c.specs.declared.codes.Code.TheVariants as code
use Rattle.heap_c.specs.declared.turns.Turns.{Turns}
use Rattle.heap_c.specs.declared.values.HeapVal.{HeapVal}

-- The first field of a path is read of a value, and each further one of what the one before gave.
abbrev pub Follows : Mutator → HeapVal → (path : List ℕ) → Mutator → HeapVal → Type 0
Follows old of [] later found = (later ≡ old) × (found ≡ of)
Follows old of (f ∷ path) later found = (between : Mutator) × ((next : HeapVal)
    × (GetsField old between of f (Ok next) × Follows between next path later found))

-- A field of the path was refused, for this reason, after those before it had been read.
pub record Stops (old : Mutator) (of : HeapVal) (path : List ℕ) (later : Mutator) (c : Code)
    : Type 0 where
  pub before : List ℕ
  pub f : ℕ
  pub after : List ℕ
  pub at : HeapVal
  pub path_is : path ≡ before ++ f ∷ after
  pub followed : Follows old of before later at
  pub refused : GetsField later later at f (Err c)

-- The first n places may be kept alone: if there are others it is in, and private records name
-- none of those.
pub record MayStay (n : ℕ) (m : Owned) : Type 0 where
  pub inside : n < held_of m.held → IsIn m.held
  pub some : IsIn m.held → 1 ≤ n
  pub within : n ≤ held_of m.held
  pub named : m.local.named ≤ n

-- The first n places are kept, and after them so many from a place on.
abbrev pub NarrowsTo : (n place count : ℕ) → Mutator → Mutator → Type 0
NarrowsTo n place count last new =
    OnHeld (λ (was now : Held) (c : Code). KeepsChosen was now n place count c) last new code.Ok

-- The first n places are held, and those after them were let go, if there were any.
abbrev pub LetsGo : (n : ℕ) → Mutator → Mutator → Type 0
LetsGo n last new = ((held_of last.owned.held ≡ n) × (new ≡ last))
    ⊎ ((n < held_of last.owned.held) × NarrowsTo n 0 0 last new)

-- what was found is the cell at a place after the first n, of so many that are held
abbrev pub IsAfter : Turns → (n held : ℕ) → HeapVal → (place : ℕ) → Type 0
IsAfter t n held found place =
    (found.tag ≡ 2) × (NamesPlace t found.n place × ((n ≤ place) × (place < held)))

-- After the first n places the cell that was found last is held, if it was read into a place after
-- them, and no other; its place is then the next one.
abbrev pub HandsOn : (n : ℕ) → Mutator → (found : HeapVal) → Mutator → (val : HeapVal)
    → Type 0
HandsOn n last found new val =
    ((place : ℕ) × (IsAfter (turns_of last) n (held_of last.owned.held) found place
    × (IsVal (turns_of last) val (values.Held n) × NarrowsTo n place 1 last new)))
    ⊎ (((place : ℕ) → IsAfter (turns_of last) n (held_of last.owned.held) found place → ⊥)
    × ((val ≡ found) × LetsGo n last new))

-- All fields of the path were read, and what they passed is let go; or one was refused, and what
-- was read before it is let go.
abbrev pub WalksPath : Mutator → Mutator → HeapVal → (path : List ℕ) → Result HeapVal Code
    → Type 0
WalksPath old new of path (Ok val) = (path ≢ []) × ((last : Mutator) × ((found : HeapVal)
    × (Follows old of path last found × HandsOn (held_of old.owned.held) last found new val)))
WalksPath old new of path (Err c) =
    ((c ≡ code.BadSize) × ((path ≡ []) × (new ≡ old)))
    ⊎ ((last : Mutator) × (Stops old of path last c × LetsGo (held_of old.owned.held) last new))
