-- What the calls of the collector's handle answer, code by code.
-- Source: this project's.
use Rattle.std.specs.Prelude.{ℕ, ◌≡◌, ◌<◌, ◌≤◌, ◌⊎◌, Option, Some, None, IsSome}
use Rattle.heap_c.specs.Keeping.{Keeps}
use Rattle.heap_c.specs.declared.codes.Code.{Code}
use Rattle.heap_c.specs.declared.codes.Code.TheVariants as code
use Rattle.heap_c.specs.Holding.{Mutator}
use Rattle.heap_c.specs.Refusing.{IsOut}

-- of a call that needs no more than a handle
abbrev pub when_there : Option Keeps → Code
when_there None = code.NoHandle
when_there (Some k) = code.Ok

-- of moves: they were made, or all cycles were
abbrev pub StepSays : Option Keeps → Code → Type 0
StepSays None c = c ≡ code.NoHandle
StepSays (Some k) c = (c ≡ code.Ok) ⊎ (c ≡ code.Spent)

-- the sizes that a heap may have
abbrev pub IsSize : (cells mutators stack boxes : ℕ) → Type 0
IsSize cells mutators stack boxes = (0 < cells) × (cells ≤ 4194304) × (0 < mutators)
    × (mutators ≤ 1048576) × (0 < stack) × (stack ≤ 1048576)
    × (0 < boxes) × (boxes ≤ 5)

-- of an opening, with what the handle owned and owns
abbrev pub Opens : (cells mutators stack boxes : ℕ) → (was given : Option Keeps) → Code → Type 0
Opens cells mutators stack boxes was given code.Ok =
    (was ≡ None) × (IsSize cells mutators stack boxes × IsSome given)
Opens cells mutators stack boxes was given code.NotZero = IsSome was × (given ≡ was)
Opens cells mutators stack boxes was given code.BadSize =
    (was ≡ None) × ((¬ IsSize cells mutators stack boxes) × (given ≡ was))
Opens cells mutators stack boxes was given code.NoMemory =
    (was ≡ None) × (IsSize cells mutators stack boxes × (given ≡ was))
Opens cells mutators stack boxes was given _ = ⊥

-- a mutator that was just seated: it is out, may hold so many places, and has no room for private
-- records, and no place has moved
pub record IsFresh (places : ℕ) (m : Mutator) : Type 0 where
  pub out : IsOut m.owned.held
  pub room : m.owned.held.bound.seat.me.room ≡ places
  pub records : m.owned.local.room ≡ 0
  pub turn : m.owned.local.turn ≡ 0
  pub steady : m.steady ≡ 4294967296

-- of a seat that is asked for
abbrev pub Seats : (room : ℕ) → Keeps → (was given : Option Mutator) → Code → Type 0
Seats room k was given code.Ok =
    (was ≡ None) × ((8 ≤ room) × ((k.given < k.heap.shape.mutators)
    × ((m : Mutator) × ((given ≡ Some m) × IsFresh room m))))
Seats room k was given code.NoSeat = (k.heap.shape.mutators ≤ k.given) × (given ≡ was)
Seats room k was given code.NotZero = IsSome was × (given ≡ was)
Seats room k was given code.BadSize = (room < 8) × (given ≡ was)
Seats room k was given code.NoMemory = given ≡ was
Seats room k was given _ = ⊥
