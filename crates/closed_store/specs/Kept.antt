-- What a census of a closed heap's words finds where these are a store's. A run makes no census,
-- since that takes memory: so this speaks of every answer for which the clauses of `census` hold.
-- Source: this project's.
use Rattle.std.specs.Prelude.{ℕ, ◌≡◌, Option, IfSome, IsSomeAnd, MatchOption}
use Rattle.core_machine.specs.State.{State}
use Rattle.heap_census.specs.Census.{IsCensus, IsFaulty, IsSound}
use Rattle.heap_census.specs.Heap.{heap_of}
use Rattle.heap_census.specs.declared.numbers.Census.{Census}
use Rattle.heap_table.specs.Images.{ImageView, Shows}

-- What is known of an answer of `census` for these words: there is none only of a heap in which a
-- cell with a role is free or has not its layout, and the numbers are those of the heap.
pub record IsAnswer (image : ImageView) (answer : Option Census) : Type 0 where
  pub found : (s : State) → Shows image s
      → MatchOption answer (IsFaulty (heap_of s)) (λ x. IsSound (heap_of s))
  pub counts : (s : State) → Shows image s → IfSome answer (IsCensus (heap_of s))

-- so many versions, and nothing floating where the sweep left nothing
pub record CountsKept (kept : ℕ) (IsSwept : Type 0) (x : Census) : Type 0 where
  pub versions : x.versions ≡ kept
  pub floating : IsSwept → x.floating ≡ 0

-- the words are never refused, and that is what their census counts
abbrev pub HasCensus : ImageView → ℕ → Type 0 → Type 0
HasCensus image kept IsSwept =
    (answer : Option Census) → IsAnswer image answer
    → IsSomeAnd answer (CountsKept kept IsSwept)
