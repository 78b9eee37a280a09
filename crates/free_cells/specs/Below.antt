-- The rule of a queue of hints: what ties that which the queue holds to what its passes know.
-- Source: this project's.
use Rattle.std.specs.Prelude.{ℕ, ◌≡◌, ◌≢◌, ◌⊎◌, ◌<◌, List, All}
use Rattle.std.specs.Prelude.{Some}
use mathlib.Core.Option.{some}
use lib.ListN.{get_elem?}
use Rattle.free_cells.specs.declared.counts.Counts.{Counts}
use Rattle.free_cells.specs.Counts.{unused}

module _ (cells : ℕ) (items : List ℕ) (passes : List Counts) where
  pub record IsBelowAt : Type 0 where
    -- each number in the queue is below the number of cells
    pub below : All (λ cell. cell < cells) items
    -- a pass that is in use knows how many cells there are
    pub sized : (i : ℕ) (p : Counts) → get_elem? passes i ≡ some p → (p.cells ≡ cells)
        ⊎ (p ≡ unused)
    -- one that knows what the queue holds knows it exactly
    pub exact : (i : ℕ) (p : Counts) (known : List ℕ) → get_elem? passes i ≡ some p → p.content
        ≡ Some known → items ≡ known
    -- and is the only one in use
    pub only : (i : ℕ) (p : Counts) (known : List ℕ) → get_elem? passes i ≡ some p → p.content
        ≡ Some known
        → (j : ℕ) (q : Counts) → j ≢ i → get_elem? passes j ≡ some q → q ≡ unused

abbrev pub IsBelow : List ℕ → List Counts → Type 0
IsBelow items passes = (cells : ℕ) × IsBelowAt cells items passes
