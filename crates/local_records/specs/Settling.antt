-- What a mutator holds when the roots of its private records take the place of these.
-- Source: this project's.
use Rattle.std.specs.Prelude.{ℕ, ◌≡◌, ◌+◌, ◌++◌, List, [], ◌∷◌, map, slice_index_or, take}
use Rattle.heap_rule.specs.Lore.{known_at}
use Rattle.heap_rule.specs.declared.known.Known.{Known}
use Rattle.minor_heap.specs.declared.fields.MinorField.{MinorField}
use Rattle.mutator_seat.specs.Bound.{Bound, held_cells}
use Rattle.promotion.specs.Copying.{Appended}
use Rattle.promotion.specs.Promoting.{Stays, knows_term}
use Rattle.local_references.specs.declared.roots.Root.{Root}
use Rattle.local_references.specs.declared.roots.Root.TheVariants as root

-- the places of the roots that are cells, in order, where the copies of records stand at these
abbrev pub places_of : List ℕ → List Root → List ℕ
places_of places [] = []
places_of places (root.Null ∷ roots) = places_of places roots
places_of places (root.Num n ∷ roots) = places_of places roots
places_of places (root.Private r ∷ roots) =
    slice_index_or places r.number 0 ∷ places_of places roots
places_of places (root.Shared place ∷ roots) = place ∷ places_of places roots

-- how many cells a root is, one or none
abbrev pub cells_in : Root → ℕ
cells_in root.Null = 0
cells_in (root.Num n) = 0
cells_in (root.Private r) = 1
cells_in (root.Shared place) = 1

abbrev pub cell_count : List Root → ℕ
cell_count [] = 0
cell_count (x ∷ roots) = cells_in x + cell_count roots

-- a root once its cell, if it is one, is held at this place
abbrev pub shared_at : ℕ → Root → Root
shared_at place root.Null = root.Null
shared_at place (root.Num n) = root.Num n
shared_at place (root.Private r) = root.Shared place
shared_at place (root.Shared q) = root.Shared place

-- the roots once those that are cells are held at the places from this one on, in order
abbrev pub shared_from : ℕ → List Root → List Root
shared_from place [] = []
shared_from place (x ∷ roots) = shared_at place x ∷ shared_from (place + cells_in x) roots

module _ {P : Type 0} where
  -- What is known of the cells that roots are, in order: a private root is a record with the term
  -- of its own, and a place is what it was.
  abbrev pub knows_roots : Bound P → List (List MinorField) → List Root → List Known
  knows_roots m records [] = []
  knows_roots m records (root.Null ∷ roots) = knows_roots m records roots
  knows_roots m records (root.Num n ∷ roots) = knows_roots m records roots
  knows_roots m records (root.Private r ∷ roots) =
      knows_term m records r ∷ knows_roots m records roots
  knows_roots m records (root.Shared place ∷ roots) =
      known_at m.seat.me.known place ∷ knows_roots m records roots

  -- the cells at these places are held once more, at the end
  abbrev pub HoldsAgain : Bound P → List ℕ → Bound P → Type 0
  HoldsAgain old places new =
      Appended old (map (λ place. slice_index_or (held_cells old) place 0) places)
      (map (λ place. known_at old.seat.me.known place) places) new

  -- The first places stay, and after them each root that is a cell is held, in order.
  pub record RootsSettled (old : Bound P) (records : List (List MinorField)) (places : List ℕ)
      (roots : List Root) (base : ℕ) (new : Bound P) : Type 0 where
    pub held : held_cells new ≡ take base (held_cells old)
        ++ map (λ place. slice_index_or (held_cells old) place 0) (places_of places roots)
    pub known : new.seat.me.known
        ≡ take base old.seat.me.known ++ knows_roots old records roots
    pub claims : new.seat.me.own.claims ≡ old.seat.me.own.claims
    pub stays : Stays old new
