-- A row of kids as the children that it shows, and where a name stands among children.
-- Source: this project's.
use Rattle.std.specs.Prelude.{◌≡◌, ℕ, Bool, false, zero, suc, ◌-◌, ◌^◌, List, [], ◌∷◌, min}
use Rattle.std.specs.declared.cmp.Ordering.TheVariants.{Equal, Greater}
use Rattle.std.specs.Ordering.{is_le}
use Rattle.std.specs.declared.rc.Rc.{Rc}
use Rattle.std.specs.declared.alloc.Global.{Global}
use Rattle.doc_tree.specs.declared.chunk.Kid.{Kid}
use Rattle.doc_tree.specs.Tree.{Kids, no_kids, kid, name_cmp, IsAbove}

abbrev pub row_of : List (Rc Kid Global) → Kids
row_of [] = no_kids
row_of (k ∷ ks) = kid k.value.name k.value.tree.text k.value.tree.kids (row_of ks)

-- children, and more of them after these
abbrev pub join : Kids → Kids → Kids
join no_kids more = more
join (kid name text inside rest) more = kid name text inside (join rest more)

-- a number as a `u64` or a `u32` shows it: the greatest one stands for all beyond
abbrev pub as_u64 : ℕ → ℕ
as_u64 n = min n (2 ^ 64 - 1)

abbrev pub as_u32 : ℕ → ℕ
as_u32 n = min n (2 ^ 32 - 1)

-- the child of that name stands at this place
abbrev pub IsHere : List ℕ → Kids → ℕ → Type 0
IsHere n no_kids at = ⊥
IsHere n (kid m text inside rest) zero = name_cmp n m ≡ Equal
IsHere n (kid m text inside rest) (suc at) = (name_cmp n m ≡ Greater) × IsHere n rest at

-- no child has that name, and here is the place for it
abbrev pub IsGap : List ℕ → Kids → ℕ → Type 0
IsGap n kids zero = IsAbove n kids
IsGap n no_kids (suc at) = ⊥
IsGap n (kid m text inside rest) (suc at) = (name_cmp n m ≡ Greater) × IsGap n rest at

-- each name comes before this one
abbrev pub IsBelow : List ℕ → Kids → Type 0
IsBelow n no_kids = Unit {0}
IsBelow n (kid m text inside rest) = (name_cmp n m ≡ Greater) × IsBelow n rest

-- there is a first name, and it is this one or comes before it
abbrev pub begins_by : List ℕ → Kids → Bool
begins_by n no_kids = false
begins_by n (kid m text inside rest) = is_le (name_cmp m n)
