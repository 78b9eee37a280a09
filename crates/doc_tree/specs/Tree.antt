-- Trees of documents: a text, and children with names in rising order of their bytes.
-- A node is found by the names on the way to it, and every definition stops where the order of
-- names says that a name cannot come any more.
-- Source: this project's; names are in the order of Rust's slices.
use Rattle.std.specs.Prelude.{◌≡◌, ℕ, ◌+◌, List, [], ◌∷◌, Option, Some, None, max}
use Rattle.std.specs.declared.cmp.Ordering.{Ordering}
use Rattle.std.specs.declared.cmp.Ordering.TheVariants.{Less, Equal, Greater}
use Rattle.std.specs.Ordering.{nat_cmp}
use Rattle.std.specs.Option.{option_and_then}
use Rattle.std.specs.Cmp.Lexicographic.{slice_cmp}

-- the children of a node, one after another: each has a name, a text and children inside
pub data Kids : Type 0 where
  no_kids : Kids
  kid : (name text : List ℕ) (inside rest : Kids) → Kids

pub record DocTree : Type 0 where
  pub text : List ℕ
  pub kids : Kids

abbrev pub empty : DocTree
empty = record { text = []; kids = no_kids }

abbrev pub kid_count : Kids → ℕ
kid_count no_kids = 0
kid_count (kid name text inside rest) = kid_count rest + 1

abbrev pub names_of : Kids → List (List ℕ)
names_of no_kids = []
names_of (kid name text inside rest) = name ∷ names_of rest

-- the nodes of all the children
abbrev pub nodes_below : Kids → ℕ
nodes_below no_kids = 0
nodes_below (kid name text inside rest) = (nodes_below inside + 1) + nodes_below rest

-- the longest way down, over all the children
abbrev pub height_below : Kids → ℕ
height_below no_kids = 0
height_below (kid name text inside rest) = max (height_below inside + 1) (height_below rest)

-- how many nodes a tree has, itself included
abbrev pub count : DocTree → ℕ
count t = nodes_below t.kids + 1

abbrev pub height : DocTree → ℕ
height t = height_below t.kids

abbrev pub name_cmp : List ℕ → List ℕ → Ordering
name_cmp m n = slice_cmp nat_cmp m n

abbrev pub by_order : {A : Type 0} → Ordering → A → A → A → A
by_order Less less equal greater = less
by_order Equal less equal greater = equal
by_order Greater less equal greater = greater

-- the child of a name
abbrev pub child : List ℕ → Kids → Option DocTree
child n no_kids = None
child n (kid m text inside rest) =
    by_order (name_cmp n m) None (Some (record { text = text; kids = inside })) (child n rest)

-- how many nodes a child has; none has none
abbrev pub nodes_in : Option DocTree → ℕ
nodes_in None = 0
nodes_in (Some d) = count d

-- the node at the end of a way down
abbrev pub node : List (List ℕ) → DocTree → Option DocTree
node [] t = Some t
node (n ∷ path) t = option_and_then (node path) (child n t.kids)

-- the children with this tree as the child of that name
abbrev pub put_child : List ℕ → DocTree → Kids → Kids
put_child n d no_kids = kid n d.text d.kids no_kids
put_child n d (kid m text inside rest) =
    by_order (name_cmp n m) (kid n d.text d.kids (kid m text inside rest))
    (kid n d.text d.kids rest) (kid m text inside (put_child n d rest))

-- each name comes after this one
abbrev pub IsAbove : List ℕ → Kids → Type 0
IsAbove n no_kids = Unit {0}
IsAbove n (kid m text inside rest) = (name_cmp n m ≡ Less) × IsAbove n rest

-- the names rise strictly, so none comes twice
abbrev pub IsRising : Kids → Type 0
IsRising no_kids = Unit {0}
IsRising (kid m text inside rest) = IsAbove m rest × IsRising rest
