-- What the colours and fields of a heap show of the versions of a store: a chain of boxes from the
-- anchor on, each with its number, its tree and the box of the version before it.
--
-- All of it is said of the words alone. What a heap's cells are beyond its words, as the terms of
-- records, is not in it: a field denotes a term if the cells that it leads to spell this term.
-- Source: this project's.
use Rattle.std.specs.Prelude.{ℕ, ◌≡◌, ◌+◌, ◌-◌, ◌⊎◌, List, [], ◌∷◌}
use Rattle.std.specs.Prelude.{length, min}
use Rattle.cell_words.specs.declared.fields.Field.{Field}
use Rattle.cell_words.specs.declared.fields.Field.TheVariants as field
use Rattle.cell_words.specs.Term.{Term, null, num, five}
use Rattle.core_machine.specs.State.{State, field_of}
use Rattle.dlg_core.specs.Collects.{IsFromAnchor}
use Rattle.doc_model.specs.Store.{tree_at}
use Rattle.doc_records.specs.Trees.{IsTreeNode, tree_of}
use Rattle.doc_tree.specs.Tree.{DocTree}
use Rattle.version_rule.specs.Chains.{Among}

-- the kind field is a record's, and this is so of the five others
pub record IsRecord (kind : Field) (First Second Third Fourth Fifth : Type 0) : Type 0 where
  pub kind_is : kind ≡ field.Num 1
  pub first : First
  pub second : Second
  pub third : Third
  pub fourth : Fourth
  pub fifth : Fifth

-- the field stands for the term: null and numbers for themselves, and a record's cell for the five
-- terms of its fields
abbrev pub Denotes : State → Field → Term → Type 0
Denotes s field.Null null = Unit {0}
Denotes s field.Null (num n) = ⊥
Denotes s field.Null (five a b c d e) = ⊥
Denotes s (field.Num m) null = ⊥
Denotes s (field.Num m) (num n) = m ≡ n
Denotes s (field.Num m) (five a b c d e) = ⊥
Denotes s (field.Cell x) null = ⊥
Denotes s (field.Cell x) (num n) = ⊥
Denotes s (field.Cell x) (five a b c d e) =
    IsRecord (field_of s x 5) (Denotes s (field_of s x 0) a) (Denotes s (field_of s x 1) b)
    (Denotes s (field_of s x 2) c) (Denotes s (field_of s x 3) d) (Denotes s (field_of s x 4) e)

-- the cell is the box of the version with this number, this tree and this link
pub record IsVersionAt (s : State) (cell number : ℕ) (tree : DocTree) (link : Field)
    : Type 0 where
  pub kind : field_of s cell 5 ≡ field.Num 2
  pub number_is : field_of s cell 0 ≡ field.Num number
  pub root : ℕ
  pub names : field_of s cell 1 ≡ field.Cell root
  pub term : Term
  pub denotes : Denotes s (field.Cell root) term
  pub spells : IsTreeNode term
  pub tree_is : tree_of term ≡ tree
  pub link_is : field_of s cell 2 ≡ link
  pub fourth : field_of s cell 3 ≡ field.Null
  pub fifth : field_of s cell 4 ≡ field.Null

-- the cells are the boxes of the versions from this number on, the newest first: each is linked to
-- the next, and the last to nothing
pub data IsChain (s : State) (trees : List DocTree) : (number : ℕ) → (cells : List ℕ)
    → Type 0 where
  last : {cell number : ℕ} → IsVersionAt s cell number (tree_at trees number) field.Null
      → IsChain s trees number (cell ∷ [])
  more : {cell older number : ℕ} {cells : List ℕ}
      → IsVersionAt s cell (number + 1) (tree_at trees (number + 1)) (field.Cell older)
      → IsChain s trees number (older ∷ cells)
      → IsChain s trees (number + 1) (cell ∷ older ∷ cells)

-- the anchor names the box of the latest of these versions; from it on as many versions as stay,
-- or all that there are, stand in one chain; and these and the anchor are all boxes to which a
-- chain of fields leads from the anchor
pub record ShowsVersions (s : State) (keep : ℕ) (trees : List DocTree) : Type 0 where
  pub latest : ℕ
  pub names : field_of s 0 0 ≡ field.Cell latest
  -- after the latest
  pub older : List ℕ
  pub chain : IsChain s trees (length trees - 1) (latest ∷ older)
  pub many : length (latest ∷ older) ≡ min (length trees) keep
  pub only : (c : ℕ) → IsFromAnchor s c → field_of s c 5 ≡ field.Num 2
      → (c ≡ 0) ⊎ Among c (latest ∷ older)
