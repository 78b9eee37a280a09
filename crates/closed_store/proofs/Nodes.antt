-- The count of nodes that the root of the latest version has: it is a field of the root's record,
-- and the term that this record spells says the tree's.
use Rattle.std.proofs.Common.{◌≡◌, ◌+◌, ◌-◌, ◌∙◌, ℕ, List, ◌∷◌, length}
use Rattle.std.proofs.Common.{ap, subst}
use Rattle.cell_words.specs.declared.fields.Field.{Field}
use Rattle.cell_words.specs.declared.fields.Field.TheVariants as field
use Rattle.cell_words.specs.Term.{Term, null, num, five}
use Rattle.closed_heap.specs.Words.{number_in}
use Rattle.closed_store.specs.Chain.{Denotes, IsChain, IsVersionAt, ShowsVersions, last, more}
use Rattle.closed_store.specs.Words.{field_behind}
use Rattle.core_machine.specs.State.{State, field_of}
use Rattle.doc_model.specs.Store.{tree_at}
use Rattle.doc_records.specs.Trees.{IsNode, tree_of}
use Rattle.doc_tree.specs.Tree.{DocTree, count}

module _ (s : State) where
  -- a field that denotes a number is this number
  number_denoted : (value : Field) (n : ℕ) → Denotes s value (num n) → number_in value ≡ n
  number_denoted field.Null n is = absurd is
  number_denoted (field.Num m) n is = is
  number_denoted (field.Cell c) n is = absurd is

  node_count : (root : ℕ) (t : Term) → Denotes s (field.Cell root) t → IsNode t
      → number_in (field_of s root 2) ≡ count (tree_of t)
  node_count root null is node = absurd is
  node_count root (num n) is node = absurd is
  node_count root (five a b c d e) is node =
      number_denoted (field_of s root 2) (count (tree_of (five a b c d e)))
      (subst (λ (t : Term). Denotes s (field_of s root 2) t) node.count is.third)

  version_count : (cell number : ℕ) (tree : DocTree) (link : Field)
      → IsVersionAt s cell number tree link
      → number_in (field_behind s (field_of s cell 1) 2) ≡ count tree
  version_count cell number tree link is =
      ap (λ (value : Field). number_in (field_behind s value 2)) is.names
      ∙ node_count is.root is.term is.denotes is.spells.node
      ∙ ap count is.tree_is

  -- the first box of a chain
  chain_count : (trees : List DocTree) (number cell : ℕ) (older : List ℕ)
      → IsChain s trees number (cell ∷ older)
      → number_in (field_behind s (field_of s cell 1) 2) ≡ count (tree_at trees number)
  chain_count trees number cell older (last is) =
      version_count cell number (tree_at trees number) field.Null is
  chain_count trees _ cell _ (more {older} {number} is rest) =
      version_count cell (number + 1) (tree_at trees (number + 1)) (field.Cell older) is

  pub latest_count : (keep : ℕ) (trees : List DocTree) → ShowsVersions s keep trees
      → number_in (field_behind s (field_behind s (field_of s 0 0) 1) 2)
      ≡ count (tree_at trees (length trees - 1))
  latest_count keep trees is =
      ap (λ (value : Field). number_in (field_behind s (field_behind s value 1) 2)) is.names
      ∙ chain_count trees (length trees - 1) is.latest is.older is.chain
