-- The rule of versions, on the boxes of a heap and on the passes of its mutators.
--
-- The anchor names the box of the latest version. A version's box has its number, the root of its
-- tree, and a link: the box of the version before it, or null once that link is cut. Numbers and
-- roots are never written again. How a term spells a tree is left open here.
-- Source: this project's.
use Rattle.std.specs.Prelude.{ℕ, ◌≡◌, ◌≢◌, ◌<◌, ◌≤◌, ◌+◌, ◌-◌, ◌⊎◌, ◌==◌, ◌||◌, Bool, List}
use Rattle.std.specs.Prelude.{length, All, Some}
use Rattle.cell_words.specs.Term.{Term, null, num}
use Rattle.run_limits.specs.declared.TheConstants.{MOST_CLIENTS, MOST_COMMANDS}
use Rattle.doc_model.specs.Store.{tree_at}
use Rattle.doc_tree.specs.Tree.{DocTree}
use Rattle.heap_rule.specs.Boxes.{Map, Payload}
use Rattle.heap_rule.specs.Lore.{Entry, Named, Plain}
use Rattle.heap_rule.specs.Numbered.{AreApart, HasNumber, NamesNumber}
use Rattle.version_rule.specs.Fits.{HasVersions}
use Rattle.version_rule.specs.Pass.{Commit, Pass, Reading}

-- the number and the root of a version's box
abbrev pub is_fixed : ℕ → Bool
is_fixed f = (f == 0) || (f == 1)

-- the anchor names the box of this version
abbrev pub HasLatest : Map → ℕ → Type 0
HasLatest map number = NamesNumber map number

-- the link of this version is the box of the one before it
pub record IsLinked (map : Map) (number : ℕ) (link : Entry) : Type 0 where
  pub cell : ℕ
  pub names : link ≡ Named cell
  pub older : ℕ
  pub before : number ≡ older + 1
  pub version : HasNumber map cell older

-- it is cut: there is none before it, or as many versions as stay are made from it on
pub record IsCut (keep count number : ℕ) (link : Entry) : Type 0 where
  pub none : link ≡ Plain null
  pub due : (number ≡ 0) ⊎ (number + keep ≤ count)

-- what the rule says of one pass
pub record IsInStep (keep : ℕ) (map : Map) (pass : Pass) : Type 0 where
  pub keeps : pass.keep ≡ keep
  pub few : length pass.commits ≤ MOST_COMMANDS
  pub reads_seen : All (λ (r : Reading). r.number ≤ pass.seen) pass.reads
  pub commits_seen : All (λ (c : Commit). c.number ≤ pass.seen) pass.commits
  pub cut_seen : pass.cut ≤ pass.seen
  pub cut_is : (cell : ℕ) (box : Payload) → map cell ≡ Some box → box 0 ≡ Plain (num pass.cut)
      → box 2 ≡ Plain null

-- the entries of the box of a version that is to be made, with this number, over the box of the
-- version before it
pub record IsNext (is_tree : Term → Type 0) (number : ℕ) (root : Term) (older : ℕ) (box : Payload) :
    Type 0 where
  pub number_is : box 0 ≡ Plain (num number)
  pub root_is : box 1 ≡ Plain root
  pub spells : is_tree root
  pub link_is : box 2 ≡ Named older
  pub fourth : box 3 ≡ Plain null
  pub fifth : box 4 ≡ Plain null

module _ (is_tree : Term → Type 0) (tree_of : Term → DocTree) where
  -- a version's box: its number, its tree and its link, and nothing else
  pub record IsVersion (keep : ℕ) (trees : List DocTree) (map : Map) (box : Payload) : Type 0
    where
      pub number : ℕ
      pub number_is : box 0 ≡ Plain (num number)
      pub made : number < length trees
      pub root : Term
      pub root_is : box 1 ≡ Plain root
      pub spells : is_tree root
      pub tree : tree_of root ≡ tree_at trees number
      pub link : IsCut keep (length trees) number (box 2) ⊎ IsLinked map number (box 2)
      pub fourth : box 3 ≡ Plain null
      pub fifth : box 4 ≡ Plain null

  pub record HoldsVersions (map : Map) (passes : List Pass) : Type 0 where
    -- how many versions stay, and the trees of all that were made
    pub keep : ℕ
    pub trees : List DocTree
    pub keeps_some : 1 ≤ keep
    pub keeps_few : keep ≤ 100
    pub few : length passes ≤ MOST_CLIENTS
    pub versions : HasVersions passes trees
    pub in_step : All (IsInStep keep map) passes
    pub latest : HasLatest map (length trees - 1)
    pub boxes : (cell : ℕ) (box : Payload) → cell ≢ 0 → map cell ≡ Some box
        → IsVersion keep trees map box
    pub apart : AreApart map
