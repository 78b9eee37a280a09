-- What a seat shows after a step on versions: the word that the step found, what is held and known,
-- and the pass.
-- Source: this project's.
use Rattle.std.specs.Prelude.{List, ℕ, ◌≡◌, ◌≢◌, ◌≤◌, ◌+◌, ◌⊎◌, [], ◌∷◌, ◌++◌, length}
use Rattle.cell_words.specs.declared.fields.Field.TheVariants as field
use Rattle.cell_words.specs.Field.{pack_field_of}
use Rattle.cell_words.specs.Term.{Term}
use Rattle.run_limits.specs.declared.TheConstants.{MOST_VERSIONS}
use Rattle.core_machine.specs.declared.events.Taken.{Taken}
use Rattle.doc_tree.specs.Tree.{DocTree}
use Rattle.heap_rule.specs.Asks.{known_of}
use Rattle.heap_rule.specs.Reads.{HasRead}
use Rattle.heap_rule.specs.declared.known.Known.TheVariants as knows
use Rattle.heap_rule.specs.declared.view.View.{View}
use Rattle.trails.specs.Asks.{Ask, InOrder, gave_at}
use Rattle.trails.specs.Marks.{marks_from}
use Rattle.version_rule.specs.Knowing.{KnowsVersion}
use Rattle.version_rule.specs.Pass.{Pass, committed, reading, seeing}

-- a read of the anchor's field gave a cell, and a later one of this cell's field 0 gave a number
abbrev pub version_asks : ℕ → ℕ → List Ask
version_asks cell number = gave_at 0 0 (field.Cell cell) ∷ gave_at cell 0 (field.Num number) ∷ []

-- after a read of the anchor: the latest version is held and seen, and none before it was newer
pub record ShowsLatest (is_tree : Term → Type 0) (v w : View Pass) (place word : ℕ) : Type 0 where
  pub cell : ℕ
  pub read : HasRead v w place 0 word (field.Cell cell)
  pub number : ℕ
  pub root : Term
  pub known : KnowsVersion w (length v.own.held) number root
  pub spells : is_tree root
  pub not_below : v.pass.seen ≤ number
  pub newest : (other its : ℕ) (of : Term) → KnowsVersion v other its of → its ≤ number
  pub few : number ≤ MOST_VERSIONS
  pub pass : w.pass ≡ seeing number v.pass
  pub seen : w.pass.seen ≡ number

-- after a read of a version's root: the root is held, and its tree is read
pub record ShowsRoot (is_tree : Term → Type 0) (tree_of : Term → DocTree) (v w : View Pass)
    (place word number : ℕ) (root : Term) : Type 0 where
  pub cell : ℕ
  pub read : HasRead v w place 1 word (field.Cell cell)
  pub known : known_of w (length v.own.held) ≡ knows.Record root
  pub spells : is_tree root
  pub pass : w.pass ≡ reading number (tree_of root) v.pass

-- after a read of its number
pub record ShowsNumber (v w : View Pass) (place word number : ℕ) : Type 0 where
  pub read : HasRead v w place 0 word (field.Num number)
  pub pass : w.pass ≡ v.pass

-- after a read of its link: the version before it is held
pub record ShowsOlder (is_tree : Term → Type 0) (v w : View Pass) (place word number : ℕ) : Type 0
  where
    pub cell : ℕ
    pub read : HasRead v w place 2 word (field.Cell cell)
    pub older : ℕ
    pub before : number ≡ older + 1
    pub root : Term
    pub known : KnowsVersion w (length v.own.held) older root
    pub spells : is_tree root
    pub pass : w.pass ≡ v.pass

-- or there is no link, with this pass
pub record ShowsCut (v w : View Pass) (place word : ℕ) (pass_then : Pass) : Type 0 where
  pub read : HasRead v w place 2 word field.Null
  pub pass : w.pass ≡ pass_then

abbrev pub ShowsLink : (Term → Type 0) → View Pass → View Pass → ℕ → ℕ → ℕ → Pass → Type 0
ShowsLink is_tree v w place word number pass_then =
    ShowsCut v w place word pass_then ⊎ ShowsOlder is_tree v w place word number

-- After a read of the anchor and one of the number of the version that it found: what was read, in
-- this order, and the pass.
pub record ReadsLatest (v x : View Pass) (cell number : ℕ) : Type 0 where
  pub added : List Taken
  pub trail : x.trail ≡ v.trail ++ added
  pub shown : InOrder (version_asks cell number) (marks_from v.own added)
  pub pass : x.pass ≡ seeing number v.pass
  pub seen : x.pass.seen ≡ number

-- after a write of the anchor's field over a version: the commit is made
pub record ShowsMade (v w : View Pass) (word over number : ℕ) (before made : DocTree) : Type 0
  where
    pub word_is : pack_field_of (field.Cell over) ≡ word
    pub pass : w.pass ≡ committed number before made v.pass
    pub low : v.pass.seen ≤ number

-- or another was the latest, and one with this number is there
pub record ShowsMoved (v w : View Pass) (word over number : ℕ) : Type 0 where
  pub word_other : pack_field_of (field.Cell over) ≢ word
  pub pass : w.pass ≡ seeing number v.pass

abbrev pub ShowsCommit : View Pass → View Pass → ℕ → ℕ → ℕ → DocTree → DocTree → Type 0
ShowsCommit v w word over number before made =
    ShowsMade v w word over number before made ⊎ ShowsMoved v w word over number
