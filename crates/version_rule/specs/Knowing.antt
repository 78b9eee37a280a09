-- What a mutator is told of versions, and the passes that it picks by it. A pass sees a version
-- when the anchor is read, and not only when its number is. A write of the anchor that is refused
-- and a link that is null show that there are newer versions: it sees these too.
-- Source: this project's.
use Rattle.std.specs.Prelude.{ℕ, ◌≡◌, ◌<◌, ◌≤◌, ◌+◌, ◌-◌, List, [], ◌∷◌, length, Option, Some, None}
use Rattle.std.specs.Prelude.{Bool, true, false, slice_index_or}
use Rattle.cell_words.specs.declared.fields.Field.{Field}
use Rattle.cell_words.specs.declared.fields.Field.TheVariants as field
use Rattle.cell_words.specs.Term.{Term, null, num, number}
use Rattle.run_limits.specs.declared.TheConstants.{MOST_COMMANDS}
use Rattle.core_machine.specs.declared.events.Found.{Found}
use Rattle.core_machine.specs.declared.events.Found.TheVariants as finds
use Rattle.doc_tree.specs.Tree.{DocTree}
use Rattle.heap_rule.specs.Asks.{known_of, target}
use Rattle.heap_rule.specs.Lore.{was_made}
use Rattle.heap_rule.specs.declared.known.Known.{Known}
use Rattle.heap_rule.specs.declared.known.Known.TheVariants as knows
use Rattle.heap_rule.specs.declared.known.Learned.{Learned}
use Rattle.heap_rule.specs.declared.view.View.{View}
use Rattle.version_rule.specs.Pass.{Pass, committed, cutting, reading, seeing}

-- it is a version's box, with this number and this root
pub record IsVersionKnown (k : Known) (number : ℕ) (root : Term) : Type 0 where
  pub told : List (Option Term)
  pub is : k ≡ knows.Boxed told
  pub number_is : slice_index_or told 0 None ≡ Some (num number)
  pub root_is : slice_index_or told 1 None ≡ Some root

-- the cell at this place is known to be one
pub record KnowsVersion (v : View Pass) (place number : ℕ) (root : Term) : Type 0 where
  pub there : place < length v.own.held
  pub known : IsVersionKnown (known_of v place) number root

-- The passes that are picked: from what a step told, what it found, and the pass before.

abbrev pub term_or_null : Option Term → Term
term_or_null None = null
term_or_null (Some t) = t

-- the number and the root of a version's box; 0 and null of what is none
abbrev pub number_told : Known → ℕ
number_told (knows.Boxed told) = number (term_or_null (slice_index_or told 0 None))
number_told _ = 0

abbrev pub root_told : Known → Term
root_told (knows.Boxed told) = term_or_null (slice_index_or told 1 None)
root_told _ = null

-- a read of the anchor: the version that was found is seen
abbrev pub latest_seen : Learned → Found → Pass → Pass
latest_seen tells found pass = seeing (number_told tells.found) pass

-- a read of a version's root: its tree is read
abbrev pub tree_read : (Term → DocTree) → Learned → Found → Pass → Pass
tree_read tree_of tells found pass =
    reading (number_told tells.here) (tree_of (root_told tells.here)) pass

-- a read of a version's link, which if it is cut shows that there are newer versions
abbrev pub link_seen : Learned → Found → Pass → Pass
link_seen tells (finds.Field field.Null) pass =
    seeing (number_told tells.here + pass.keep - 1) pass
link_seen tells _ pass = pass

-- a read of a version's link for a trim, which if it is cut leaves nothing to do
abbrev pub link_cut : Learned → Found → Pass → Pass
link_cut tells (finds.Field field.Null) pass = cutting (number_told tells.here) pass
link_cut tells _ pass = pass

-- a store over a version's link, or an exchange of it: it is null now, whoever made it so
abbrev pub link_taken : ℕ → Learned → Found → Pass → Pass
link_taken number tells found pass = cutting number pass

-- a write of the anchor's field: the next version is made, or another has made it
abbrev pub made_or_seen : Bool → ℕ → DocTree → DocTree → Pass → Pass
made_or_seen true number before made pass = committed number before made pass
made_or_seen false number before made pass = seeing number pass

abbrev pub next_made : Field → ℕ → DocTree → DocTree → Learned → Found → Pass → Pass
next_made old number before made tells found pass =
    made_or_seen (was_made old found) number before made pass

-- What a mutator needs for a commit: the anchor's place, the place of the version that it has, the
-- place of a fresh box over that version, and the place of the root in it.
pub record MayCommit (is_tree : Term → Type 0) (v : View Pass) (place latest box root : ℕ)
    (number : ℕ) (before made : Term) : Type 0 where
  pub anchor : target v place ≡ 0
  pub held : KnowsVersion v latest (number - 1) before
  pub later : 1 ≤ number
  pub box_there : box < length v.own.held
  pub box_is : known_of v box ≡ knows.Fresh (field.Num number ∷ field.Cell (target v root) ∷
      field.Cell (target v latest) ∷ field.Null ∷ field.Null ∷ [])
  pub root_there : root < length v.own.held
  pub root_is : known_of v root ≡ knows.Record made
  pub spells : is_tree made
  pub few : length v.pass.commits < MOST_COMMANDS

-- And to cut the link of a version: that one, and one that shows that as many as stay were made
-- from it on.
pub record MayCut (v : View Pass) (place newer : ℕ) (number last : ℕ) (root top : Term)
    : Type 0 where
  pub held : KnowsVersion v place number root
  pub made : KnowsVersion v newer last top
  pub due : number + v.pass.keep ≤ last + 1

-- A link can also be exchanged for null, by who has read what it was: the version before, which is
-- held, or null, which the pass has noted. A link is no number.

pub record HoldsBefore (v : View Pass) (number cell : ℕ) : Type 0 where
  pub place : ℕ
  pub root : Term
  pub held : KnowsVersion v place (number - 1) root
  pub cell_is : target v place ≡ cell
  pub later : 1 ≤ number

abbrev pub HasReadLink : View Pass → ℕ → Field → Type 0
HasReadLink v number field.Null = number ≤ v.pass.cut
HasReadLink v number (field.Num n) = ⊥
HasReadLink v number (field.Cell c) = HoldsBefore v number c
