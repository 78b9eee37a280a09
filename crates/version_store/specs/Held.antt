-- Versions that a mutator holds, and what the calls that read them give.
-- Source: this project's.
use Rattle.std.specs.Prelude.{ℕ, ◌≡◌, ◌<◌, ◌≤◌, [], ◌∷◌, length}
use Rattle.cell_words.specs.Term.{Term, null}
use Rattle.cell_words.specs.declared.fields.Field.TheVariants as field
use Rattle.run_limits.specs.declared.TheConstants.{MOST_VERSIONS}
use Rattle.doc_tree.specs.Tree.{DocTree}
use Rattle.heap_rule.specs.declared.known.Known.{Known}
use Rattle.heap_rule.specs.declared.known.Known.TheVariants as knows
use Rattle.heap_rule.specs.Asks.{known_of, target}
use Rattle.mutator_seat.specs.Bound.{Bound}
use Rattle.trails.specs.Asks.{gave_at}
use Rattle.version_rule.specs.Knowing.{KnowsVersion, root_told}
use Rattle.version_rule.specs.Pass.{Pass, reading, seeing}
use Rattle.version_rule.specs.declared.held.HeldVersion.{HeldVersion}
use Rattle.held_places.specs.Calls.{Goes}
use Rattle.version_store.specs.Calls.{Holds}
use Rattle.version_rule.specs.Shows.{version_asks}

-- the place of the version holds a box that is neither the anchor nor fresh, with this number and
-- with some root
pub record IsHeld (m : Bound Pass) (v : HeldVersion) : Type 0 where
  pub root : Term
  pub knows : KnowsVersion m.seat.me v.place v.number root

-- the root of the version at a place, as it is known
abbrev pub root_at : Bound Pass → ℕ → Term
root_at m place = root_told (known_of m.seat.me place)

-- the term of a record; null of anything else
abbrev pub term_told : Known → Term
term_told knows.Nothing = null
term_told (knows.Raw fields) = null
term_told (knows.Fresh fields) = null
term_told (knows.Record t) = t
term_told (knows.Boxed told) = null

abbrev pub term_at : Bound Pass → ℕ → Term
term_at m place = term_told (known_of m.seat.me place)

-- the place holds a record, with a term that is known
pub record IsRecord (m : Bound Pass) (place : ℕ) : Type 0 where
  pub there : place < length m.seat.me.own.held
  pub known : known_of m.seat.me place ≡ knows.Record (term_at m place)

-- The latest version is held at the next place: its box was read from the anchor, and then its
-- number from the box. None that the mutator saw or holds is newer.
pub record GivesLatest (old new : Bound Pass) (v : HeldVersion) : Type 0 where
  pub cell : ℕ
  pub goes : Goes (version_asks cell v.number) old new
  pub holds : Holds (cell ∷ []) old new
  pub place_is : v.place ≡ length old.seat.me.own.held
  pub held : IsHeld new v
  pub not_below : old.seat.me.pass.seen ≤ v.number
  pub newest : (place number : ℕ) (root : Term) → KnowsVersion old.seat.me place number root
      → number ≤ v.number
  pub few : v.number ≤ MOST_VERSIONS
  pub pass : new.seat.me.pass ≡ seeing v.number old.seat.me.pass
  pub claims : new.seat.me.own.claims ≡ old.seat.me.own.claims

-- The root of the version is held at the next place, and its tree is read.
pub record GivesRoot (is_tree : Term → Type 0) (tree_of : Term → DocTree) (old new : Bound Pass)
    (v : HeldVersion) (place : ℕ) : Type 0 where
  pub cell : ℕ
  pub goes : Goes (gave_at (target old.seat.me v.place) 1 (field.Cell cell) ∷ []) old new
  pub holds : Holds (cell ∷ []) old new
  pub place_is : place ≡ length old.seat.me.own.held
  pub known : known_of new.seat.me place ≡ knows.Record (root_at old v.place)
  pub spells : is_tree (root_at old v.place)
  pub pass : new.seat.me.pass ≡ reading v.number (tree_of (root_at old v.place)) old.seat.me.pass
  pub claims : new.seat.me.own.claims ≡ old.seat.me.own.claims
