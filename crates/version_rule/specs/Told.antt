-- What a read of the anchor or of a version's box tells, at its step.
-- Source: this project's.
use Rattle.std.specs.Prelude.{ℕ, ◌≡◌, ◌≤◌, ◌+◌, ◌⊎◌}
use Rattle.cell_words.specs.declared.fields.Field.TheVariants as field
use Rattle.cell_words.specs.Term.{Term}
use Rattle.run_limits.specs.declared.TheConstants.{MOST_VERSIONS}
use Rattle.core_machine.specs.declared.events.Found.{Found}
use Rattle.core_machine.specs.declared.events.Found.TheVariants as finds
use Rattle.heap_rule.specs.declared.known.Known.TheVariants as knows
use Rattle.heap_rule.specs.declared.known.Learned.{Learned}
use Rattle.heap_rule.specs.declared.view.View.{View}
use Rattle.version_rule.specs.Knowing.{IsVersionKnown, KnowsVersion}
use Rattle.version_rule.specs.Pass.{Pass}

-- the anchor's field is the box of a version, which is not below any that the mutator knows of
pub record TellsLatest (is_tree : Term → Type 0) (v : View Pass) (tells : Learned)
    (found : Found) : Type 0 where
  pub cell : ℕ
  pub found_is : found ≡ finds.Field (field.Cell cell)
  pub number : ℕ
  pub root : Term
  pub known : IsVersionKnown tells.found number root
  pub spells : is_tree root
  pub not_below : v.pass.seen ≤ number
  pub newest : (place other : ℕ) (its : Term) → KnowsVersion v place other its → other ≤ number
  pub few : number ≤ MOST_VERSIONS

-- a version's root is a record that spells its tree
pub record TellsRoot (is_tree : Term → Type 0) (number : ℕ) (root : Term) (tells : Learned)
    (found : Found) : Type 0 where
  pub cell : ℕ
  pub found_is : found ≡ finds.Field (field.Cell cell)
  pub known : tells.found ≡ knows.Record root
  pub here : IsVersionKnown tells.here number root
  pub spells : is_tree root

-- its link is the box of the version before it
pub record TellsOlder (is_tree : Term → Type 0) (number : ℕ) (tells : Learned) (found : Found)
    : Type 0 where
  pub cell : ℕ
  pub found_is : found ≡ finds.Field (field.Cell cell)
  pub older : ℕ
  pub before : number ≡ older + 1
  pub root : Term
  pub known : IsVersionKnown tells.found older root
  pub spells : is_tree root

-- or it is null
abbrev pub TellsLink : (Term → Type 0) → ℕ → Learned → Found → Type 0
TellsLink is_tree number tells found =
    (found ≡ finds.Field field.Null) ⊎ TellsOlder is_tree number tells found
