-- What the collector finds of a mutator whose seat it has joined.
-- Source: this project's.
use Rattle.std.specs.Prelude.{ℕ, ◌≡◌, true, IsTrue}
use mathlib.Core.Option.{some}
use lib.ListN.{get_elem?}
use Rattle.cell_words.specs.Presence.{is_valid_presence, pack_presence_of}
use Rattle.cell_words.specs.declared.presences.Presence.{Presence}
use Rattle.core_machine.specs.Table.{StatusOf, index_of}
use Rattle.heap_rule.specs.declared.view.Place.TheVariants as places
use Rattle.heap_rule.specs.declared.view.Share.{Share}
use Rattle.heap_rule.specs.declared.view.View.{View}

-- the number is the word of a presence that is over
pub record IsOverWord (number : ℕ) : Type 0 where
  pub presence : Presence
  pub valid : IsTrue (is_valid_presence presence)
  pub word_is : pack_presence_of presence ≡ number
  pub over : presence.over ≡ true

module _ {P : Type 0} where
  -- the seat of this mutator is joined
  abbrev pub IsJoined : View P → ℕ → Type 0
  IsJoined v i = (share : Share P) × (get_elem? v.places i ≡ some (places.Joined share))

  -- a number found in the status word of such a mutator says that it is over
  abbrev pub JoinedIsOver : View P → ℕ → ℕ → Type 0
  JoinedIsOver v word number = (i : ℕ) → IsJoined v i
      → word ≡ index_of v.shape.mutators (StatusOf i) → IsOverWord number
