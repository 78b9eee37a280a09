-- What a seat shows of a read.
-- Source: this project's.
use Rattle.std.specs.Prelude.{ℕ, ◌≡◌, [], ◌∷◌, ◌++◌}
use Rattle.cell_words.specs.declared.fields.Field.{Field}
use Rattle.cell_words.specs.Field.{pack_field_of}
use Rattle.core_machine.specs.declared.events.Event.TheVariants as event
use Rattle.core_machine.specs.declared.events.Found.TheVariants as finds
use Rattle.core_machine.specs.Own.{having_read}
use Rattle.heap_rule.specs.Rule.{took}
use Rattle.heap_rule.specs.declared.view.View.{View}

-- a read of this field of a held cell found this
pub record HasRead {P : Type 0} (v w : View P) (place f word : ℕ) (value : Field) : Type 0 where
  pub word_is : pack_field_of value ≡ word
  pub own : w.own ≡ having_read v.own value
  pub trail : w.trail ≡ v.trail ++ took (event.Read v.number place f) (finds.Field value) ∷ []
