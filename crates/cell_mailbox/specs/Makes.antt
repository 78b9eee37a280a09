-- The values of an item's box.
-- Source: this project's.
use Rattle.std.specs.Prelude.{List, [], ◌∷◌}
use Rattle.mail_rule.specs.declared.items.Item.{Item}
use Rattle.mutator_events.specs.declared.values.Value.{Value}
use Rattle.mutator_events.specs.declared.values.Value.TheVariants as values

-- position, sender and value, and null for the item after it
abbrev pub item_values : Item → List Value
item_values item =
    values.Num item.position ∷ values.Num item.sender ∷ values.Num item.value ∷ values.Null
    ∷ values.Null ∷ []
