-- The values of an item's box fit words, and none of them is a place.
use Rattle.std.proofs.Common.{◌≡◌, ◌<◌, ◌≤◌, ◌+◌, ◌^◌, ℕ, arith}
use Rattle.run_limits.specs.declared.TheConstants.{MOST_VERSIONS}
use Rattle.heap_rule.specs.declared.view.View.{View}
use Rattle.mail_rule.specs.declared.items.Item.{Item}
use Rattle.mail_rule.specs.declared.mail_pass.MailPass.{MailPass}
use Rattle.mutator_events.specs.declared.values.Value.{Value}
use Rattle.mutator_events.specs.declared.values.Value.TheVariants as values
use Rattle.cell_making.specs.Makes.{MayName, value_at}
use Rattle.cell_making.proofs.Naming.{all_at}
use Rattle.cell_mailbox.specs.Makes.{item_values}

pub may_item : (v : View MailPass) (end : ℕ) (item : Item) → item.position ≤ MOST_VERSIONS + 1
    → item.sender < 2 ^ 32 → item.value < 2 ^ 32 → (i : ℕ) → i < 5
    → MayName v end (value_at (item_values item) i)
may_item v end item low few small i lt =
    let position : item.position < 4611686018427387904 = omega (arith, low) in
    let sender : item.sender < 4611686018427387904 = omega (arith, few) in
    let value : item.value < 4611686018427387904 = omega (arith, small) in
    all_at (MayName v end) tt (item_values item) (position, (sender, (value, (tt, (tt, tt))))) i

abbrev IsNoPlace : Value → Type 0
IsNoPlace v = (place : ℕ) → v ≡ values.Held place → ⊥

number_none : (n : ℕ) → IsNoPlace (values.Num n)
number_none n place is = absurd cc

null_none : IsNoPlace values.Null
null_none place is = absurd cc

pub names_none : (item : Item) (i : ℕ) → IsNoPlace (value_at (item_values item) i)
names_none item i =
    all_at IsNoPlace null_none (item_values item) (
      number_none item.position,
      (
        number_none item.sender,
        (
          number_none item.value,
          (null_none, (null_none, tt)),
        ),
      ),
    ) i
