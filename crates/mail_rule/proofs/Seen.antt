-- Items from words to the rule and back: what a seat knows of them, and what a read tells.
use Rattle.std.proofs.Common.{◌≡◌, ◌≢◌, ℕ, zero, suc, ◌+◌, ◌≤◌, List, length, inl, inr, refl}
use Rattle.std.proofs.Common.{sym, ◌∙◌, ap, subst, arith}
use Rattle.cell_words.specs.declared.fields.Field.TheVariants as field
use Rattle.cell_words.specs.Term.{num}
use Rattle.run_limits.specs.declared.TheConstants.{MOST_CLIENTS}
use Rattle.core_machine.specs.Next.{found_by}
use Rattle.core_machine.specs.State.{State, field_of, target_of}
use Rattle.core_machine.specs.declared.events.Event.TheVariants as event
use Rattle.core_machine.specs.declared.events.Found.TheVariants as finds
use Rattle.heap_rule.specs.Asks.{target}
use Rattle.heap_rule.specs.Boxes.{boxes_of, payload_of}
use Rattle.heap_rule.specs.Lore.{Lore, Plain, five_plain, learned, learned_from, learned_of}
use Rattle.heap_rule.specs.Lore.{plain}
use Rattle.heap_rule.specs.Numbered.{HasNumber}
use Rattle.heap_rule.specs.Steps.{AtStep, Mine, same_pass}
use Rattle.heap_rule.specs.declared.known.Known.{Known}
use Rattle.heap_rule.specs.declared.view.View.{View}
use Rattle.heap_rule.proofs.BoxWords.{entry_there, told_there}
use Rattle.heap_rule.proofs.Entries.{num_inj}
use Rattle.heap_rule.proofs.EntryWords.{null_word, number_word}
use Rattle.heap_rule.proofs.Maps.{In, entry_names, in_map}
use Rattle.heap_rule.proofs.Numbered.{anchor_word, not_anchor}
use Rattle.heap_rule.proofs.Seats.{box_seen, target_now}
use Rattle.mail_rule.specs.Items.{item_at, letter_at, no_letter}
use Rattle.mail_rule.specs.Knowing.{IsItemKnown, KnowsItem}
use Rattle.mail_rule.specs.Mail.{HoldsMail, IsFollowed, is_fixed}
use Rattle.mail_rule.specs.Told.{IsSmall, TellsFollowing, TellsItem, TellsLatest, TellsNext}
use Rattle.mail_rule.specs.declared.items.Item.{Item}
use Rattle.mail_rule.specs.declared.mail_pass.MailPass.{MailPass}
use Rattle.mail_rule.proofs.Counts.{letters_few}
use Rattle.mail_rule.proofs.Standing.{item_of, position_low}

-- the box of this item is in the map
pub record Seen (s : State) (l : Lore) (x : ℕ) (item : Item) : Type 0 where
  pub other : x ≢ 0
  pub in_is : In s l x
  pub position_is : payload_of s l x 0 ≡ Plain (num item.position)
  pub sender_is : payload_of s l x 1 ≡ Plain (num item.sender)
  pub value_is : payload_of s l x 2 ≡ Plain (num item.value)

abbrev pub position_seen : (s : State) (l : Lore) (x : ℕ) (item : Item) → Seen s l x item
    → HasNumber (boxes_of s l) x item.position
position_seen s l x item seen = record {
  box = payload_of s l x;
  there = in_map s l x seen.in_is;
  number_is = seen.position_is;
}

-- what a mutator knows of an item is so
pub item_seen : (v : View MailPass) (s : State) (l : Lore) → Mine is_fixed v s l → (place : ℕ)
    (item : Item) → KnowsItem v place item
    → Seen s l (target v place) item
item_seen v s l mine place item has =
    let k = has.known in
    let is = box_seen v s l mine place k.told has.there k.is in
    record {
      other = is.other;
      in_is = is.in_is;
      position_is = is.told_is 0 (num item.position) (omega arith) refl k.position_is;
      sender_is = is.told_is 1 (num item.sender) (omega arith) refl k.sender_is;
      value_is = is.told_is 2 (num item.value) (omega arith) refl k.value_is;
    }

module _ (v : View MailPass) (s : State) (l : Lore) (passes : List MailPass)
    (mine : Mine is_fixed v s l) (h : HoldsMail (boxes_of s l) passes) where
  -- an item that is seen is one of the rule
  pub item_is : (x : ℕ) (item : Item) → Seen s l x item → item ≡ item_at h.letters item.position
  item_is x item seen =
      let has = (item_of (boxes_of s l) passes h x item.position
      (position_seen s l x item seen)).has in
      let letter = letter_at h.letters item.position in
      let sender : item.sender ≡ letter.sender =
      num_inj item.sender letter.sender (sym seen.sender_is ∙ has.sender_is) in
      let value : item.value ≡ letter.value =
      num_inj item.value letter.value (sym seen.value_is ∙ has.value_is) in
      λ t. record { position = item.position; sender = sender t; value = value t }

  pub small_at : (position : ℕ) → position ≤ length h.letters
      → IsSmall (item_at h.letters position)
  small_at position low = record {
    position = let few = letters_few (boxes_of s l) passes h in omega (arith, low, few);
    sender = sender_low position low;
  }
    where
      sender_low : (position : ℕ) → position ≤ length h.letters
          → (letter_at h.letters position).sender ≤ MOST_CLIENTS
      sender_low zero low = omega arith
      sender_low (suc k) low =
          let most = (h.signed k no_letter (omega (arith, low))).few in let few = h.few in
          omega (arith, most, few)

  pub small_seen : (x : ℕ) (item : Item) → Seen s l x item → IsSmall item
  small_seen x item seen =
      subst IsSmall (sym (item_is x item seen))
      (small_at item.position
      (position_low (boxes_of s l) passes h x item.position (position_seen s l x item seen)))

  -- what is told of a box of the map
  box_told : (x position : ℕ) → HasNumber (boxes_of s l) x position
      → IsItemKnown (learned_of s l x) (item_at h.letters position)
  box_told x position has =
      let is = (item_of (boxes_of s l) passes h x position has).has in
      let other = not_anchor (boxes_of s l) (length h.takers) x position h.latest has in
      let entry = entry_there s l x has.box has.there in
      record {
        told = five_plain (payload_of s l x);
        is = told_there s l x has.box has.there is_fixed mine.shown.facts other;
        position_is = ap plain (entry 0 ∙ is.position_is);
        sender_is = ap plain (entry 1 ∙ is.sender_is);
        value_is = ap plain (entry 2 ∙ is.value_is);
      }

  -- a read that finds such a box
  tells_item : (place f cell position : ℕ)
      → field_of s (target_of s v.number place) f ≡ field.Cell cell
      → HasNumber (boxes_of s l) cell position
      → TellsItem (learned s l (event.Read v.number place f))
      (found_by s (event.Read v.number place f)) (item_at h.letters position)
  tells_item place f cell position word has = record {
    cell = cell;
    found_is = ap finds.Field word;
    known = subst (λ (k : Known). IsItemKnown k (item_at h.letters position))
        (sym (ap (learned_from s l) word)) (box_told cell position has);
    small = small_at position (position_low (boxes_of s l) passes h cell position has);
  }

  -- The anchor.

  pub tells_latest : (place : ℕ) → target v place ≡ 0
      → TellsLatest (learned s l (event.Read v.number place 0))
      (found_by s (event.Read v.number place 0))
  tells_latest place anchor = record {
    item = item_at h.letters (length h.takers);
    tells_item = tells_item place 0 h.latest.cell (length h.takers)
        (ap (λ (x : ℕ). field_of s x 0) (target_now v s l mine place ∙ anchor)
        ∙ anchor_word s l (length h.takers) h.latest) h.latest.numbered;
  }

  -- An item that is known.

  module _ (place : ℕ) (item : Item) (knows : KnowsItem v place item) where
    abbrev x : ℕ
    x = target_of s v.number place

    seen : Seen s l x item
    seen = subst (λ (y : ℕ). Seen s l y item) (sym (target_now v s l mine place))
        (item_seen v s l mine place item knows)

    number_is : (f n : ℕ) → payload_of s l x f ≡ Plain (num n)
        → found_by s (event.Read v.number place f) ≡ finds.Field (field.Num n)
    number_is f n is = ap finds.Field
        (number_word is_fixed s l mine.shown.facts x f n seen.in_is.reached is)

    pub tells_position : found_by s (event.Read v.number place 0)
        ≡ finds.Field (field.Num item.position)
    tells_position = number_is 0 item.position seen.position_is

    pub tells_sender : found_by s (event.Read v.number place 1)
        ≡ finds.Field (field.Num item.sender)
    tells_sender = number_is 1 item.sender seen.sender_is

    pub tells_value : found_by s (event.Read v.number place 2)
        ≡ finds.Field (field.Num item.value)
    tells_value = number_is 2 item.value seen.value_is

    follows_tells : IsFollowed (boxes_of s l) item.position (payload_of s l x 3)
        → TellsFollowing item.position (learned s l (event.Read v.number place 3))
        (found_by s (event.Read v.number place 3))
    follows_tells next = record {
      item = item_at h.letters (item.position + 1);
      follows = refl;
      tells_item = tells_item place 3 next.cell (item.position + 1)
          (entry_names l.terms (field_of s x 3) next.cell next.names) next.item;
    }

    pub tells_next : TellsNext item.position (learned s l (event.Read v.number place 3))
        (found_by s (event.Read v.number place 3))
    tells_next = elim (item_of (boxes_of s l) passes h x item.position
        (position_seen s l x item seen)).next [
          | inl end ↦ inl (ap finds.Field
              (null_word is_fixed s l mine.shown.facts x 3 seen.in_is.reached end.none))
          | inr next ↦ inr (follows_tells next)
        ]

    pub item_small : IsSmall item
    item_small = small_seen x item seen

-- At a step.

module _ (v w : View MailPass) (place f word : ℕ)
    (step : AtStep HoldsMail is_fixed v (event.Read v.number place f) same_pass word w) where
  pub small_there : (item : Item) → KnowsItem v place item → IsSmall item
  small_there item knows =
      item_small v step.core step.lore step.passes step.mine step.kept place item knows
