-- The items after the anchor's box, from the map of boxes to the words.
use Rattle.std.proofs.Common.{◌≡◌, ℕ, zero, suc, ◌+◌, ◌-◌, ◌≤◌, List, [], ◌∷◌, length, Some, None}
use Rattle.std.proofs.Common.{Bool, map as mapped, refl, ◌∙◌, ap, arith}
use Rattle.std.proofs.Common.{if◌then◌else◌}
use Rattle.std.specs.List.{range_with_len}
use Rattle.std.proofs.lemmas.Bool.{le-leb}
use Rattle.cell_words.specs.declared.fields.Field.{Field}
use Rattle.run_limits.specs.declared.TheConstants.{MOST_CLIENTS, MOST_VERSIONS}
use Rattle.closed_heap.specs.Words.{number_in}
use Rattle.core_machine.specs.State.{State, field_of}
use Rattle.heap_rule.specs.Boxes.{Payload, boxes_of}
use Rattle.heap_rule.specs.Facts.{Facts}
use Rattle.heap_rule.specs.Lore.{Lore}
use Rattle.heap_rule.proofs.BoxWords.{named_there, null_there, number_there}
use Rattle.mail_rule.specs.Chains.{Behind, Follow, last, more}
use Rattle.mail_rule.specs.Items.{item_at, letter_at, no_letter}
use Rattle.mail_rule.specs.Mail.{HasItem, HoldsMail, is_fixed}
use Rattle.mail_rule.specs.declared.items.Item.{Item}
use Rattle.mail_rule.specs.declared.mail_pass.MailPass.{MailPass}
use Rattle.mail_rule.proofs.Chaining.{after}
use Rattle.mail_rule.proofs.Counts.{letters_few}
use Rattle.mail_rule.proofs.Standing.{position_low}
use Rattle.mail_run.specs.Rest.{after_named, cell_in, item_of, rest_in, rest_of}
use Rattle.mail_run.specs.Rest.{sender_of}

sender_small : (n : ℕ) → n ≤ MOST_CLIENTS → sender_of n ≡ n
sender_small n few = ap (λ (is : Bool). if is then n else 0) (le-leb n MOST_CLIENTS few)

pub none_after : (s : State) (n : ℕ) → rest_of s n None ≡ []
none_after s zero = refl
none_after s (suc n) = refl

module _ (s : State) (l : Lore) (facts : Facts is_fixed s l) (passes : List MailPass)
    (h : HoldsMail (boxes_of s l) passes) where
  letters_signed : (position : ℕ) → position ≤ length h.letters
      → (letter_at h.letters position).sender ≤ MOST_CLIENTS
  letters_signed zero low = omega arith
  letters_signed (suc k) low =
      let most = (h.signed k no_letter (omega (arith, low))).few in let few = h.few in
      omega (arith, most, few)

  item_there : (cell position : ℕ) (box : Payload) → boxes_of s l cell ≡ Some box
      → HasItem h.letters position box → item_of s cell ≡ item_at h.letters position
  item_there cell position box at has =
      let letter = letter_at h.letters position in
      let low = position_low (boxes_of s l) passes h cell position
      record { box = box; there = at; number_is = has.position_is } in
      let p = ap number_in (number_there s l cell box at is_fixed facts 0 position has.position_is)
      in
      let w = ap (λ (x : Field). sender_of (number_in x))
      (number_there s l cell box at is_fixed facts 1 letter.sender has.sender_is)
      ∙ sender_small letter.sender (letters_signed position low) in
      let v = ap number_in (number_there s l cell box at is_fixed facts 2 letter.value has.value_is)
      in
      λ t. record { position = p t; sender = w t; value = v t }

  -- the box that begins what follows
  first_there : (cell position : ℕ) (cells : List ℕ)
      → Follow h.letters (boxes_of s l) cell position cells
      → item_of s cell ≡ item_at h.letters position
  first_there _ _ _ (last {cell} {position} box at has none) = item_there cell position box at has
  first_there _ _ _ (more {cell} {position} {next} {cells} box at has names rest) =
      item_there cell position box at has

  rest_there : (cell position : ℕ) (cells : List ℕ) (n : ℕ)
      → Follow h.letters (boxes_of s l) cell position cells → length cells ≤ n
      → rest_of s n (cell_in (field_of s cell 3))
      ≡ mapped (item_at h.letters) (range_with_len (position + 1) (length cells))
  rest_there _ _ _ n (last {cell} {position} box at has none) le =
      ap (λ (x : Field). rest_of s n (cell_in x)) (null_there s l cell box at is_fixed facts 3 none)
      ∙ none_after s n
  rest_there _ _ _ zero (more {cell} {position} {next} {cells} box at has names rest) le =
      absurd (omega (arith, le))
  rest_there _ _ _ (suc n) (more {cell} {position} {next} {cells} box at has names rest) le =
      ap (λ (x : Field). rest_of s (suc n) (cell_in x)) (named_there s l cell box at 3 next names)
      ∙ ap (λ (item : Item). item ∷ rest_of s n (cell_in (field_of s next 3)))
      (first_there next (position + 1) cells rest)
      ∙ ap (λ (items : List Item). item_at h.letters (position + 1) ∷ items)
      (rest_there next (position + 1) cells n rest (omega (arith, le)))

  -- as many as were sent and not taken
  pub rest_is : rest_in s ≡ mapped (item_at h.letters)
      (range_with_len (1 + length h.takers) (length h.letters - length h.takers))
  rest_is =
      let is : Behind h.letters (boxes_of s l) h.latest.cell (length h.takers) =
      after (boxes_of s l) passes h h.latest.cell (length h.takers) h.latest.numbered in
      let few = letters_few (boxes_of s l) passes h in
      let many = is.many in
      let left : length is.cells ≡ length h.letters - length h.takers = omega (arith, many) in
      let from : length h.takers + 1 ≡ 1 + length h.takers = omega arith in
      ap (λ (x : Field). after_named s (cell_in x))
      (named_there s l 0 h.latest.anchor h.latest.there 0 h.latest.cell h.latest.names)
      ∙ rest_there h.latest.cell (length h.takers) is.cells MOST_VERSIONS is.follow
      (omega (arith, many, few))
      ∙ ap (λ (n : ℕ). mapped (item_at h.letters) (range_with_len (length h.takers + 1) n)) left
      ∙ ap (λ (n : ℕ). mapped (item_at h.letters)
      (range_with_len n (length h.letters - length h.takers))) from
