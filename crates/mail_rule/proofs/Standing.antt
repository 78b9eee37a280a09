-- What stands at a cell of a map with the rule.
use Rattle.std.proofs.Common.{◌≡◌, ℕ, ◌≤◌, ◌⊎◌, List, length, sym, ◌∙◌, subst}
use Rattle.cell_words.specs.Term.{null}
use Rattle.heap_rule.specs.Boxes.{Map, Payload}
use Rattle.heap_rule.specs.Lore.{Plain}
use Rattle.heap_rule.specs.Numbered.{HasNumber}
use Rattle.heap_rule.proofs.Entries.{num_inj}
use Rattle.heap_rule.proofs.Numbered.{not_anchor}
use Rattle.mail_rule.specs.Items.{Letter}
use Rattle.mail_rule.specs.Mail.{HasItem, HoldsMail, IsFollowed, IsItem, IsLast}
use Rattle.mail_rule.specs.declared.mail_pass.MailPass.{MailPass}

-- the item of a box, where its position is known
pub record At (letters : List Letter) (map : Map) (position : ℕ) (box : Payload) : Type 0 where
  pub sent : position ≤ length letters
  pub has : HasItem letters position box
  pub next : IsLast (length letters) position (box 3) ⊎ IsFollowed map position (box 3)
  pub fifth : box 4 ≡ Plain null

pub at_is : (letters : List Letter) (map : Map) (box : Payload) (is : IsItem letters map box)
    → At letters map is.position box
at_is letters map box is =
    record { sent = is.sent; has = is.has; next = is.next; fifth = is.fifth }

pub is_at : (letters : List Letter) (map : Map) (position : ℕ) (box : Payload)
    → At letters map position box → IsItem letters map box
is_at letters map position box at = record {
  position = position;
  sent = at.sent;
  has = at.has;
  next = at.next;
  fifth = at.fifth;
}

module _ (map : Map) (passes : List MailPass) (h : HoldsMail map passes) where
  pub item_of : (cell position : ℕ) (has : HasNumber map cell position)
      → At h.letters map position has.box
  item_of cell position has =
      let is = h.boxes cell has.box (not_anchor map (length h.takers) cell position h.latest has)
      has.there in
      let same = num_inj is.position position (sym is.has.position_is ∙ has.number_is) in
      subst (λ (p : ℕ). At h.letters map p has.box) same (at_is h.letters map has.box is)

  pub position_low : (cell position : ℕ) → HasNumber map cell position
      → position ≤ length h.letters
  position_low cell position has = (item_of cell position has).sent

  pub taken_low : length h.takers ≤ length h.letters
  taken_low = position_low h.latest.cell (length h.takers) h.latest.numbered
