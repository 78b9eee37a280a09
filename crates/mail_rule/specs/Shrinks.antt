-- The rule of a mailbox on maps: that it stands on every smaller map.
-- Source: this project's.
use Rattle.std.proofs.Common.{◌≡◌, ℕ, ◌+◌, ◌⊎◌, List, length, inl, inr, arith}
use Rattle.heap_rule.specs.Boxes.{Map, Payload, Smaller}
use Rattle.heap_rule.specs.Lore.{Named}
use Rattle.heap_rule.specs.Numbered.{HasNumber}
use Rattle.heap_rule.proofs.Numbered.{apart_still, names_still, number_still}
use Rattle.mail_rule.specs.Items.{Letter}
use Rattle.mail_rule.specs.Mail.{HoldsMail, IsFollowed, IsItem, IsLast}
use Rattle.mail_rule.specs.declared.mail_pass.MailPass.{MailPass}

-- what is said of a box on one map may be said on another where the next box is there too
pub item_on : (letters : List Letter) (old new : Map) (box : Payload)
    → ((cell position : ℕ) → box 3 ≡ Named cell → HasNumber old cell position
    → HasNumber new cell position)
    → IsItem letters old box
    → IsItem letters new box
item_on letters old new box still is = record {
  position = is.position;
  sent = is.sent;
  has = is.has;
  next = next_on is.next;
  fifth = is.fifth;
}
  where
    next_on : IsLast (length letters) is.position (box 3) ⊎ IsFollowed old is.position (box 3)
        → IsLast (length letters) is.position (box 3) ⊎ IsFollowed new is.position (box 3)
    next_on (inl last) = inl last
    next_on (inr next) = inr record {
      cell = next.cell;
      names = next.names;
      item = still next.cell (is.position + 1) next.names next.item;
    }

module _ (old new : Map) (smaller : Smaller old new) where
  stands_still : (passes : List MailPass) → HoldsMail old passes → HoldsMail new passes
  stands_still passes h = record {
    letters = h.letters;
    takers = h.takers;
    few = h.few;
    signed = h.signed;
    received = h.received;
    own = h.own;
    latest = names_still old new smaller (length h.takers) h.latest;
    boxes = λ cell box other at. item_on h.letters old new box
        (λ next position names has. number_still old new smaller cell next 3 position box at
        (omega arith) names has)
        (h.boxes cell box other (smaller.within cell box at));
    apart = apart_still old new smaller h.apart;
  }

-- the law of the rule
pub mail_shrinks : (old new : Map) (passes : List MailPass) → Smaller old new
    → HoldsMail old passes
    → HoldsMail new passes
mail_shrinks old new passes smaller kept = stands_still old new smaller passes kept
