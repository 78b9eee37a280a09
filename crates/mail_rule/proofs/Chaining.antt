-- The items after a box: as many boxes as were sent after it.
use Rattle.std.proofs.Common.{◌≡◌, ℕ, zero, suc, ◌+◌, ◌-◌, List, [], ◌∷◌, length, inl, inr, arith}
use Rattle.heap_rule.specs.Boxes.{Map}
use Rattle.heap_rule.specs.Numbered.{HasNumber}
use Rattle.mail_rule.specs.Chains.{Behind, last, more}
use Rattle.mail_rule.specs.Mail.{HoldsMail}
use Rattle.mail_rule.specs.declared.mail_pass.MailPass.{MailPass}
use Rattle.mail_rule.proofs.Standing.{item_of, position_low}

module _ (map : Map) (passes : List MailPass) (h : HoldsMail map passes) where
  after_so_many : (left cell position : ℕ) → position + left ≡ length h.letters
      → HasNumber map cell position
      → Behind h.letters map cell position
  after_so_many zero cell position so_many has =
      let is = item_of map passes h cell position has in
      elim is.next [
        | inl end ↦ record {
          cells = [];
          many = so_many;
          follow = last has.box has.there is.has end.none;
        }
        | inr next ↦ absurd (
            let low = position_low map passes h next.cell (position + 1) next.item in
            omega (arith, low, so_many))
      ]
  after_so_many (suc left) cell position so_many has =
      let is = item_of map passes h cell position has in
      elim is.next [
        | inl end ↦ absurd (let e = end.last in omega (arith, e, so_many))
        | inr next ↦
            let rest = after_so_many left next.cell (position + 1) (omega (arith, so_many))
            next.item in
            record {
              cells = next.cell ∷ rest.cells;
              many = (let m = rest.many in
                  let e : position + length (next.cell ∷ rest.cells) ≡ length h.letters =
                  omega (arith, m) in e);
              follow = more has.box has.there is.has next.names rest.follow;
            }
      ]

  pub after : (cell position : ℕ) → HasNumber map cell position
      → Behind h.letters map cell position
  after cell position has =
      let low = position_low map passes h cell position has in
      after_so_many (length h.letters - position) cell position (omega (arith, low)) has
