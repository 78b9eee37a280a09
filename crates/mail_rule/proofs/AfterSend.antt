-- The rule where an item is sent: null in the last box becomes a box that was in no map before.
use Rattle.std.proofs.Common.{◌≡◌, ◌≢◌, ℕ, ◌+◌, ◌<◌, ◌≤◌, ◌⊎◌, List, [], ◌∷◌, ◌++◌, length, All}
use Rattle.std.proofs.Common.{Some, None, set, length-set, inl, inr, refl, sym, ◌∙◌, ap, subst}
use Rattle.std.proofs.Common.{arith}
use Rattle.std.proofs.lemmas.Bool.{cases_eq}
use Rattle.std.proofs.lemmas.List.{length_push}
use Rattle.std.proofs.lemmas.List.Elements.{All-push}
use mathlib.Core.Option.{some}
use lib.ListN.{get_elem?}
use Rattle.atomic_table.proofs.Lists.{at_set}
use Rattle.cell_words.specs.Term.{null, num}
use Rattle.run_limits.specs.declared.TheConstants.{MOST_CLIENTS, MOST_COMMANDS}
use Rattle.heap_rule.specs.Boxes.{Map, Payload, written_map}
use Rattle.heap_rule.specs.Lore.{Named, Plain, put}
use Rattle.heap_rule.specs.Numbered.{AreApart, HasNumber, NamesNumber}
use Rattle.heap_rule.proofs.Claiming.{put_here, put_other}
use Rattle.heap_rule.proofs.Entries.{some_is, written_else, written_here}
use Rattle.heap_rule.proofs.Moving.{some_below}
use Rattle.heap_rule.proofs.Numbered.{added_or_before, apart_with, names_beside, names_written}
use Rattle.heap_rule.proofs.Numbered.{not_added, not_anchor, number_added, number_beside}
use Rattle.heap_rule.proofs.Numbered.{number_unwritten, number_written}
use Rattle.mail_rule.specs.Items.{Letter, letter_at, sends_of}
use Rattle.mail_rule.specs.Mail.{HasItem, HoldsMail, IsItem, IsOwn, IsSigned}
use Rattle.mail_rule.specs.Passes.{having_sent}
use Rattle.mail_rule.specs.declared.items.Sent.{Sent}
use Rattle.mail_rule.specs.declared.mail_pass.MailPass.{MailPass}
use Rattle.mail_rule.proofs.Letters.{letter_last, letter_still, sends_more, sends_same, takes_still}
use Rattle.mail_rule.proofs.Standing.{At, is_at, item_of, taken_low}

-- the box of an item that is to be sent
pub record IsNew (position : ℕ) (letter : Letter) (box : Payload) : Type 0 where
  pub position_is : box 0 ≡ Plain (num position)
  pub sender_is : box 1 ≡ Plain (num letter.sender)
  pub value_is : box 2 ≡ Plain (num letter.value)
  pub next_is : box 3 ≡ Plain null
  pub fifth : box 4 ≡ Plain null

module _ (map : Map) (passes : List MailPass) (h : HoldsMail map passes) (z c u : ℕ)
    (letter : Letter) (box : Payload) (absent : map z ≡ None) (fresh : IsNew (u + 1) letter box)
    (old : HasNumber map c u) (last : old.box 3 ≡ Plain null) where
  abbrev shown : Map
  shown = put map z (Some box)

  abbrev new : Map
  new = written_map shown c 3 (Named z)

  abbrev longer : List Letter
  longer = h.letters ++ letter ∷ []

  grown : length longer ≡ length h.letters + 1
  grown = length_push h.letters letter

  -- null is in the last box alone
  pub was_last : u ≡ length h.letters
  was_last = elim (item_of map passes h c u old).next [
    | inl end ↦ end.last
    | inr next ↦ absurd (let e : Named next.cell ≡ Plain null = sym next.names ∙ last in cc)
  ]

  old_there : shown c ≡ Some old.box
  old_there = put_other map z (Some box) c (not_added map z box absent c old.box old.there)
      ∙ old.there

  old_here : new c ≡ Some (put old.box 3 (Named z))
  old_here = written_here shown c 3 (Named z) old.box old_there

  not_old : z ≢ c
  not_old e = not_added map z box absent c old.box old.there (sym e)

  box_here : new z ≡ Some box
  box_here = written_else shown c 3 (Named z) old.box old_there z not_old
      ∙ put_here map z (Some box)

  -- a cell that is neither the last box nor the new one is as it was
  else_same : (y : ℕ) → y ≢ c → y ≢ z → new y ≡ map y
  else_same y one other = written_else shown c 3 (Named z) old.box old_there y one
      ∙ put_other map z (Some box) y other

  new_has : HasNumber new z (u + 1)
  new_has = number_written shown c 3 (Named z) old.box old_there (omega arith) z (u + 1)
      (number_added map z box absent (u + 1) fresh.position_is)

  position_still : (y p : ℕ) → HasNumber map y p → HasNumber new y p
  position_still y p has = number_written shown c 3 (Named z) old.box old_there (omega arith) y p
      (number_beside map z box absent y p has)

  -- a box with a position is the new one, or had it before
  position_before : (y p : ℕ) → HasNumber new y p
      → ((y ≡ z) × (p ≡ u + 1)) ⊎ HasNumber map y p
  position_before y p has = added_or_before map z box absent (u + 1) fresh.position_is y p
      (number_unwritten shown c 3 (Named z) old.box old_there (omega arith) y p has)

  -- The boxes.

  has_still : (p : ℕ) (q : Payload) → p ≤ length h.letters → HasItem h.letters p q
      → HasItem longer p q
  has_still p q low has = record {
    position_is = has.position_is;
    sender_is = has.sender_is ∙ ap (λ (l : Letter). Plain (num l.sender))
        (sym (letter_still h.letters letter p low));
    value_is = has.value_is ∙ ap (λ (l : Letter). Plain (num l.value))
        (sym (letter_still h.letters letter p low));
  }

  has_new : HasItem longer (u + 1) box
  has_new =
      let is : letter_at longer (u + 1) ≡ letter =
      letter_last h.letters letter (u + 1) (ap (λ (n : ℕ). n + 1) was_last) in
      record {
        position_is = fresh.position_is;
        sender_is = fresh.sender_is ∙ ap (λ (l : Letter). Plain (num l.sender)) (sym is);
        value_is = fresh.value_is ∙ ap (λ (l : Letter). Plain (num l.value)) (sym is);
      }

  longer_low : (p : ℕ) → p ≤ length h.letters → p ≤ length longer
  longer_low p low = let more = grown in omega (arith, low, more)

  at_new : At longer new (u + 1) box
  at_new = record {
    sent = let more = grown in let is = was_last in omega (arith, more, is);
    has = has_new;
    next = inl record {
      last = (let more = grown in let is = was_last in
          let e : u + 1 ≡ length longer = omega (arith, more, is) in e);
      none = fresh.next_is;
    };
    fifth = fresh.fifth;
  }

  at_old : At longer new u (put old.box 3 (Named z))
  at_old =
      let is = item_of map passes h c u old in
      let has : HasItem longer u old.box = has_still u old.box is.sent is.has in
      record {
        sent = longer_low u is.sent;
        has = record {
          position_is = has.position_is;
          sender_is = has.sender_is;
          value_is = has.value_is;
        };
        next = inr record { cell = z; names = refl; item = new_has };
        fifth = is.fifth;
      }

  at_else : (y p : ℕ) (has : HasNumber map y p) → y ≢ c → At longer new p has.box
  at_else y p has other =
      let is = item_of map passes h y p has in
      record {
        sent = longer_low p is.sent;
        has = has_still p has.box is.sent is.has;
        next = elim is.next [
          | inl end ↦ absurd (other (h.apart y c u
              (subst (λ (q : ℕ). HasNumber map y q) (end.last ∙ sym was_last) has) old))
          | inr next ↦ inr record {
            cell = next.cell;
            names = next.names;
            item = position_still next.cell (p + 1) next.item;
          }
        ];
        fifth = is.fifth;
      }

  boxes_new : (y : ℕ) (q : Payload) → y ≢ 0 → new y ≡ Some q → IsItem longer new q
  boxes_new y q one there = elim (cases_eq y z) [
    | inl same ↦
        subst (λ (b : Payload). IsItem longer new b)
        (some_is box q (sym box_here ∙ subst (λ (x : ℕ). new x ≡ Some q) same there))
        (is_at longer new (u + 1) box at_new)
    | inr apart ↦ elim (cases_eq y c) [
      | inl same ↦
          subst (λ (b : Payload). IsItem longer new b)
          (some_is (put old.box 3 (Named z)) q
          (sym old_here ∙ subst (λ (x : ℕ). new x ≡ Some q) same there))
          (is_at longer new u (put old.box 3 (Named z)) at_old)
      | inr other ↦
          let before : map y ≡ Some q = sym (else_same y other apart) ∙ there in
          let is = h.boxes y q one before in
          is_at longer new is.position q (at_else y is.position record {
            box = q;
            there = before;
            number_is = is.has.position_is;
          } other)
    ]
  ]

  latest_new : NamesNumber new (length h.takers)
  latest_new = names_written shown c 3 (Named z) old.box old_there (omega arith)
      (λ e. not_anchor map (length h.takers) c u h.latest old (sym e)) (length h.takers)
      (names_beside map z box absent (length h.takers) h.latest)

  -- no box had the new position
  apart_new : AreApart new
  apart_new = apart_with map new z (u + 1) position_before
      (λ y p has is.
      let low = (item_of map passes h y p has).sent in let end = was_last in
      omega (arith, low, end, is)) h.apart

  -- The passes.

  module _ (i : ℕ) (pass : MailPass) (at : get_elem? passes i ≡ some pass)
      (few : length pass.sends < MOST_COMMANDS) (signed : letter.sender ≡ i + 1) where
    abbrev sent : Sent
    sent = record { position = u + 1; value = letter.value }

    abbrev after : List MailPass
    after = set passes i (having_sent sent pass)

    many : length after ≡ length passes
    many = length-set passes i (having_sent sent pass)

    own_new : IsOwn longer h.takers i (having_sent sent pass)
    own_new =
        let own = h.own i pass at in
        record {
          sends = ap (λ (ss : List Sent). ss ++ sent ∷ []) own.sends
              ∙ ap (λ (n : ℕ). sends_of h.letters (i + 1)
              ++ record { position = n + 1; value = letter.value } ∷ []) was_last
              ∙ sym (sends_more h.letters letter (i + 1) signed);
          takes = own.takes
              ∙ sym (takes_still h.letters letter h.takers i (taken_low map passes h));
          few = let more = length_push pass.sends sent in omega (arith, few, more);
        }

    own_else : (k : ℕ) (other : MailPass) → k ≢ i → get_elem? passes k ≡ some other
        → IsOwn longer h.takers k other
    own_else k other apart there =
        let own = h.own k other there in
        record {
          sends = own.sends ∙ sym (sends_same h.letters letter (k + 1)
              (λ e. apart (let same : k ≡ i = omega (arith, e, signed) in same)));
          takes = own.takes
              ∙ sym (takes_still h.letters letter h.takers k (taken_low map passes h));
          few = own.few;
        }

    own_at : (k : ℕ) (other : MailPass) → get_elem? after k ≡ some other
        → IsOwn longer h.takers k other
    own_at k other there = elim (at_set passes i k (having_sent sent pass) other there) [
      | inl here ↦ subst (λ (n : ℕ). IsOwn longer h.takers n other) (sym here.0)
          (subst (λ (p : MailPass). IsOwn longer h.takers i p) here.1 own_new)
      | inr else ↦ own_else k other else.0 else.1
    ]

    letter_signed : IsSigned (length passes) letter
    letter_signed =
        let below = some_below passes i pass at in
        record { some = omega (arith, signed); few = omega (arith, signed, below) }

    pub sends : HoldsMail new after
    sends = record {
      letters = longer;
      takers = h.takers;
      few = subst (λ (n : ℕ). n ≤ MOST_CLIENTS) (sym many) h.few;
      signed = subst (λ (n : ℕ). All (IsSigned n) longer) (sym many)
          (All-push (IsSigned (length passes)) h.letters letter h.signed letter_signed);
      received = subst (λ (n : ℕ). All (λ (number : ℕ). number < n) h.takers) (sym many)
          h.received;
      own = own_at;
      latest = latest_new;
      boxes = boxes_new;
      apart = apart_new;
    }
