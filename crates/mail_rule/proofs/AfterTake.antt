-- The rule where an item is taken: the anchor goes from a box to the one after it.
use Rattle.std.proofs.Common.{◌≡◌, ◌≢◌, ℕ, ◌+◌, ◌<◌, ◌≤◌, List, [], ◌∷◌, ◌++◌, length, All}
use Rattle.std.proofs.Common.{set, length-set, inl, inr, refl, sym, ◌∙◌, ap, subst}
use Rattle.std.proofs.lemmas.List.{length_push}
use Rattle.std.proofs.lemmas.List.Elements.{All-push}
use mathlib.Core.Option.{some}
use lib.ListN.{get_elem?}
use Rattle.atomic_table.proofs.Lists.{at_set}
use Rattle.run_limits.specs.declared.TheConstants.{MOST_CLIENTS}
use Rattle.heap_rule.specs.Boxes.{Map, written_map}
use Rattle.heap_rule.specs.Lore.{Named}
use Rattle.heap_rule.specs.Numbered.{HasNumber, NamesNumber}
use Rattle.heap_rule.proofs.Moving.{some_below}
use Rattle.heap_rule.proofs.Numbered.{moved_else, named_number, names_moved, number_moved}
use Rattle.heap_rule.proofs.Numbered.{number_unmoved}
use Rattle.mail_rule.specs.Items.{item_at, takes_of}
use Rattle.mail_rule.specs.Mail.{HoldsMail, IsOwn, IsSigned}
use Rattle.mail_rule.specs.Passes.{having_taken}
use Rattle.mail_rule.specs.Shrinks.{item_on}
use Rattle.mail_rule.specs.declared.items.Item.{Item}
use Rattle.mail_rule.specs.declared.mail_pass.MailPass.{MailPass}
use Rattle.mail_rule.proofs.Letters.{takes_more, takes_same}

module _ (map : Map) (passes : List MailPass) (h : HoldsMail map passes) (c d u : ℕ)
    (named : h.latest.anchor 0 ≡ Named c) (before : HasNumber map c u)
    (next : HasNumber map d (u + 1)) where
  abbrev new : Map
  new = written_map map 0 0 (Named d)

  -- the box that the anchor named had the item that was taken last
  was_latest : length h.takers ≡ u
  was_latest = named_number map (length h.takers) c u h.latest named before

  module _ (i : ℕ) (pass : MailPass) (at : get_elem? passes i ≡ some pass) (item : Item)
      (item_is : item ≡ item_at h.letters (u + 1)) where
    abbrev takers : List ℕ
    takers = h.takers ++ i ∷ []

    grown : length takers ≡ u + 1
    grown = length_push h.takers i ∙ ap (λ (n : ℕ). n + 1) was_latest

    abbrev after : List MailPass
    after = set passes i (having_taken item pass)

    many : length after ≡ length passes
    many = length-set passes i (having_taken item pass)

    latest_new : NamesNumber new (length takers)
    latest_new = subst (λ (n : ℕ). NamesNumber new n) (sym grown)
        (names_moved map (length h.takers) h.latest d (u + 1) next)

    own_new : IsOwn h.letters takers i (having_taken item pass)
    own_new =
        let own = h.own i pass at in
        record {
          sends = own.sends;
          takes = ap (λ (is : List Item). is ++ item ∷ []) own.takes
              ∙ ap (λ (x : Item). takes_of h.letters h.takers i ++ x ∷ [])
              (item_is ∙ ap (λ (n : ℕ). item_at h.letters (n + 1)) (sym was_latest))
              ∙ sym (takes_more h.letters h.takers i i refl);
          few = own.few;
        }

    own_else : (k : ℕ) (other : MailPass) → k ≢ i → get_elem? passes k ≡ some other
        → IsOwn h.letters takers k other
    own_else k other apart there =
        let own = h.own k other there in
        record {
          sends = own.sends;
          takes = own.takes
              ∙ sym (takes_same h.letters h.takers i k (λ e. apart (sym e)));
          few = own.few;
        }

    own_at : (k : ℕ) (other : MailPass) → get_elem? after k ≡ some other
        → IsOwn h.letters takers k other
    own_at k other there = elim (at_set passes i k (having_taken item pass) other there) [
      | inl here ↦ subst (λ (n : ℕ). IsOwn h.letters takers n other) (sym here.0)
          (subst (λ (p : MailPass). IsOwn h.letters takers i p) here.1 own_new)
      | inr else ↦ own_else k other else.0 else.1
    ]

    pub takes : HoldsMail new after
    takes = record {
      letters = h.letters;
      takers = takers;
      few = subst (λ (n : ℕ). n ≤ MOST_CLIENTS) (sym many) h.few;
      signed = subst (λ (n : ℕ). All (IsSigned n) h.letters) (sym many) h.signed;
      received = subst (λ (n : ℕ). All (λ (number : ℕ). number < n) takers) (sym many)
          (All-push (λ (number : ℕ). number < length passes) h.takers i h.received
          (some_below passes i pass at));
      own = own_at;
      latest = latest_new;
      boxes = λ y q other there.
          let old = sym (moved_else map (length h.takers) h.latest d y other) ∙ there in
          item_on h.letters map new q
          (λ cell p names has. number_moved map (length h.takers) h.latest d cell p has)
          (h.boxes y q other old);
      apart = λ y x p a b. h.apart y x p
          (number_unmoved map (length h.takers) h.latest d y p a)
          (number_unmoved map (length h.takers) h.latest d x p b);
    }
