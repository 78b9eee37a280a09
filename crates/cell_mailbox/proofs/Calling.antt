-- Reads that follow one another.
use Rattle.std.proofs.Common.{◌≡◌, ◌≢◌, ◌<◌, ℕ, true, List, [], ◌++◌, length, ◌∙◌, ap, subst}
use Rattle.heap_rule.specs.declared.known.Known.{Known}
use Rattle.heap_rule.specs.declared.known.Known.TheVariants as knows
use Rattle.heap_rule.specs.declared.view.View.{View}
use Rattle.heap_rule.specs.Asks.{known_of, target}
use Rattle.mail_rule.specs.Knowing.{KnowsItem}
use Rattle.mail_rule.specs.declared.items.Item.{Item}
use Rattle.mail_rule.specs.declared.mail_pass.MailPass.{MailPass}
use Rattle.mutator_seat.specs.Bound.{Bound}
use Rattle.trails.specs.Asks.{Ask}
use Rattle.held_places.specs.Calls.{IsCoherent, IsIn, StillKnown, known_fresh, one_kind}
use Rattle.cell_mailbox.specs.Finds.{FindsPart, FindsWhole, Reads}
use Rattle.cell_mailbox.proofs.Finding.{item_still}
use Rattle.held_places.proofs.Going.{goes_late, goes_none, goes_then, holds_then, in_still}
use Rattle.mail_rule.specs.Mail.{is_fixed}

pub reads_then : (xs ys : List Ask) (cs ds : List ℕ) (a b c : Bound MailPass) → Reads xs cs a b
    → Reads ys ds b c → Reads (xs ++ ys) (cs ++ ds) a c
reads_then xs ys cs ds a b c first second = record {
  goes = goes_then first.goes second.goes;
  holds = holds_then is_fixed cs ds a b c first.holds second.holds;
  pass = second.pass ∙ first.pass;
  coherent = first.coherent;
  many = second.many;
}

-- what they show is not asked for
pub reads_unasked : (xs : List Ask) (cs : List ℕ) (a b : Bound MailPass) → Reads xs cs a b
    → Reads [] cs a b
reads_unasked xs cs a b reads = record {
  goes = goes_late reads.goes (goes_none b);
  holds = reads.holds;
  pass = reads.pass;
  coherent = reads.coherent;
  many = reads.many;
}

pub reads_in : (xs : List Ask) (cs : List ℕ) (a b : Bound MailPass) → IsIn a → Reads xs cs a b
    → IsIn b
reads_in xs cs a b is reads = in_still a b cs xs is reads.goes reads.holds.held

pub reads_still : (xs : List Ask) (cs : List ℕ) (a b : Bound MailPass) → Reads xs cs a b
    → (place : ℕ) (item : Item) → KnowsItem a.seat.me place item
    → KnowsItem b.seat.me place item
reads_still xs cs a b reads place item knows =
    item_still a b cs reads.holds.held reads.holds.known place item knows

-- the three parts of an item
module _ (a b c d : Bound MailPass) (place p s v : ℕ) (first : FindsPart a b place 0 p)
    (second : FindsPart b c place 1 s) (third : FindsPart c d place 2 v) where
  pub whole : FindsWhole a d place (record { position = p; sender = s; value = v })
  whole = record {
    reads = reads_unasked _ [] a d
        (reads_then _ _ [] [] a c d (reads_then _ _ [] [] a b c first.reads second.reads)
        third.reads);
    is = λ item knows.
        let in_b = reads_still _ [] a b first.reads place item knows in
        let in_c = reads_still _ [] b c second.reads place item in_b in
        same item (first.is item knows) (second.is item in_b) (third.is item in_c);
  }
    where
      same : (item : Item) → p ≡ item.position → s ≡ item.sender → v ≡ item.value
          → record { position = p; sender = s; value = v } ≡ item
      same item one two three = λ t. record {
        position = one t;
        sender = two t;
        value = three t;
      }

-- a fresh cell is none that is known as an item, where what is known is coherent
pub fresh_apart : (v : View MailPass) → IsCoherent v → (place at : ℕ) (item : Item)
    → place < length v.own.held → KnowsItem v at item
    → known_fresh (known_of v place) ≡ true → target v place ≢ target v at
fresh_apart v coherent place at item lt has fresh same =
    boxed (known_of v place) fresh
    (subst (λ (k : Known). one_kind (known_of v place) k ≡ true) has.known.is
    (coherent.kinds place at lt has.there same))
  where
    boxed : (k : Known) → known_fresh k ≡ true → one_kind k (knows.Boxed has.known.told) ≡ true
        → ⊥
    boxed knows.Nothing fresh kind = absurd cc
    boxed (knows.Raw fields) fresh kind = absurd cc
    boxed (knows.Fresh fields) fresh kind = absurd cc
    boxed (knows.Record t) fresh kind = absurd cc
    boxed (knows.Boxed terms) fresh kind = absurd cc

-- and that stays so
pub fresh_still : (k l : Known) → StillKnown is_fixed k l → known_fresh k ≡ true
    → known_fresh l ≡ true
fresh_still knows.Nothing l still fresh = absurd cc
fresh_still (knows.Raw fields) l still fresh = ap known_fresh still
fresh_still (knows.Fresh fields) l still fresh = ap known_fresh still
fresh_still (knows.Record t) l still fresh = absurd cc
fresh_still (knows.Boxed terms) l still fresh = absurd cc
