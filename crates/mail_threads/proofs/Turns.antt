-- The turns of the receiver, one after the other.
use Rattle.std.proofs.Common.{◌≡◌, ◌+◌, ℕ, List, [], ◌∷◌, ◌++◌, Option, Some, None}
use Rattle.std.proofs.Common.{refl, sym, ◌∙◌, ap, arith, subst}
use Rattle.std.proofs.lemmas.List.{append-nil, append_assoc, length_push}
use Rattle.cell_words.specs.declared.fields.Field.TheVariants as field
use Rattle.core_machine.specs.Own.{no_own}
use Rattle.core_machine.specs.Trail.{own_along}
use Rattle.mail_rule.specs.declared.items.Item.{Item}
use Rattle.mail_rule.specs.declared.mail_pass.MailPass.{MailPass}
use Rattle.mutator_seat.specs.Bound.{Bound}
use Rattle.trails.specs.Asks.{gave_at}
use Rattle.trails.specs.Stretches.{InTurn}
use Rattle.trails.proofs.Stretches.{had_late, turns_had}
use Rattle.cell_mailbox.specs.Ends.{FindsEmpty, Rests, Takes, take_asks}
use Rattle.mail_threads.specs.Calls.{Drained, Emptied, IsFresh, Received, TakesOne, marks}
use Rattle.mail_threads.specs.Calls.{with_item}
use Rattle.mail_threads.specs.Receipts.{TurnShows}
use Rattle.mail_threads.proofs.Going.{goes_grown, goes_had, returns_calm, returns_none}
use Rattle.mail_threads.proofs.Going.{returns_then}

-- One turn.

pub turn_took : (item : Item) (a b : Bound MailPass)
    → a.seat.me.own ≡ own_along no_own a.seat.me.trail → Takes a b item
    → TakesOne (Some item) a b
turn_took item a b left takes =
    let from = takes.took.from in
    let box = takes.took.box in
    record {
      returns = returns_calm (take_asks from box) a b takes.returns;
      pass = takes.took.pass;
      shows = goes_had (TurnShows (Some item)) a b left takes.returns.goes
          (λ ms shown. record { from = from; box = box; write = shown });
    }

pub turn_none : (a b : Bound MailPass) → a.seat.me.own ≡ own_along no_own a.seat.me.trail
    → FindsEmpty a b → TakesOne None a b
turn_none a b left found = record {
  returns = returns_calm
      (gave_at 0 0 (field.Cell found.cell) ∷ gave_at found.cell 3 field.Null ∷ []) a b
      found.returns;
  pass = found.pass;
  shows = goes_had (TurnShows None) a b left found.returns.goes
      (λ ms shown. record { cell = found.cell; reads = shown });
}

pub turn_all : (answer : Option Item) (a b : Bound MailPass)
    → a.seat.me.own ≡ own_along no_own a.seat.me.trail
    → ((item : Item) → answer ≡ Some item → Takes a b item) → (answer ≡ None → FindsEmpty a b)
    → TakesOne answer a b
turn_all (Some item) a b left took none = turn_took item a b left (took item refl)
turn_all None a b left took none = turn_none a b left (none refl)

-- with a wait before it
pub turn_late : (answer : Option Item) (a b c : Bound MailPass) → Rests a b
    → TakesOne answer b c → TakesOne answer a c
turn_late answer a b c rests turn = record {
  returns = returns_then [] a b c rests.returns turn.returns;
  pass = turn.pass ∙ ap (with_item answer) rests.pass;
  shows = had_late (TurnShows answer) (goes_grown a b rests.returns.goes) turn.shows;
}

-- One turn more.

pub received_first : (items : List Item) (a : Bound MailPass) → IsFresh a → items ≡ []
    → Received 0 items a a
received_first items a fresh none = record {
  returns = returns_none a;
  receives = record {
    sends = fresh.sends;
    takes = fresh.takes ∙ sym none;
    turns = [];
    many = refl;
    shown = tt;
  };
}

item_sends : (answer : Option Item) (pass : MailPass)
    → (with_item answer pass).sends ≡ pass.sends
item_sends (Some item) pass = refl
item_sends None pass = refl

received_one : (n : ℕ) (items more : List Item) (answer : Option Item) (a b c : Bound MailPass)
    → Received n items a b → TakesOne answer b c
    → (with_item answer b.seat.me.pass).takes ≡ more → Received (n + 1) more a c
received_one n items more answer a b c first second is =
    let longer = length_push first.receives.turns answer in
    let many = first.receives.many in
    record {
      returns = returns_then [] a b c first.returns second.returns;
      receives = record {
        sends = ap (λ (p : MailPass). p.sends) second.pass
            ∙ item_sends answer b.seat.me.pass ∙ first.receives.sends;
        takes = ap (λ (p : MailPass). p.takes) second.pass ∙ is;
        turns = first.receives.turns ++ answer ∷ [];
        many = omega (arith, longer, many);
        shown = turns_had TurnShows first.receives.turns answer (marks b) first.receives.shown
            second.shows;
      };
    }

pub received_item : (n : ℕ) (items more : List Item) (item : Item) (a b c : Bound MailPass)
    → Received n items a b → TakesOne (Some item) b c → more ≡ items ++ item ∷ []
    → Received (n + 1) more a c
received_item n items more item a b c first second is =
    received_one n items more (Some item) a b c first second
    (ap (λ (ts : List Item). ts ++ item ∷ []) first.receives.takes ∙ sym is)

pub received_none : (n : ℕ) (items : List Item) (a b c : Bound MailPass) → Received n items a b
    → TakesOne None b c → Received (n + 1) items a c
received_none n items a b c first second =
    received_one n items items None a b c first second first.receives.takes

-- Until nothing is left.

pub drained_first : (items : List Item) (a : Bound MailPass) → Drained items items a a
drained_first items a = record {
  more = [];
  items_are = sym (append-nil items);
  takes = sym (append-nil a.seat.me.pass.takes);
  sends = refl;
  turns = [];
  shown = λ earlier so_far. subst (λ (ts : List (Option Item)). InTurn TurnShows ts (marks a))
      (sym (append-nil earlier)) so_far;
}

pub drained_item : (before items more : List Item) (item : Item) (a b c : Bound MailPass)
    → Drained before items a b → TakesOne (Some item) b c → more ≡ items ++ item ∷ []
    → Drained before more a c
drained_item before items more item a b c first second is = record {
  more = first.more ++ item ∷ [];
  items_are = is ∙ ap (λ (ts : List Item). ts ++ item ∷ []) first.items_are
      ∙ append_assoc before first.more (item ∷ []);
  takes = ap (λ (p : MailPass). p.takes) second.pass
      ∙ ap (λ (ts : List Item). ts ++ item ∷ []) first.takes
      ∙ append_assoc a.seat.me.pass.takes first.more (item ∷ []);
  sends = ap (λ (p : MailPass). p.sends) second.pass ∙ first.sends;
  turns = first.turns ++ Some item ∷ [];
  shown = λ earlier so_far.
      subst (λ (ts : List (Option Item)). InTurn TurnShows ts (marks c))
      (append_assoc earlier first.turns (Some item ∷ []))
      (turns_had TurnShows (earlier ++ first.turns) (Some item) (marks b)
      (first.shown earlier so_far) second.shows);
}

-- all turns, and the last one
pub emptied_turns : (before items : List Item) (a c : Bound MailPass)
    → (rest : Emptied before items a c) → (earlier : List (Option Item))
    → InTurn TurnShows earlier (marks a)
    → InTurn TurnShows ((earlier ++ rest.drained.turns) ++ None ∷ []) (marks c)
emptied_turns before items a c rest earlier so_far =
    turns_had TurnShows (earlier ++ rest.drained.turns) None (marks rest.from)
    (rest.drained.shown earlier so_far) rest.last.shows
