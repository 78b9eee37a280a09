-- A try between an answer and the cut of its places: what the whole call does.
use Rattle.std.proofs.Common.{◌≡◌, ◌≤◌, ◌+◌, ℕ, List, [], ◌++◌, length, refl, sym}
use Rattle.std.proofs.Common.{◌∙◌, ap, arith, subst}
use Rattle.std.proofs.lemmas.List.{append-nil, append_assoc}
use Rattle.core_machine.specs.declared.events.Event.{Event}
use Rattle.core_machine.specs.declared.events.Event.TheVariants as event
use Rattle.core_machine.specs.declared.events.Found.{Found}
use Rattle.core_machine.specs.declared.events.Taken.{Taken}
use Rattle.cell_words.specs.declared.fields.Field.{Field}
use Rattle.heap_rule.specs.declared.known.Learned.{Learned}
use Rattle.heap_rule.specs.declared.view.View.{View}
use Rattle.mail_rule.specs.Passes.{having_sent, having_taken}
use Rattle.mail_rule.specs.declared.items.Item.{Item}
use Rattle.mail_rule.specs.declared.items.Sent.{Sent}
use Rattle.mail_rule.specs.declared.mail_pass.MailPass.{MailPass}
use Rattle.mutator_seat.specs.Bound.{Bound, held_cells, takes}
use Rattle.mutator_seat.specs.Stretches.{Calm}
use Rattle.trails.specs.Asks.{Ask}
use Rattle.held_places.specs.Calls.{IsIn, StaysKnown}
use Rattle.heap_rule.specs.Asks.{known_of}
use Rattle.mail_rule.specs.Mail.{is_fixed}
use Rattle.cell_mailbox.specs.Ends.{AllKnown, AtOneWrite, EmptyTry, FindsEmpty, Leaves, LostTry}
use Rattle.cell_mailbox.specs.Ends.{FindsFullHeap, FullTry, PostEnds, Returns, Sends, SentTry}
use Rattle.cell_mailbox.specs.Ends.{Rests, Takes, TookTry, TurnEnds, send_asks, take_asks}
use Rattle.cell_mailbox.specs.Walks.{Walked}
use Rattle.cell_mailbox.specs.declared.turns.Post.{Post}
use Rattle.cell_mailbox.specs.declared.turns.Post.TheVariants as posts
use Rattle.cell_mailbox.specs.declared.turns.Turn.{Turn}
use Rattle.cell_mailbox.specs.declared.turns.Turn.TheVariants as turns
use Rattle.mutator_seat.specs.declared.full.HeapFull.{HeapFull}
use Rattle.held_places.proofs.Going.{calm_goes, cut_goes, cut_held, cut_known, cut_pass}
use Rattle.held_places.proofs.Going.{goes_late, goes_none, goes_on, goes_then, in_still}
use Rattle.held_places.proofs.Going.{kept_known, known_then, many_held, still_same}

pub rests_first : (a : Bound MailPass) → Rests a a
rests_first a = record {
  returns = record { goes = goes_none a; held = refl };
  pass = refl;
  known = λ place lt. still_same is_fixed (known_of a.seat.me place);
}

-- an answer after that does nothing more
pub rests_calm : (F : List Taken → Type 0) (a b c : Bound MailPass) → Rests a b → Calm F b c
    → Rests a c
rests_calm F a b c rests calm = record {
  returns = record {
    goes = goes_then rests.returns.goes (calm_goes F b c calm);
    held = calm.kept.held ∙ rests.returns.held;
  };
  pass = calm.kept.pass ∙ rests.pass;
  known = known_then is_fixed (length a.seat.me.own.held) a b c rests.known
      (kept_known is_fixed (length a.seat.me.own.held) b c calm.kept);
}

module _ (a c : Bound MailPass) (came : Rests a c) where
  same_held : held_cells c ≡ held_cells a ++ []
  same_held = came.returns.held ∙ sym (append-nil (held_cells a))

  pub same_many : length c.seat.me.own.held ≡ length a.seat.me.own.held
  same_many = let many = many_held a c [] same_held in omega (arith, many)

  pub rests_then : (d : Bound MailPass) → Rests c d → Rests a d
  rests_then d more = record {
    returns = record {
      goes = goes_then came.returns.goes more.returns.goes;
      held = more.returns.held ∙ came.returns.held;
    };
    pass = more.pass ∙ came.pass;
    known = known_then is_fixed (length a.seat.me.own.held) a c d came.known
        (subst (λ (k : ℕ). StaysKnown is_fixed k c d) same_many more.known);
  }

  pub rests_in : IsIn a → IsIn c
  rests_in is = in_still a c [] [] is came.returns.goes same_held

  pub rests_room : (less more : ℕ) → less ≤ more
      → length a.seat.me.own.held + more ≤ a.seat.me.room
      → length c.seat.me.own.held + less ≤ c.seat.me.room
  rests_room less more le room =
      let many = same_many in let same = came.returns.goes.room in
      omega (arith, many, same, le, room)

  -- the places of a try are there, and are cut
  pub cut_kept : (asks : List Ask) (d : Bound MailPass) (n : ℕ) → n ≡ length a.seat.me.own.held
      → Leaves asks c d → n ≤ length d.seat.me.own.held
  cut_kept asks d n is leaves =
      let longer = many_held c d leaves.cells leaves.held in let many = same_many in
      omega (arith, longer, many, is)

  pub cut_turn : (d : Bound MailPass) (n : ℕ) → n ≡ length a.seat.me.own.held → (turn : Turn)
      → TurnEnds c d turn → n ≤ length d.seat.me.own.held
  cut_turn d n is (turns.Took item) ends = cut_kept _ d n is ends.leaves
  cut_turn d n is turns.Empty ends = cut_kept _ d n is ends.leaves
  cut_turn d n is turns.Lost ends = cut_kept [] d n is ends.leaves

  pub cut_post : (d : Bound MailPass) (n value : ℕ) → n ≡ length a.seat.me.own.held
      → (post : Post) → PostEnds c d value post → n ≤ length d.seat.me.own.held
  cut_post d n value is (posts.Sent position) ends = cut_kept _ d n is ends.leaves
  cut_post d n value is (posts.Full full) ends = cut_kept [] d n is ends.leaves
  cut_post d n value is posts.Lost ends = cut_kept [] d n is ends.leaves

  module _ (d e : Bound MailPass) (n : ℕ) (p : Found) (is : n ≡ length a.seat.me.own.held)
      (told : e ≡ takes d (event.Keep d.seat.me.number n 0 0) p) where
    pub returns_all : (asks : List Ask) → Leaves asks c d → Returns asks a e
    returns_all asks leaves = record {
      goes = goes_on (goes_late came.returns.goes leaves.goes) (cut_goes d e n p told);
      held = cut_held d e n p told c leaves.cells (is ∙ sym same_many) leaves.held
          ∙ append-nil (held_cells c) ∙ came.returns.held;
    }

    known_all : (asks : List Ask) → Leaves asks c d → AllKnown a e
    known_all asks leaves =
        known_then is_fixed (length a.seat.me.own.held) a c e came.known
        (known_then is_fixed (length a.seat.me.own.held) c d e
        (subst (λ (k : ℕ). StaysKnown is_fixed k c d) same_many leaves.known)
        (subst (λ (k : ℕ). StaysKnown is_fixed k d e) is (cut_known is_fixed d e n p told)))

    at_one_all : (writes : View MailPass → Event) (next : Learned → Found → MailPass → MailPass)
        (found : Field) → AtOneWrite c d writes next found → AtOneWrite a e writes next found
    at_one_all writes next found one =
        let cut = cut_goes d e n p told in
        let from = came.returns.goes in
        record {
          at = one.at;
          before = from.added ++ one.before;
          trail_before = one.trail_before ∙ ap (λ (ts : List Taken). ts ++ one.before) from.trail
              ∙ append_assoc a.seat.me.trail from.added one.before;
          number_before = one.number_before ∙ from.number;
          pass_before = one.pass_before ∙ came.pass;
          behind = one.behind;
          step = one.step;
          after = one.after ++ cut.added;
          trail_after = cut.trail ∙ ap (λ (ts : List Taken). ts ++ cut.added) one.trail_after
              ∙ append_assoc one.behind.trail one.after cut.added;
        }

    pub takes_all : (item : Item) → TookTry c d item → Takes a e item
    takes_all item try = record {
      returns = returns_all (take_asks try.took.from try.took.box) try.leaves;
      took = record {
        from = try.took.from;
        box = try.took.box;
        write = at_one_all _ _ _ try.took.write;
        pass = cut_pass d e n p told ∙ try.took.pass ∙ ap (having_taken item) came.pass;
      };
      known = known_all (take_asks try.took.from try.took.box) try.leaves;
    }

    shown_all : (sent : Sent) (try : SentTry c d sent)
        → Returns (send_asks try.last try.sent_once.box) a e
    shown_all sent try = returns_all (send_asks try.last try.sent_once.box) try.leaves

    pub sends_all : (sent : Sent) → SentTry c d sent → Sends a e sent
    sends_all sent try = record {
      returns = record {
        goes = goes_late (shown_all sent try).goes (goes_none e);
        held = (shown_all sent try).held;
      };
      last = try.last;
      shown = (shown_all sent try).goes;
      known = known_all (send_asks try.last try.sent_once.box) try.leaves;
      sent_once = record {
        place = try.sent_once.place;
        box = try.sent_once.box;
        write = at_one_all _ _ _ try.sent_once.write;
        pass = cut_pass d e n p told ∙ try.sent_once.pass ∙ ap (having_sent sent) came.pass;
      };
    }

    pub empty_all : EmptyTry c d → FindsEmpty a e
    empty_all try = record {
      cell = try.cell;
      returns = returns_all _ try.leaves;
      pass = cut_pass d e n p told ∙ try.pass ∙ came.pass;
      known = known_all _ try.leaves;
    }

    pub rests_all : LostTry c d → Rests a e
    rests_all try = record {
      returns = returns_all [] try.leaves;
      pass = cut_pass d e n p told ∙ try.pass ∙ came.pass;
      known = known_all [] try.leaves;
    }

    pub full_all : (full : HeapFull) → FullTry c d full → FindsFullHeap a e full
    full_all full try = record {
      returns = returns_all [] try.leaves;
      pass = cut_pass d e n p told ∙ try.pass ∙ came.pass;
      known = known_all [] try.leaves;
      from = try.from;
      to = try.to;
      before = goes_then came.returns.goes try.before;
      number_is = try.number_is ∙ came.returns.goes.number;
      shape_is = try.shape_is ∙ came.returns.goes.shape;
      stretch = try.stretch;
      after = goes_then try.after (cut_goes d e n p told);
    }

    -- the walk of the last try
    pub walked_all : Walked c d → Walked a e
    walked_all walk = record {
      from = walk.from;
      to = walk.to;
      held = walk.held;
      position = walk.position;
      before = goes_then came.returns.goes walk.before;
      ends = walk.ends;
      prompt = walk.prompt;
      after = goes_then walk.after (cut_goes d e n p told);
    }
