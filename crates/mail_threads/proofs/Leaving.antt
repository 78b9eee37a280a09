-- A sender and the receiver, each from its beginning to its end.
use Rattle.std.proofs.Common.{◌≡◌, ℕ, Bool, ◌||◌, not, List, [], ◌∷◌, ◌++◌, None, sym, ◌∙◌}
use Rattle.std.proofs.Common.{ap, arith, subst}
use Rattle.std.proofs.lemmas.List.{length-append}
use Rattle.std.proofs.lemmas.Bool.{OnTrue_at, not-false, or_parts}
use Rattle.std.specs.Bool.{OnTrue}
use Rattle.std.specs.Prelude.{Vec}
use Rattle.std.specs.declared.alloc.Global.{Global}
use Rattle.beside_collector.specs.Scripts.{script_of}
use Rattle.beside_collector.specs.Coming.{Entered, IsSame, Left}
use Rattle.cell_mailbox.specs.Ends.{Returns}
use Rattle.mail_rule.specs.declared.items.Item.{Item}
use Rattle.trails.specs.Stretches.{InTurn}
use Rattle.trails.proofs.Stretches.{turns_grown}
use Rattle.mail_threads.specs.Receipts.{Empties, Receives, TurnShows}
use Rattle.mail_threads.specs.declared.workers.Received.{Received}
use Rattle.mail_threads.proofs.Going.{goes_grown}
use Rattle.mail_threads.proofs.Turns.{emptied_turns}
use Rattle.free_cells.specs.declared.queue.FreeQueue.{FreeQueue}
use Rattle.heap_rule.specs.Shape.{Shape}
use Rattle.heap_table.specs.Seats.{HeapId, SeatView}
use Rattle.mail_rule.specs.declared.mail_pass.MailPass.{MailPass}
use Rattle.mutator_seat.specs.Bound.{Bound}
use Rattle.trails.specs.Marks.{Mark, marks_of}
use Rattle.mail_threads.specs.Calls.{Emptied, Posted, marks}
use Rattle.mail_threads.specs.Posts.{Posts}
use Rattle.mail_threads.specs.Workers.{HasReceived, IsDone, IsHalfway, IsReady, Mailer}

module _ (heap : HeapId) (queue : FreeQueue) (scripts : List (Vec ℕ Global)) (number : ℕ)
    (old new : Mailer) (m n : Bound MailPass) (ready : IsReady heap queue scripts number old)
    (came : Entered heap old.seat m)
    (posted : Posted (script_of scripts number) new.own.items m n) (left : Left n new.seat) where
  shape : m.seat.me.shape ≡ heap.shape
  shape = came.shape ∙ ready.new.seat_is.1

  pub sender_done : IsDone heap scripts number new
  sender_done =
      let script = script_of scripts number in
      let sent = new.own.items in
      record {
        is_over = record {
          seat_is = (
            left.table ∙ posted.returns.goes.table ∙ came.table ∙ ready.new.seat_is.0,
            left.shape ∙ posted.returns.goes.shape ∙ shape,
          );
          number_is = left.number ∙ posted.returns.goes.number ∙ came.number
              ∙ ready.new.number_is;
          over = left.over;
        };
        posts = subst (λ (h : Shape). Posts h.cells script sent new.seat.me.pass
            (marks_of new.seat.me.trail)) shape
            (subst (λ (p : MailPass). Posts m.seat.me.shape.cells script sent p
            (marks_of new.seat.me.trail)) (sym left.pass)
            (subst (λ (ms : List Mark). Posts m.seat.me.shape.cells script sent
            n.seat.me.pass ms) (sym left.marks) posted.posts));
      }

-- The receiver's second half: it came in again, took what was left, went out, and is over.

module _ (heap : HeapId) (number lines : ℕ) (a b c : Bound MailPass) (before items : List Item)
    (failed whole : Bool) (half : IsHalfway heap number lines a before failed) (woke : IsSame a b)
    (returns : Returns [] b c) (emptied : OnTrue whole (Emptied before items b c))
    (seat : SeatView MailPass) (new : Received) (left : Left c seat)
    (items_are : new.items.items ≡ items) where
  more_received : Receives lines before a.seat.me.pass (marks a) → Emptied before items b c
      → Receives lines new.items.items seat.me.pass (marks_of seat.me.trail)
  more_received first all =
      let rest = all.drained in
      let last = all.last.pass in
      record {
        sends = ap (λ (p : MailPass). p.sends) left.pass ∙ ap (λ (p : MailPass). p.sends) last
            ∙ rest.sends ∙ ap (λ (p : MailPass). p.sends) woke.pass ∙ first.sends;
        takes = ap (λ (p : MailPass). p.takes) left.pass ∙ ap (λ (p : MailPass). p.takes) last
            ∙ rest.takes
            ∙ ap (λ (p : MailPass). p.takes ++ rest.more) woke.pass
            ∙ ap (λ (ts : List Item). ts ++ rest.more) first.takes ∙ sym rest.items_are
            ∙ sym items_are;
        turns = first.turns;
        many = first.many;
        shown = subst (λ (ms : List Mark). InTurn TurnShows first.turns ms) (sym left.marks)
            (turns_grown TurnShows first.turns (marks b)
            (subst (λ (ms : List Mark). InTurn TurnShows first.turns ms) (sym woke.marks)
            first.shown) (goes_grown b c returns.goes));
      }

  all_turns : Receives lines before a.seat.me.pass (marks a) → Emptied before items b c
      → Empties lines (marks_of seat.me.trail)
  all_turns first rest = record {
    turns = first.turns ++ rest.drained.turns;
    many =
        let both = length-append first.turns rest.drained.turns in
        let many = first.many in omega (arith, both, many);
    shown = subst (λ (ms : List Mark). InTurn TurnShows
        ((first.turns ++ rest.drained.turns) ++ None ∷ []) ms) (sym left.marks)
        (emptied_turns before items b c rest first.turns
        (subst (λ (ms : List Mark). InTurn TurnShows first.turns ms) (sym woke.marks)
        first.shown));
  }

  pub has_received : new.failed ≡ (failed || not whole) → HasReceived heap number lines seat new
  has_received fails = record {
    is_over = record {
      seat_is = (
        left.table ∙ returns.goes.table ∙ woke.table ∙ half.table,
        left.shape ∙ returns.goes.shape ∙ woke.shape ∙ half.shape,
      );
      number_is = left.number ∙ returns.goes.number ∙ woke.number ∙ half.number_is;
      over = left.over;
    };
    taken = λ fine.
        let both = or_parts failed (not whole) (sym fails ∙ fine) in
        more_received (half.received both.0) (OnTrue_at (not-false whole both.1) emptied);
    emptied = λ fine.
        let both = or_parts failed (not whole) (sym fails ∙ fine) in
        all_turns (half.received both.0) (OnTrue_at (not-false whole both.1) emptied);
  }
