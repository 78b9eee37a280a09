-- A client from its beginning to its end.
use Rattle.std.proofs.Common.{◌≡◌, ℕ, Bool, true, false, not, List, ◌++◌, length, take, min}
use Rattle.std.proofs.Common.{sym, ◌∙◌, ap, subst, arith}
use Rattle.std.proofs.Math.Seq.{take-length}
use Rattle.std.proofs.lemmas.Bool.{not-false}
use Rattle.std.proofs.lemmas.List.{length-map, length-take, take_min}
use Rattle.std.specs.Prelude.{Vec}
use Rattle.std.specs.declared.alloc.Global.{Global}
use Rattle.beside_collector.specs.Coming.{Entered, Left}
use Rattle.beside_collector.specs.Scripts.{script_of}
use Rattle.client_run.specs.Own.{MayAnswer, client_state}
use Rattle.client_session.specs.declared.journal.Limits.{Limits}
use Rattle.client_run.specs.declared.session.Session.{Session}
use Rattle.client_session.specs.Turns.{bounds}
use Rattle.client_history.specs.Turns.{IsInStep}
use Rattle.doc_model.specs.Answers.{Limits as StoreLimits}
use Rattle.doc_model.specs.declared.command.Command.{Command}
use Rattle.doc_model.specs.declared.command.Entry.{Entry}
use Rattle.free_cells.specs.declared.queue.FreeQueue.{FreeQueue}
use Rattle.heap_rule.specs.Shape.{Shape}
use Rattle.heap_table.specs.Seats.{HeapId}
use Rattle.mutator_seat.specs.Bound.{Bound}
use Rattle.mutator_threads.specs.declared.worker.Worker.{Worker}
use Rattle.version_rule.specs.Pass.{Pass}
use Rattle.client_threads.specs.Clients.{IsDone, IsReady, commands_of, store_limits}
use Rattle.client_threads.specs.Going.{Answers, Went}
use Rattle.client_threads.specs.declared.clients.Client.{Client}

-- The beginning.

pub entered_may : (heap : HeapId) (queue : FreeQueue) (l : Limits) (number : ℕ)
    (client : Worker Pass Client) (m : Bound Pass) → heap.shape.setting ≡ l.keep
    → IsReady heap queue l number client → Entered heap client.seat m
    → MayAnswer client.own.session m
entered_may heap queue l number client m setting ready came =
    let pass = came.pass ∙ ready.new.pass_is in
    let room = came.room ∙ ready.new.room_is in
    ready.own.session.may m record {
      inside = came.inside;
      one = came.one;
      keep_is = ap (λ (p : Pass). p.keep) pass ∙ setting;
      none_made = ap (λ (p : Pass). p.commits) pass;
      room = omega (arith, room);
    } room

-- The end.

-- so many of the first commands, and if all were answered these are all
record Front (whole : Bool) (script : List Command) (s : Session) (m : Bound Pass) (t : Session)
    (n : Bound Pass) : Type 0 where
  count : ℕ
  went : Went (take count script) s m t n
  all : whole ≡ true → take count script ≡ script

front_of : (whole : Bool) (script : List Command) (s : Session) (m : Bound Pass) (t : Session)
    (n : Bound Pass) → Answers whole script s m t n → Front whole script s m t n
front_of true script s m t n went = record {
  count = length script;
  went = subst (λ (cs : List Command). Went cs s m t n) (sym (take-length script)) went;
  all = λ _. take-length script;
}
front_of false script s m t n some = record {
  count = some.count;
  went = some.went;
  all = λ is. absurd cc;
}

module _ (heap : HeapId) (queue : FreeQueue) (l : Limits)
    (scripts : List (Vec Command Global)) (number : ℕ) (old new : Worker Pass Client)
    (m n : Bound Pass) (whole : Bool) (ready : IsReady heap queue l number old)
    (came : Entered heap old.seat m)
    (answers : Answers whole (script_of scripts number) old.own.session m new.own.session n)
    (left : Left n new.seat) where
  abbrev script : List Command
  script = script_of scripts number

  front : Front whole script old.own.session m new.own.session n
  front = front_of whole script old.own.session m new.own.session n answers

  answered : commands_of new.own.session.journal.log.entries ≡ take front.count script
  answered =
      front.went.commands
      ∙ ap (λ (es : List Entry). commands_of es ++ take front.count script)
      ready.own.session.entries

  many : length new.own.session.journal.log.entries ≡ min front.count (length script)
  many =
      sym (length-map new.own.session.journal.log.entries (λ (e : Entry). e.command))
      ∙ ap (λ (cs : List Command). length cs) answered
      ∙ length-take front.count script

  limits : bounds new.own.session.journal.limits ≡ store_limits l
  limits =
      ap bounds front.went.same.limits
      ∙ (λ i. record { keep = ready.own.session.keep i; versions = ready.own.session.versions i })

  shape : n.seat.me.shape ≡ heap.shape
  shape = front.went.same.mutator.shape ∙ came.shape ∙ ready.new.seat_is.1

  pub done : new.own.failed ≡ not whole → IsDone heap l scripts number new
  done failed = record {
    is_over = record {
      seat_is = (
        left.table ∙ front.went.same.mutator.table ∙ came.table ∙ ready.new.seat_is.0,
        left.shape ∙ shape,
      );
      number_is = left.number ∙ front.went.same.mutator.number ∙ came.number
          ∙ ready.new.number_is;
      over = left.over;
    };
    minor = front.went.same.minor_room ∙ ready.own.session.minor;
    room = left.room ∙ front.went.same.mutator.room ∙ came.room ∙ ready.new.room_is;
    left = record {
      state = client_state new.own.session n;
      last = new.own.session.journal.last;
      step = subst (λ (k : StoreLimits). IsInStep k (client_state new.own.session n)
          new.own.session.journal.last new.own.session.journal.log) limits front.went.may.step;
      client_is = front.went.same.client ∙ ready.own.session.client_is;
      cells_are = ap (λ (h : Shape). h.cells) shape;
      pass_is = sym left.pass;
      marks_are = sym left.marks;
      claims_are = sym left.claims;
    };
    front = answered ∙ sym (take_min front.count script)
        ∙ ap (λ (k : ℕ). take k script) (sym many);
    whole = λ fine. answered ∙ front.all (not-false whole (sym failed ∙ fine));
  }
