-- The guest from its beginning to its end, and what it leaves: the log of a client that gave no
-- command.
use Rattle.std.proofs.Common.{◌≡◌, ◌≤◌, ◌+◌, ◌*◌, ℕ, true, List, []}
use Rattle.std.proofs.Common.{length, map, refl, sym, ◌∙◌, ap, subst, arith}
use Rattle.beside_collector.specs.Coming.{Entered, Left}
use Rattle.client_session.specs.declared.journal.Limits.{Limits}
use Rattle.client_threads.specs.Clients.{store_limits}
use Rattle.client_threads.specs.Going.{Waits}
use Rattle.client_history.specs.State.{ClientState}
use Rattle.client_history.proofs.Stepping.{in_step_opening}
use Rattle.doc_model.specs.ClientLog.{ClientLog}
use Rattle.client_history.specs.Spelled.{bare_is_empty}
use Rattle.heap_rule.specs.Rule.{share_of}
use Rattle.heap_table.specs.Seats.{HeapId}
use Rattle.mutator_seat.specs.Bound.{Bound}
use Rattle.client_history.specs.Left.{IsLeft}
use Rattle.trails.specs.Marks.{Mark, marks_of}
use Rattle.version_rule.specs.Pass.{Commit, Pass}
use Rattle.version_rule.specs.Spelling.{bare_root}
use Rattle.held_places.proofs.Going.{many_cells}
use Rattle.doc_export.specs.Guests.{Copies, IsThrough, IsWaiting, MayTell}
use Rattle.doc_export.specs.declared.guest.Guest.{Guest}
use Rattle.doc_export.specs.declared.guest.Through.{Through}

module _ (heap : HeapId) (l : Limits) (guest : Guest) (a b : Bound Pass)
    (new : IsWaiting heap l guest.place guest.seat) (came : Entered heap guest.seat a)
    (waits : Waits a b) where
  pub waited_inside : b.seat.me.presence.inside ≡ true
  waited_inside = waits.kept.inside ∙ came.inside

  pub waited_one : length b.seat.me.own.held ≡ 1
  waited_one =
      sym (many_cells b) ∙ ap (λ (cs : List ℕ). length cs) waits.kept.held ∙ many_cells a
      ∙ came.one

  pub waited_room : 4_096 ≤ l.minor → 20_000 ≤ b.seat.me.room
  waited_room least =
      let is : b.seat.me.room ≡ 4 * l.minor + 16_384 = waits.kept.room ∙ came.room ∙ new.room_is in
      omega (arith, is, least)

  module _ (c : Bound Pass) (t : Through) (copies : Copies b c t.copied)
      (left : Left c t.seat) where
    pub through : IsThrough heap l guest.place t
    through = record {
      seat_is = (
        left.table ∙ copies.same.table ∙ waits.kept.table ∙ came.table ∙ new.seat_is.0,
        left.shape ∙ copies.same.shape ∙ waits.kept.shape ∙ came.shape ∙ new.seat_is.1,
      );
      number_is = left.number ∙ copies.same.number ∙ waits.kept.number ∙ came.number
          ∙ new.number_is;
      room = left.room ∙ copies.same.room ∙ waits.kept.room ∙ came.room ∙ new.room_is;
      over = left.over;
      keep = ap (λ (p : Pass). p.keep) left.pass ∙ copies.keep
          ∙ ap (λ (p : Pass). p.keep) (waits.kept.pass ∙ came.pass ∙ new.pass_is);
      commits = ap (λ (p : Pass). p.commits) left.pass ∙ copies.commits
          ∙ ap (λ (p : Pass). p.commits) (waits.kept.pass ∙ came.pass ∙ new.pass_is);
      tells = subst (λ (p : Pass). MayTell p (marks_of t.seat.me.trail) t.copied) (sym left.pass)
          (subst (λ (ms : List Mark). MayTell c.seat.me.pass ms t.copied) (sym left.marks)
          copies.tells);
    }

-- the log of a client with this number that gave no command
abbrev pub no_log : ℕ → ClientLog
no_log client = record { client = client; entries = []; spare = 0 }

pub guest_left : (heap : HeapId) (l : Limits) (place : ℕ) (t : Through)
    → IsThrough heap l place t
    → IsLeft (store_limits l) heap.shape.cells (place + 1) (no_log (place + 1)) (share_of t.seat.me)
guest_left heap l place t through =
    let state : ClientState = record {
      cells = heap.shape.cells;
      pass = t.seat.me.pass;
      marks = marks_of t.seat.me.trail;
      claims = t.seat.me.own.claims;
      draft = bare_root;
      base = 1;
      held = 1;
      room = 0;
      spare = 0;
    } in
    record {
      state = state;
      last = 0;
      step = in_step_opening (store_limits l) state (no_log (place + 1)) through.keep
          (ap (λ (cs : List Commit). map (λ (c : Commit). c.number) cs) through.commits)
          bare_is_empty refl;
      client_is = refl;
      cells_are = refl;
      pass_is = refl;
      marks_are = refl;
      claims_are = refl;
    }
