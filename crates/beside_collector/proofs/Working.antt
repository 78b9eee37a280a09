-- What becomes of the collector's seat.
use Rattle.std.proofs.Common.{◌≡◌, ◌+◌, ℕ, false, List, []}
use Rattle.std.proofs.Common.{◌∷◌, sym}
use Rattle.std.proofs.Common.{ap, subst}
use Rattle.cell_words.specs.declared.controls.Stage.TheVariants as stage
use Rattle.collector.specs.Bound.{Bound, control_of, mutators_of, tells_at}
use Rattle.collector.specs.Cycles.{Served}
use Rattle.collector.specs.Stretches.{Stretch, Took}
use Rattle.collector.proofs.Joined.{joined_meet}
use Rattle.core_machine.specs.declared.events.Taken.{Taken}
use Rattle.free_cells.specs.declared.queue.FreeQueue.{FreeQueue}
use Rattle.heap_table.specs.Seats.{HeapId, SeatView}
use Rattle.beside_collector.specs.Serving.{IsKeeper, Serves, StandsBy, gone_off}
use Rattle.beside_collector.specs.declared.keeper.Keeper.{Keeper}
use Rattle.beside_collector.specs.declared.serving.Turn.TheVariants as turns

module _ {P : Type 0} where
  role_kept : (old : SeatView P) (ts : List Taken) (new : SeatView P) → Took old ts new
      → new.me.role ≡ old.me.role
  role_kept old [] new told = ap (λ (s : SeatView P). s.me.role) told
  role_kept old (t ∷ ts) new told =
      role_kept (tells_at old t.event t.found told.0) ts new told.2

  -- a call of `serve`
  pub serves : (cycles freed made : ℕ) (old new : Bound P)
      → (control_of new).cycles ≡ (control_of old).cycles + made
      → Stretch (Served (mutators_of old) cycles made freed) old new
      → (control_of new).stage ≡ stage.Idle → (control_of new).duty ≡ false
      → Serves cycles old.seat new.seat
  serves cycles freed made old new many stretch idle off = record {
    table = stretch.kept.table;
    shape = stretch.kept.shape;
    role = role_kept old.seat stretch.added new.seat stretch.told;
    places = stretch.kept.places;
    made = made;
    freed = freed;
    added = stretch.added;
    trail = stretch.trail;
    served = stretch.fact;
    cycles_are = many;
    idle = idle;
    off_duty = off;
    late = joined_meet old.seat new.seat stretch.added stretch.told;
  }

  -- Off duty first.

  keeps : (heap : HeapId) (queue : FreeQueue) (cycles : ℕ) (keeper : Keeper P)
      → IsKeeper heap queue cycles keeper.seat keeper.pass
      → IsKeeper heap queue cycles (gone_off keeper.seat) keeper.pass
  keeps heap queue cycles keeper is = record {
    seat_is = is.seat_is;
    idle = is.idle;
    few = is.few;
    pass_is = is.pass_is;
    cells = is.cells;
  }

  -- the seat went off duty
  pub stands_off : (heap : HeapId) (queue : FreeQueue) (cycles : ℕ) (keeper now : Keeper P)
      → IsKeeper heap queue cycles keeper.seat keeper.pass
      → now.seat ≡ gone_off keeper.seat → now.pass ≡ keeper.pass
      → StandsBy heap queue cycles keeper.seat (turns.HandedBack now)
  stands_off heap queue cycles keeper now is off pass =
      let same : IsKeeper heap queue cycles (gone_off keeper.seat) keeper.pass =
      keeps heap queue cycles keeper is in (
        subst (λ p. IsKeeper heap queue cycles now.seat p) (sym pass)
            (subst (λ (s : SeatView P). IsKeeper heap queue cycles s keeper.pass) (sym off) same),
        off,
      )
