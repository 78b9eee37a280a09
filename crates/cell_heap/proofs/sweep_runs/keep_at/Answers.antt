use Rattle.std.proofs.Common.{[], ◌∷◌, refl, sym, ◌∙◌, ap}
use Rattle.cell_words.specs.declared.colours.Colour.TheVariants as colour
use Rattle.core_machine.specs.Collector.{Collector}
use Rattle.core_machine.specs.Sweep.{is_black_found}
use Rattle.core_machine.specs.declared.events.Event.TheVariants as event
use Rattle.core_machine.specs.declared.events.Found.TheVariants as finds
use Rattle.core_machine.specs.declared.progress.Sweeping.TheVariants as sweeping
use Rattle.heap_rule.specs.Rule.{took}
use Rattle.heap_table.specs.Seats.{SeatView}
use Rattle.cell_heap.proofs.InARow.{still_of, tells_append}
use Rattle.cell_heap.proofs.sweep_runs.keep_at.Goals as goal

pub whiten_at-requires : goal.whiten_at-requires
whiten_at-requires g c = record {
  seat = still_of c.args.heap.now c.args.seat.now c.look_at.new.seat
      (took event.SweepLook (finds.Colour colour.Black) ∷ []) c.requires.seat
      (c.in-Black.ensures.known, c.in-Black.ensures.told);
  collector = c.in-Black.ensures.collector;
  mutators = c.requires.mutators
      ∙ sym (ap (λ (s : SeatView _). s.me.shape.mutators) c.in-Black.ensures.told);
  position = c.requires.position
      ∙ sym (ap (λ (s : SeatView _). s.me.control.position) c.in-Black.ensures.told);
  can = ap (λ (s : SeatView _). is_black_found s.me.part.sweep) c.in-Black.ensures.told;
}

pub returns-in-Blue : goal.returns-in-Blue
returns-in-Blue g c = record {
  told = (c.in-Blue.ensures.known, c.in-Blue.ensures.told);
  not_gray = refl;
  control = ap (λ (s : SeatView _). s.me.control) c.in-Blue.ensures.told;
  part = ap (λ (s : SeatView _). s.me.part) c.in-Blue.ensures.told;
  collector = c.in-Blue.ensures.collector;
}

pub returns-in-White : goal.returns-in-White
returns-in-White g c = record {
  told = (c.in-White.ensures.known, c.in-White.ensures.told);
  not_gray = refl;
  control = ap (λ (s : SeatView _). s.me.control) c.in-White.ensures.told;
  part = ap (λ (s : SeatView _). s.me.part) c.in-White.ensures.told;
  collector = c.in-White.ensures.collector;
}

pub returns-in-Black : goal.returns-in-Black
returns-in-Black g c = record {
  told = tells_append c.args.seat.now c.look_at.new.seat c.whiten_at.new.seat
      (took event.SweepLook (finds.Colour colour.Black) ∷ [])
      (took event.Whiten finds.Stored ∷ [])
      (c.in-Black.ensures.known, c.in-Black.ensures.told)
      (c.whiten_at.ensures.known, c.whiten_at.ensures.told);
  not_gray = refl;
  control = ap (λ (s : SeatView _). s.me.control) c.whiten_at.ensures.told
      ∙ ap (λ (s : SeatView _). s.me.control) c.in-Black.ensures.told;
  part = ap (λ (s : SeatView _). s.me.part) c.whiten_at.ensures.told
      ∙ ap (λ (x : Collector). record x { sweep = sweeping.Done })
      (ap (λ (s : SeatView _). s.me.part) c.in-Black.ensures.told);
  collector = c.whiten_at.ensures.collector;
}
