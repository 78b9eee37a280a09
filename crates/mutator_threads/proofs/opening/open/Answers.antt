use Rattle.std.proofs.Common.{◌∙◌, ℕ, [], ap, sym, subst, replicate}
use Rattle.cell_words.specs.declared.controls.Control.{Control}
use Rattle.heap_rule.specs.Shape.{IsSound, Shape}
use Rattle.heap_rule.specs.declared.view.Place.TheVariants as places
use Rattle.heap_table.specs.Seats.{SeatView}
use Rattle.mutator_threads.proofs.opening.open.Goals as goal

pub split_workers-requires-clause-unsplit : goal.split_workers-requires-clause-unsplit
split_workers-requires-clause-unsplit g c =
    ap (λ (s : SeatView _). s.me.places) c.in_ok-heap.ensures.seat
    ∙ ap (λ (h : Shape). replicate h.mutators places.Unsplit) c.in_ok-heap.ensures.heap

pub returns : goal.returns
returns g c =
    let seat = c.in_ok-heap.ensures.seat in
    let shape = c.in_ok-heap.ensures.heap in
    let split = c.in_ok-workers.ensures.seat in
    record {
      opened = record {
        shape_is = shape;
        keeper = record {
          sound = subst IsSound (sym shape) record {
            rows = c.told-rows;
            first = c.requires.rows;
            fit = c.requires.few_rows;
            few = c.requires.few_cells;
          };
          seat_is = (
            split.still.table ∙ ap (λ (s : SeatView _). s.table) seat,
            split.still.shape ∙ ap (λ (s : SeatView _). s.me.shape) seat,
          );
          all = split.many ∙ sym (ap (λ (h : Shape). h.mutators) shape);
          idle = ap (λ (k : Control). k.stage) split.still.control
              ∙ ap (λ (s : SeatView _). s.me.control.stage) seat;
          no_cycles = ap (λ (k : Control). k.cycles) split.still.control
              ∙ ap (λ (s : SeatView _). s.me.control.cycles) seat;
          no_events = split.still.trail ∙ ap (λ (s : SeatView _). s.me.trail) seat;
          hints = c.in_ok-workers.ensures.pass;
          cells = c.in_ok-queue.ensures.cells ∙ sym (ap (λ (h : Shape). h.cells) shape);
        };
        workers = c.in_ok-workers.ensures.workers;
        many = c.in_ok-workers.ensures.many;
        stack = c.in_ok-stack.ensures.stack;
      };
    }
