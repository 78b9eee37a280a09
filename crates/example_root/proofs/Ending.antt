-- The close: the box has what the first mutator keeps.
use Rattle.std.proofs.Common.{◌≡◌, ◌∙◌, ℕ, List, Option, length, sym, ap, subst}
use mathlib.Core.Option.{some}
use lib.ListN.{get_elem?}
use Rattle.core_machine.specs.State.{greatest_cycles}
use Rattle.heap_rule.specs.Lore.{Plain}
use Rattle.heap_rule.specs.NoRule.{no_field_is_fixed}
use Rattle.heap_rule.specs.Rule.{share_of}
use Rattle.heap_rule.specs.Shape.{Shape}
use Rattle.heap_rule.specs.declared.view.Place.TheVariants as places
use Rattle.heap_table.specs.Seats.{HeapId}
use Rattle.mutator_threads.specs.Closing.{IsClosed, passes_of}
use Rattle.mutator_threads.specs.Mutators.{AreOver, IsOver, views_of}
use Rattle.mutator_threads.specs.declared.closing.Closed.{Closed}
use Rattle.mutator_threads.specs.declared.worker.Worker.{Worker}
use Rattle.mutator_threads.proofs.EachDone.{part_at}
use Rattle.example_root.specs.Holding.{IsDone}
use Rattle.example_root.specs.Leaving.{Leaves, kept_shape}
use Rattle.example_root.specs.Rule.{HasKept, kept_term, nothing_kept}
use Rattle.example_root.specs.Working.{Reports}
use Rattle.example_root.specs.declared.kept.Kept.{Kept}
use Rattle.example_root.specs.declared.working.Report.{Report}
use Rattle.example_root.proofs.Words.{kept_in}

-- both mutators are over
module _ (heap : HeapId) (number : ℕ) (report : Report) (done : Reports heap number report) where
  pub are_two : length report.workers.items ≡ 2
  are_two = ap (λ (ws : List (Worker Kept (Unit {0}))). length ws) done.both

  pub are_over : AreOver heap report.workers.items
  are_over =
      let first = done.first_over in
      let second = done.second_over in
      subst (λ (ws : List (Worker Kept (Unit {0}))). AreOver heap ws) (sym done.both) (
        record { seat_is = first.seat_is; number_is = first.number_is; over = first.over },
        (
          record { seat_is = second.seat_is; number_is = second.number_is; over = second.over },
          tt,
        ),
      )

-- and the heap was closed
module _ (cells : ℕ) (heap : HeapId) (number : ℕ) (report : Report) (closed : Closed Kept)
    (done : Reports heap number report) (is : heap.shape ≡ kept_shape cells)
    (so : IsClosed nothing_kept HasKept no_field_is_fixed heap.shape greatest_cycles
    (views_of report.workers.items) closed) where
  pub first_there : get_elem? closed.passes.places 0
      ≡ some (places.Joined (share_of done.first.seat.me))
  first_there = part_at report.workers.items closed.passes.places so.has_closed.places_are 0
      done.first (ap (λ (ws : List (Worker Kept (Unit {0}))). get_elem? ws 0) done.both)

  pub leaves : Leaves cells report.left closed.freed closed.image closed.passes
  leaves =
      let has = so.has_closed in
      let s = has.ended.shows in
      let passes_are = so.passes_are
      ∙ ap (λ (ws : List (Worker Kept (Unit {0}))). passes_of (views_of ws)) done.both in
      let pass_is : get_elem? s.passes 0 ≡ some done.first.seat.me.pass =
      ap (λ (ps : List Kept). get_elem? ps 0) passes_are in
      record {
        shape = heap.shape;
        cells_are = ap (λ (h : Shape). h.cells) is;
        mutators_are = ap (λ (h : Shape). h.mutators) is;
        ended = has.ended;
        shows = has.shows;
        kept_is = kept_in s.core s.lore s.facts s.passes s.kept report.left
            (s.kept.kept done.first.seat.me.pass pass_is
            ∙ ap (λ (k : Option ℕ). Plain (kept_term k)) done.first_over.kept_is);
        collected = has.collected;
      }
