-- A call that makes one event: what its function over the seat owes and gives, in words of the seat
-- that the call was given.
use Rattle.std.proofs.Common.{◌≡◌, ℕ, ◌∙◌, ap, subst, sym}
use Rattle.cell_heap.specs.declared.progress.Progress.{Progress}
use Rattle.cell_heap.specs.Collecting.{IsCollector, IsCollectors}
use Rattle.cell_heap.specs.Progress.{progress_of}
use Rattle.cell_heap.specs.Telling.{FindsKnown, TellsColour, collector_tells}
use Rattle.cell_heap.proofs.InARow.{numbered}
use Rattle.cell_words.specs.declared.controls.Control.{Control}
use Rattle.core_machine.specs.declared.events.Event.{Event}
use Rattle.core_machine.specs.declared.events.Found.{Found}
use Rattle.core_machine.specs.Collector.{collector_after, control_after}
use Rattle.heap_table.specs.Seats.{HeapId, IsSeatOf, SeatView}

module _ {P : Type 0} where
  -- the numbers that the seat has at hand follow its view
  pub told_on : {a b : SeatView P} {cells mutators : ℕ} {control next : Control}
      {progress further : Progress} (e : Event) (found : Found)
      → IsCollector a.me cells mutators control progress → IsCollectors b.me
      → b ≡ collector_tells a e found → control_after control e ≡ next
      → progress_of (collector_after a.me.shape.cells a.me.control a.me.part e found) ≡ further
      → IsCollector b.me cells mutators next further
  told_on e found is collector told goes moves =
      numbered collector
      (ap (λ (x : SeatView P). x.me.shape.cells) told ∙ is.cells_are)
      (ap (λ (x : SeatView P). x.me.shape.mutators) told ∙ is.mutators_are)
      (ap (λ (x : SeatView P). x.me.control) told
      ∙ ap (λ (x : Control). control_after x e) is.control_is ∙ goes)
      (ap (λ (x : SeatView P). progress_of x.me.part) told ∙ moves)

  pub seat_of : {inside old : SeatView P} (heap : HeapId) → inside ≡ old → IsSeatOf heap old
      → IsSeatOf heap inside
  seat_of heap is of = subst (λ (s : SeatView P). IsSeatOf heap s) (sym is) of

  pub tells_of : {inside old new : SeatView P} (e : Event) (found : Found) → inside ≡ old
      → new ≡ collector_tells inside e found → new ≡ collector_tells old e found
  tells_of e found is told = told ∙ ap (λ (s : SeatView P). collector_tells s e found) is

  pub known_of : {inside old : SeatView P} (e : Event) (found : Found) → inside ≡ old
      → FindsKnown inside.me e found → FindsKnown old.me e found
  known_of e found is known = subst (λ (s : SeatView P). FindsKnown s.me e found) is known

  pub colour_of : {inside old new : SeatView P} (e : Event) → inside ≡ old
      → TellsColour inside e new → TellsColour old e new
  colour_of {new = new} e is told = subst (λ (s : SeatView P). TellsColour s e new) is told
