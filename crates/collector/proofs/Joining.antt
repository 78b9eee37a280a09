-- Stretches follow one another: their events go together, and their counts add up.
use Rattle.std.proofs.Common.{◌≡◌, true, List, [], ◌∷◌, ◌++◌, refl, sym, ◌∙◌, ap, subst}
use Rattle.std.proofs.lemmas.List.{append_assoc, append-nil}
use Rattle.cell_heap.specs.Telling.{FindsKnown}
use Rattle.core_machine.specs.State.{State}
use Rattle.core_machine.specs.declared.events.Event.{Event}
use Rattle.core_machine.specs.declared.events.Found.{Found}
use Rattle.core_machine.specs.declared.events.Taken.{Taken}
use Rattle.heap_rule.specs.Asks.{collector_state}
use Rattle.heap_rule.specs.Rule.{took}
use Rattle.heap_table.specs.Seats.{SeatView}
use Rattle.collector.specs.Bound.{Bound, part_of, takes, tells_at}
use Rattle.collector.specs.Counting.{Counts, Does, goes_on, nothing, plus}
use Rattle.collector.specs.Replay.{Work, stack_after, work_after, work_of}
use Rattle.collector.specs.Stack.{Stack}
use Rattle.collector.specs.Stretches.{Kept, Stretch, Took}
use Rattle.collector.specs.declared.report.CycleReport.{CycleReport}
use Rattle.collector.proofs.Counted.{counts_join, counts_none, is_still, none_plus}
use Rattle.collector.proofs.Counted.{plus_none}
use Rattle.collector.proofs.Counted.{room_after, still_counts, still_stack}

module _ {P : Type 0} where
  pub took_append : (a b c : SeatView P) (xs ys : List Taken) → Took a xs b → Took b ys c
      → Took a (xs ++ ys) c
  took_append a b c [] ys first second = subst (λ (x : SeatView P). Took x ys c) first second
  took_append a b c (x ∷ xs) ys first second = (
    first.0,
    first.1,
    took_append (tells_at a x.event x.found first.0) b c xs ys first.2 second,
  )

  pub kept_then : (a b c : Bound P) → Kept a b → Kept b c → Kept a c
  kept_then a b c first second = record {
    heap = second.heap ∙ first.heap;
    table = second.table ∙ first.table;
    shape = second.shape ∙ first.shape;
    places = second.places ∙ first.places;
    room = second.room ∙ first.room;
  }

  pub stretch_then : (F G H : List Taken → Type 0) (a b c : Bound P)
      → ((xs ys : List Taken) → F xs → G ys → H (xs ++ ys))
      → Stretch F a b → Stretch G b c → Stretch H a c
  stretch_then F G H a b c join first second = record {
    added = first.added ++ second.added;
    told = took_append a.seat b.seat c.seat first.added second.added first.told second.told;
    trail = second.trail
        ∙ ap (λ (xs : List Taken). xs ++ second.added) first.trail
        ∙ append_assoc a.seat.me.trail first.added second.added;
    kept = kept_then a b c first.kept second.kept;
    fact = join first.added second.added first.fact second.fact;
  }

  pub stretch_as : (F G : List Taken → Type 0) (a b : Bound P)
      → ((xs : List Taken) → F xs → G xs) → Stretch F a b → Stretch G a b
  stretch_as F G a b turn first = record {
    added = first.added;
    told = first.told;
    trail = first.trail;
    kept = first.kept;
    fact = turn first.added first.fact;
  }

  -- One event, that changes the stack as the trail says.

  pub work_is : (a b : Bound P) (e : Event) (found : Found) (now : State)
      → b.seat ≡ tells_at a.seat e found now → b.stack ≡ stack_after a.stack (part_of a) e
      → work_of b ≡ work_after (work_of a) (took e found)
  work_is a b e found now seat stack =
      ap (λ (s : SeatView P). work_of (record b { seat = s })) seat
      ∙ ap (λ (s : Stack). record (work_after (work_of a) (took e found)) { stack = s }) stack

  pub stretch_one : (F : List Taken → Type 0) (a b : Bound P) (e : Event) (found : Found)
      (now : State) → b.heap ≡ a.heap → b.seat ≡ tells_at a.seat e found now
      → b.stack ≡ stack_after a.stack (part_of a) e → FindsKnown a.seat.me e found
      → F (took e found ∷ []) → Stretch F a b
  stretch_one F a b e found now heap seat stack known fact = record {
    added = took e found ∷ [];
    told = (now, known, seat);
    trail = ap (λ (x : SeatView P). x.me.trail) seat;
    kept = record {
      heap = heap;
      table = ap (λ (x : SeatView P). x.table) seat;
      shape = ap (λ (x : SeatView P). x.me.shape) seat;
      places = ap (λ (x : SeatView P). x.me.places) seat;
      room = ap (λ (s : Stack). s.room) stack ∙ room_after a.stack (part_of a) e;
    };
    fact = fact;
  }

  pub counts_to : (r : CycleReport) (a b : Bound P) (e : Event) (found : Found) (now : State)
      → b.seat ≡ tells_at a.seat e found now → b.stack ≡ stack_after a.stack (part_of a) e
      → Counts (work_of a) (work_after (work_of a) (took e found)) r (took e found ∷ [])
      → Counts (work_of a) (work_of b) r (took e found ∷ [])
  counts_to r a b e found now seat stack counts =
      subst (λ (w : Work). Counts (work_of a) w r (took e found ∷ []))
      (sym (work_is a b e found now seat stack)) counts

  pub does_event : (r : CycleReport) (a b : Bound P) (e : Event) (found : Found) (now : State)
      → b.heap ≡ a.heap → b.seat ≡ tells_at a.seat e found now
      → b.stack ≡ stack_after a.stack (part_of a) e → FindsKnown a.seat.me e found
      → Counts (work_of a) (work_after (work_of a) (took e found)) r (took e found ∷ [])
      → Does r a b
  does_event r a b e found now heap seat stack known counts =
      stretch_one (Counts (work_of a) (work_of b) r) a b e found now heap seat stack known
      (counts_to r a b e found now seat stack counts)

  -- one that leaves the stack
  pub does_one : (r : CycleReport) (a b : Bound P) (e : Event) (found : Found)
      → b ≡ takes a e found → FindsKnown a.seat.me e found
      → stack_after a.stack (part_of a) e ≡ a.stack
      → Counts (work_of a) (work_after (work_of a) (took e found)) r (took e found ∷ [])
      → Does r a b
  does_one r a b e found is known same counts =
      does_event r a b e found (collector_state a.seat.me)
      (ap (λ (x : Bound P). x.heap) is)
      (ap (λ (x : Bound P). x.seat) is)
      (ap (λ (x : Bound P). x.stack) is ∙ sym same)
      known counts

  -- one that counts for nothing
  pub does_still : (a b : Bound P) (e : Event) (found : Found) → goes_on e ≡ true
      → is_still e ≡ true → b ≡ takes a e found → FindsKnown a.seat.me e found → Does nothing a b
  does_still a b e found on still is known =
      does_one nothing a b e found is known (still_stack a.stack (part_of a) e still)
      (still_counts (work_of a) e found on still)

  -- Stretches.

  pub does_none : (a : Bound P) → Does nothing a a
  does_none a = record {
    added = [];
    told = refl;
    trail = sym (append-nil a.seat.me.trail);
    kept = record { heap = refl; table = refl; shape = refl; places = refl; room = refl };
    fact = counts_none (work_of a);
  }

  pub does_then : (r q : CycleReport) (a b c : Bound P) → Does r a b → Does q b c
      → Does (plus r q) a c
  does_then r q a b c first second =
      stretch_then (Counts (work_of a) (work_of b) r) (Counts (work_of b) (work_of c) q)
      (Counts (work_of a) (work_of c) (plus r q)) a b c
      (λ xs ys. counts_join (work_of a) (work_of b) (work_of c) r q xs ys) first second

  pub does_as : (r q : CycleReport) (a b : Bound P) → q ≡ r → Does r a b → Does q a b
  does_as r q a b is first = subst (λ (x : CycleReport). Does x a b) (sym is) first

  -- where it is given what both amount to
  pub does_both : (r q t : CycleReport) (a b c : Bound P) → t ≡ plus r q → Does r a b → Does q b c
      → Does t a c
  does_both r q t a b c is first second =
      does_as (plus r q) t a c is (does_then r q a b c first second)

  -- events that count for nothing, before others and after them
  pub does_after : (r : CycleReport) (a b c : Bound P) → Does nothing a b → Does r b c → Does r a c
  does_after r a b c first second =
      does_both nothing r r a b c (sym (none_plus r)) first second

  pub does_and : (r : CycleReport) (a b c : Bound P) → Does r a b → Does nothing b c → Does r a c
  does_and r a b c first second = does_both r nothing r a b c (sym (plus_none r)) first second
