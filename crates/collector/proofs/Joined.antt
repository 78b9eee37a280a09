-- Where the seats of all mutators are joined, whatever events the collector takes: each Poll and
-- each AnswerOut finds its mutator over. No event changes where the seats are.
use Rattle.std.proofs.Common.{◌≡◌, ◌&&◌, Bool, true, List, [], ◌∷◌, refl, ◌∙◌, ap}
use Rattle.std.specs.List.{list_all}
use Rattle.cell_heap.specs.Telling.{AreJoined, FindsJoined}
use Rattle.core_machine.specs.declared.events.Event.{Event}
use Rattle.core_machine.specs.declared.events.Event.TheVariants as event
use Rattle.core_machine.specs.declared.events.Found.{Found}
use Rattle.core_machine.specs.declared.events.Taken.{Taken}
use Rattle.heap_rule.specs.declared.view.View.{View}
use Rattle.heap_table.specs.Seats.{SeatView}
use Rattle.collector.specs.Bound.{tells_at}
use Rattle.collector.specs.Over.{MeetOver, meets_over}
use Rattle.collector.specs.Stretches.{Took}

module _ {P : Type 0} where
  one_meets : (v : View P) (e : Event) (found : Found) → FindsJoined v e found → AreJoined v
      → meets_over e found ≡ true
  one_meets v (event.Poll i) found finds joined = finds joined
  one_meets v (event.AnswerOut i over) found finds joined = finds joined
  one_meets v e found finds joined = refl

  pub joined_meet : (a b : SeatView P) (ts : List Taken) → Took a ts b → AreJoined a.me
      → MeetOver ts
  joined_meet a b [] took joined = refl
  joined_meet a b (t ∷ ts) took joined =
      ap (λ (x : Bool). x && list_all (λ (u : Taken). meets_over u.event u.found) ts)
      (one_meets a.me t.event t.found took.1.joined joined)
      ∙ joined_meet (tells_at a t.event t.found took.0) b ts took.2 joined
