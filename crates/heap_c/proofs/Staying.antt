-- What stays of a mutator: a stretch that keeps all places leaves it what it was.
use Rattle.std.proofs.Common.{◌≡◌, ◌∙◌, Bool, true, false, List, sym}
use Rattle.core_machine.specs.declared.events.Taken.{Taken}
use Rattle.heap_table.specs.Seats.{HeapId, SeatView}
use Rattle.mutator_seat.specs.Bound.{IsBound, bound}
use Rattle.mutator_seat.specs.Stretches.{Calm}
use Rattle.sorted_boxes.specs.Sorts.{SortList}
use Rattle.sorted_boxes.proofs.Holding.{calm_holds, serves_on}
use Rattle.sorted_rule.specs.declared.sorting.Sorting.{Sorting}
use Rattle.heap_c.specs.Holding.{IsMine}

pub not_both : (b : Bool) → b ≡ true → b ≡ false → ⊥
not_both true is out = absurd cc
not_both false is out = absurd cc

pub mine_still : (F : List Taken → Type 0) (heap : HeapId) (old new : SeatView Sorting)
    (sorts : SortList) → Calm F (bound heap old) (bound heap new) → IsBound heap new
    → IsMine heap old sorts → IsMine heap new sorts
mine_still F heap old new sorts calm is mine = record {
  bound = is;
  some = mine.some;
  serves = serves_on sorts old.me new.me calm.kept.room calm.kept.pass mine.serves;
  held = λ inside. calm_holds F (bound heap old) (bound heap new) calm sorts
      (mine.held (sym calm.kept.inside ∙ inside));
}
