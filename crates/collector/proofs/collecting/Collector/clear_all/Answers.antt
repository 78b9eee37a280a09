use Rattle.std.proofs.Common.{refl, sym, ◌∙◌, ap, subst, arith}
use Rattle.cell_heap.specs.Runs.{clear_over}
use Rattle.heap_rule.specs.Shape.{Shape}
use Rattle.cell_heap.proofs.InARow.{still_of, tells_shape}
use Rattle.collector.specs.Bound.{Bound, cells_of, control_of, part_of}
use Rattle.collector.specs.Counting.{Does, nothing}
use Rattle.collector.specs.Stack.{AllBelow}
use Rattle.collector.proofs.AllTold.{clear_stays, does_run}
use Rattle.collector.proofs.collecting.Collector.clear_all.Goals as goal

pub clear_on-requires : goal.clear_on-requires
clear_on-requires g c =
    let first = ap (λ (x : Bound _). (part_of x).cursor) c.self.view_is ∙ c.requires.first in
    record {
      seat = c.self.invariant.seat_is;
      stage = ap (λ (x : Bound _). (control_of x).stage) c.self.view_is ∙ c.requires.stage;
      within = omega (arith, first);
    }

pub invariant_of-self : goal.invariant_of-self
invariant_of-self g c =
    let inside = c.self.inside in
    let cleared = c.clear_on.ensures.cleared in
    let shape = tells_shape inside.seat c.clear_on.new.self (clear_over cleared.found)
    cleared.told in
    record {
      seat_is = still_of inside.heap.now inside.seat c.clear_on.new.self
          (clear_over cleared.found) c.self.invariant.seat_is cleared.told;
      mutators_are = c.self.invariant.mutators_are;
      stacked = subst (λ (h : Shape). AllBelow h.cells inside.stack.cells) (sym shape)
          c.self.invariant.stacked;
    }

pub returns : goal.returns
returns g c =
    let inside = c.self.inside in
    let cleared = c.clear_on.ensures.cleared in
    let new : Bound _ =
    record { heap = inside.heap.now; seat = c.clear_on.new.self; stack = inside.stack } in
    record {
      does = subst (λ (x : Bound _). Does nothing x new) c.self.view_is
          (does_run
          (record { heap = inside.heap.now; seat = inside.seat; stack = inside.stack }) new
          (clear_over cleared.found) refl refl cleared.told (clear_stays cleared.found));
      control = cleared.control ∙ ap (λ (x : Bound _). control_of x) c.self.view_is;
      part = cleared.part
          ∙ ap (λ (x : Bound _). record (part_of x) { cursor = cells_of x }) c.self.view_is;
    }
