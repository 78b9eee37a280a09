use Rattle.std.proofs.Common.{◌++◌, refl, sym, subst}
use Rattle.cell_heap.specs.Runs.{SweepsOn, finds_white, sweep_over}
use Rattle.heap_rule.specs.Shape.{Shape}
use Rattle.cell_heap.proofs.InARow.{still_of, tells_shape}
use Rattle.collector.specs.Bound.{Bound}
use Rattle.collector.specs.Counting.{Does, nothing}
use Rattle.collector.specs.Stack.{AllBelow}
use Rattle.collector.proofs.AllTold.{does_run, sweep_stays}
use Rattle.collector.proofs.collecting.Collector.sweep_on.Goals as goal

pub invariant_of-self : goal.invariant_of-self
invariant_of-self g c =
    let inside = c.self.inside in
    let swept = c.sweep_on.ensures.swept in
    let events = sweep_over swept.kept ++ finds_white c.sweep_on.result in
    let shape = tells_shape inside.seat c.sweep_on.new.self events swept.told in
    record {
      seat_is = still_of inside.heap.now inside.seat c.sweep_on.new.self events
          c.self.invariant.seat_is swept.told;
      mutators_are = c.self.invariant.mutators_are;
      stacked = subst (λ (h : Shape). AllBelow h.cells inside.stack.cells) (sym shape)
          c.self.invariant.stacked;
    }

pub returns-clause-does : goal.returns-clause-does
returns-clause-does g c =
    let inside = c.self.inside in
    let swept = c.sweep_on.ensures.swept in
    let new : Bound _ =
    record { heap = inside.heap.now; seat = c.sweep_on.new.self; stack = inside.stack } in
    subst (λ (x : Bound _). Does nothing x new) c.self.view_is
    (does_run (record { heap = inside.heap.now; seat = inside.seat; stack = inside.stack }) new
    (sweep_over swept.kept ++ finds_white c.sweep_on.result) refl refl swept.told
    (sweep_stays swept.kept c.sweep_on.result))

pub returns-clause-swept : goal.returns-clause-swept
returns-clause-swept g c =
    subst (λ (x : Bound _). SweepsOn c.sweep_on.result x.seat c.sweep_on.new.self)
    c.self.view_is c.sweep_on.ensures.swept
