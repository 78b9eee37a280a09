use Rattle.std.proofs.Common.{◌++◌, sym, subst}
use Rattle.cell_heap.specs.Runs.{SeesOn, finds_gray, see_over}
use Rattle.heap_rule.specs.Shape.{Shape}
use Rattle.cell_heap.proofs.InARow.{still_of, tells_shape}
use Rattle.collector.specs.Bound.{Bound}
use Rattle.collector.specs.Stack.{AllBelow}
use Rattle.collector.proofs.collecting.Collector.see_on.Goals as goal

pub invariant_of-self : goal.invariant_of-self
invariant_of-self g c =
    let inside = c.self.inside in
    let seen = c.see_on.ensures.seen in
    let events = see_over inside.seat.me.part.cursor seen.found ++ finds_gray c.see_on.result in
    let shape = tells_shape inside.seat c.see_on.new.self events seen.told in
    record {
      seat_is = still_of inside.heap.now inside.seat c.see_on.new.self events
          c.self.invariant.seat_is seen.told;
      mutators_are = c.self.invariant.mutators_are;
      stacked = subst (λ (h : Shape). AllBelow h.cells inside.stack.cells) (sym shape)
          c.self.invariant.stacked;
    }

pub returns-clause-seen : goal.returns-clause-seen
returns-clause-seen g c =
    subst (λ (x : Bound _). SeesOn c.see_on.result x.seat c.see_on.new.self)
    c.self.view_is c.see_on.ensures.seen
