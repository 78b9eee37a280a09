use Rattle.std.proofs.Common.{◌<◌, sym, subst}
use Rattle.collector.specs.Bound.{Bound, cells_of}
use Rattle.collector.specs.Stack.{AllBelow, Stack, down_to}
use Rattle.collector.proofs.Stacked.{down_below, without_below}
use Rattle.collector.proofs.collecting.Collector.next_besides.Goals as goal

pub invariant_of-self : goal.invariant_of-self
invariant_of-self g c =
    let inside = c.self.inside in
    let n = inside.seat.me.shape.cells in
    record {
      seat_is = c.self.invariant.seat_is;
      mutators_are = c.self.invariant.mutators_are;
      stacked = subst (λ (s : Stack). AllBelow n s.cells) (sym c.next_besides.ensures.left)
          (without_below n c.next_besides.result (down_to c.next_besides.result inside.stack.cells)
          (down_below n c.next_besides.result inside.stack.cells c.self.invariant.stacked));
    }

pub returns-clause-cell : goal.returns-clause-cell
returns-clause-cell g c =
    subst (λ (x : Bound _). c.next_besides.result < cells_of x) c.self.view_is
    (c.next_besides.ensures.below c.self.inside.seat.me.shape.cells
    (subst (λ (x : Bound _). c.args.at < cells_of x) (sym c.self.view_is) c.requires.at)
    c.self.invariant.stacked)
