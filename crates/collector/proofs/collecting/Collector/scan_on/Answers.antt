use Rattle.std.proofs.Common.{◌++◌, sym, subst}
use Rattle.cell_heap.specs.Scans.{ScansCell, blackens, scan_over}
use Rattle.heap_rule.specs.Shape.{Shape}
use Rattle.cell_heap.proofs.InARow.{still_of, tells_shape}
use Rattle.collector.specs.Bound.{Bound}
use Rattle.collector.specs.Stack.{AllBelow}
use Rattle.collector.proofs.collecting.Collector.scan_on.Goals as goal

pub invariant_of-self : goal.invariant_of-self
invariant_of-self g c =
    let inside = c.self.inside in
    let scanned = c.scan_cell.ensures.scanned in
    let events = scan_over scanned.loaded ++ blackens in
    let shape = tells_shape inside.seat c.scan_cell.new.self events scanned.told in
    record {
      seat_is = still_of inside.heap.now inside.seat c.scan_cell.new.self events
          c.self.invariant.seat_is scanned.told;
      mutators_are = c.self.invariant.mutators_are;
      stacked = subst (λ (h : Shape). AllBelow h.cells inside.stack.cells) (sym shape)
          c.self.invariant.stacked;
    }

pub returns-clause-scanned : goal.returns-clause-scanned
returns-clause-scanned g c =
    subst (λ (x : Bound _). ScansCell c.scan_cell.result x.seat c.scan_cell.new.self)
    c.self.view_is c.scan_cell.ensures.scanned
