use Rattle.std.proofs.Common.{◌≡◌, drop}
use Rattle.cell_heap.specs.Scans.{AreBelow}
use Rattle.collector.specs.Bound.{cells_of}
use Rattle.collector.specs.Counting.{TracesAtMost, nothing}
use Rattle.collector.specs.Pushes.{all_pushed, with_all}
use Rattle.collector.proofs.collecting.Collector.push_all.Given as goal

abbrev pub invariant-loop-child : goal.invariant-loop-child
invariant-loop-child g l = record {
  counted : with_all l.report (drop l.child-index l.fn.children) l.self.stack
      ≡ with_all nothing l.fn.children l.fn.self.stack;
  pushed : all_pushed (drop l.child-index l.fn.children) l.self.stack
      ≡ all_pushed l.fn.children l.fn.self.stack;
  kept : l.self ≡ record l.fn.self { stack = l.self.stack };
  few : TracesAtMost l.child-index l.report;
  below : AreBelow (cells_of l.fn.self) (drop l.child-index l.fn.children);
}
