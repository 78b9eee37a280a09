use Rattle.collector.specs.Counting.{passes_one}
use Rattle.collector.proofs.Counted.{passes_few}
use Rattle.collector.proofs.Joining.{does_after}
use Rattle.collector.proofs.collecting.Collector.trace_once.Goals as goal

pub returns-in-Gray-clause-counts : goal.returns-in-Gray-clause-counts
returns-in-Gray-clause-counts g c = record {
  more = c.scan_cell-more.result;
  few = c.scan_cell-more.ensures.few;
  all_are = c.with.ensures.report;
  does = does_after c.scan_cell-more.result c.args.self.now c.look_once.new.self
      c.scan_cell-more.new.self c.in-Gray.ensures.does c.scan_cell-more.ensures.does;
}

pub returns-in-Other-clause-counts : goal.returns-in-Other-clause-counts
returns-in-Other-clause-counts g c = record {
  more = passes_one c.in-Other.ends;
  few = passes_few c.in-Other.ends;
  all_are = c.passed.ensures.report;
  does = c.in-Other.ensures.does;
}
