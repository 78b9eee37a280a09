use Rattle.std.proofs.Common.{◌≡◌, ◌-◌, ◌++◌, replicate, true, false}
use Rattle.collector.specs.Bound.{control_of, mutators_of, part_of}
use Rattle.collector.specs.Over.{Hears}
use Rattle.collector.proofs.collecting.Collector.await_all.Given as goal

abbrev pub invariant-loop-mutator : goal.invariant-loop-mutator
invariant-loop-mutator g l =
    Hears l.all_over 0 l.mutator l.fn.self l.self
    × (control_of l.self ≡ control_of l.fn.self)
    × (part_of l.self ≡ record (part_of l.fn.self) {
      answered = replicate l.mutator true ++ replicate (mutators_of l.fn.self - l.mutator) false;
    })
