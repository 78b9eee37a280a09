use Rattle.std.proofs.Common.{◌≡◌, ◌≤◌, ◌+◌}
use Rattle.core_machine.specs.declared.progress.Sweeping.TheVariants as sweeping
use Rattle.collector.specs.Bound.{KeepsAnswers, cells_of, control_of, part_of}
use Rattle.collector.specs.Counting.{Does, frees}
use Rattle.collector.specs.Offering.{OffersAll, freed_since}
use Rattle.free_cells.specs.Hints.{counts_of, queue_of}
use Rattle.collector.proofs.collecting.Collector.sweep_all.Given as goal

abbrev pub invariant-loop-white : goal.invariant-loop-white
invariant-loop-white g l = record {
  does : Does (frees l.freed) l.fn.self l.self;
  few : l.freed ≤ l._white;
  control : control_of l.self
      ≡ record (control_of l.fn.self) { position = (control_of l.self).position };
  low : l._white ≤ (control_of l.self).position;
  high : (control_of l.self).position ≤ cells_of l.self;
  fresh : (part_of l.self).sweep ≡ sweeping.Fresh;
  kept : KeepsAnswers (part_of l.fn.self) (part_of l.self);
  queue : queue_of l.hints ≡ queue_of l.fn.hints;
  puts : (counts_of l.hints).puts ≡ (counts_of l.fn.hints).puts + l.freed;
  offers : OffersAll (freed_since l.fn.self l.self) (counts_of l.fn.hints) (counts_of l.hints);
}
