use Rattle.std.proofs.Common.{◌≡◌, ◌≤◌, ◌*◌, None}
use Rattle.collector.specs.Bound.{KeepsTracing, cells_of, control_of, part_of}
use Rattle.collector.specs.Counting.{Does, TracesAtMost}
use Rattle.collector.proofs.collecting.Collector.trace_some.Given as goal

abbrev pub invariant-loop-turn : goal.invariant-loop-turn
invariant-loop-turn g l =
    Does l.report l.fn.self l.self
    × TracesAtMost (6 * l._turn) l.report
    × (control_of l.self ≡ control_of l.fn.self)
    × KeepsTracing (part_of l.fn.self) (part_of l.self)
    × ((part_of l.self).scan ≡ None)
    × ((part_of l.self).cursor ≤ cells_of l.self)
