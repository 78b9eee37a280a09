use Rattle.std.proofs.Common.{◌≡◌, ◌+◌, ◌*◌, ◌^◌, ◌≤◌}
use Rattle.cell_words.specs.declared.controls.Stage.TheVariants as stage
use Rattle.free_cells.specs.Hints.{counts_of, queue_of}
use Rattle.collector.specs.Bound.{control_of, mutators_of}
use Rattle.collector.specs.Offering.{OffersAll, freed_since}
use Rattle.collector.specs.Serving.{ServesOn}
use Rattle.collector.specs.Stretches.{Stretch}
use Rattle.collector.proofs.collecting.Collector.cycles_of.Given as goal

abbrev pub invariant-loop-made : goal.invariant-loop-made
invariant-loop-made g l =
    Stretch (ServesOn l.rest (mutators_of l.fn.self) l._made l.freed) l.fn.self l.self
    × ((control_of l.self).stage ≡ stage.Idle)
    × ((control_of l.self).cycles ≡ (control_of l.fn.self).cycles + l._made)
    × (queue_of l.hints ≡ queue_of l.fn.hints)
    × ((counts_of l.hints).puts ≡ (counts_of l.fn.hints).puts + l.freed)
    × (l.freed ≤ l._made * 2 ^ 32)
    × OffersAll (freed_since l.fn.self l.self) (counts_of l.fn.hints) (counts_of l.hints)
