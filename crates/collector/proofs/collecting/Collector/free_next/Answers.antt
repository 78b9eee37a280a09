use Rattle.std.proofs.Common.{refl}
use Rattle.core_machine.specs.declared.events.Event.TheVariants as event
use Rattle.core_machine.specs.declared.events.Found.TheVariants as finds
use Rattle.collector.specs.Counting.{frees}
use Rattle.free_cells.specs.Hints.{counts_of}
use Rattle.collector.proofs.Joining.{does_and, does_still}
use Rattle.collector.proofs.Offered.{offers_and}
use Rattle.collector.proofs.collecting.Collector.free_next.Goals as goal

pub returns-clause-does : goal.returns-clause-does
returns-clause-does g c =
    does_and (frees 1) c.args.self.now c.free_cell.new.self c.advance_once.new.self
    c.free_cell.ensures.does
    (does_still c.free_cell.new.self c.advance_once.new.self event.Advance finds.Stored
    refl refl c.advance_once.ensures.told c.advance_once.ensures.known)

pub returns-clause-offered : goal.returns-clause-offered
returns-clause-offered g c =
    offers_and _ c.args.self.now c.free_cell.new.self c.advance_once.new.self
    (counts_of c.args.hints.now) (counts_of c.free_cell.new.hints) event.Advance
    finds.Stored refl refl c.advance_once.ensures.told c.advance_once.ensures.known
    c.free_cell.ensures.does c.free_cell.ensures.offered
