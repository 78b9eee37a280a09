use Rattle.std.proofs.Common.{refl}
use Rattle.collector.specs.Counting.{frees, nothing}
use Rattle.free_cells.specs.Hints.{counts_of}
use Rattle.collector.proofs.Joining.{does_after}
use Rattle.collector.proofs.Offered.{free_does, offer_counts, offers_after, offers_one}
use Rattle.collector.proofs.collecting.Collector.free_cell.Goals as goal

pub returns-clause-does : goal.returns-clause-does
returns-clause-does g c =
    does_after (frees 1) c.args.self.now c.wipe_all.new.self c.free_once.new.self
    c.wipe_all.ensures.does
    (free_does c.wipe_all.new.self c.free_once.new.self c.free_once.ensures.told
    c.free_once.ensures.known)

pub returns-clause-offered : goal.returns-clause-offered
returns-clause-offered g c =
    offers_after nothing _ c.args.self.now c.wipe_all.new.self c.free_once.new.self
    (counts_of c.args.hints.now) (counts_of c.offer.new.hints) refl c.wipe_all.ensures.does
    (free_does c.wipe_all.new.self c.free_once.new.self c.free_once.ensures.told
    c.free_once.ensures.known)
    (offers_one c.wipe_all.new.self c.free_once.new.self (counts_of c.args.hints.now)
    (counts_of c.offer.new.hints) c.free_once.ensures.told c.offer.ensures.offered)

pub returns-clause-puts : goal.returns-clause-puts
returns-clause-puts g c =
    offer_counts _ (counts_of c.args.hints.now) (counts_of c.offer.new.hints)
    c.offer.ensures.offered
