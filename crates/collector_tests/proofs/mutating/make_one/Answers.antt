use Rattle.core_machine.specs.declared.events.Found.TheVariants as finds
use Rattle.collector_tests.proofs.Rounds.{one_again}
use Rattle.collector_tests.proofs.mutating.make_one.Goals as goal

pub returns-in-Ok-clause-one : goal.returns-in-Ok-clause-one
returns-in-Ok-clause-one g c =
    one_again c.args.heap.now c.in-Ok.place c.args.mutator.now c.claim_hinted.new.self
    c.seal_record.new.self c.cut.new.self
    (finds.Presence c.seal_record.new.self.seat.me.presence)
    c.in-Ok.ensures.got c.requires.one c.seal_record.ensures.told c.cut.ensures.told
