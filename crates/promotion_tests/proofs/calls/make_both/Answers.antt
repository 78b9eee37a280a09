use Rattle.promotion_tests.proofs.Makings.{record_may}
use Rattle.promotion_tests.proofs.calls.make_both.Goals as goal

pub fill_record-requires-clause-terms : goal.fill_record-requires-clause-terms
fill_record-requires-clause-terms g c = record_may c.args.m.now.seat.me.known
