use Rattle.std.proofs.Common.{refl}
use Rattle.records_tests.proofs.document.Document.copy.Goals as goal

pub attach-requires-clause-sub_stands : goal.attach-requires-clause-sub_stands
attach-requires-clause-sub_stands c = (c.in-Some.ensures.node c.in-Some.sub refl).stands
