use Rattle.std.proofs.Common.{refl}
use Rattle.records_tests.proofs.document.Document.names.Goals as goal

pub names-requires-in-Some-clause-stands : goal.names-requires-in-Some-clause-stands
names-requires-in-Some-clause-stands c = (c.in-Some.ensures.node c.in-Some.node refl).stands
