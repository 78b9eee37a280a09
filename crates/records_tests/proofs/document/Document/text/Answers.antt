use Rattle.std.proofs.Common.{refl}
use Rattle.records_tests.proofs.document.Document.text.Goals as goal

pub text_of-requires-clause-stands : goal.text_of-requires-clause-stands
text_of-requires-clause-stands c = (c.in-Some.ensures.node c.in-Some.node refl).stands
