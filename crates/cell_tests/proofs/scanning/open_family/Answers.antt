use Rattle.cell_tests.proofs.Opens.{family_opens}
use Rattle.cell_tests.proofs.scanning.open_family.Goals as goal

pub open-requires-clause-rule : goal.open-requires-clause-rule
open-requires-clause-rule c = family_opens
