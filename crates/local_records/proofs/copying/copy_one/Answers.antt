use Rattle.std.proofs.Common.{refl}
use Rattle.local_records.proofs.copying.copy_one.Goals as goal

pub returns-in-Part-clause-part : goal.returns-in-Part-clause-part
returns-in-Part-clause-part g c _ = c.in-Part.ensures.part refl
