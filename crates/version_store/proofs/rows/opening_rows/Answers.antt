use Rattle.std.proofs.Common.{refl}
use Rattle.version_store.proofs.rows.opening_rows.Goals as goal

pub returns : goal.returns
returns c = record { rows = refl }
