use Rattle.std.proofs.Common.{rules}
use Rattle.dlg_core.proofs.search.Searching.new.Goals as goal

pub returns : goal.returns
returns c = record { nothing = search rules }
