use Rattle.std.proofs.Common.{refl}
use Rattle.cmd_text.proofs.script.read_numbered.Goals as goal

pub returns-in-Err-Fault : goal.returns-in-Err-Fault
returns-in-Err-Fault c = (rw c.in-Err-Fault.field-0-is at c.in-Err-Fault.ensures, refl)
