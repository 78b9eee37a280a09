use Rattle.std.proofs.Common.{refl}
use Rattle.script_files.proofs.fault.final_fault.Goals as goal

pub returns-in-None-Err : goal.returns-in-None-Err
returns-in-None-Err c = rw (c.in-None-Err.is-0, c.in-None-Err.is-1) refl
