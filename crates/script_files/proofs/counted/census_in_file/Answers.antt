use Rattle.std.proofs.Common.{Result, Ok, Err}
use Rattle.std.specs.Prelude.{OnOk}
use Rattle.script_files.proofs.counted.census_in_file.Goals as goal

-- what is so anyway is so where the answer is Ok
on_ok : {A E : Type 0} (result : Result A E) (P : Type 0) → P → OnOk result P
on_ok (Ok x) P is = is
on_ok (Err error) P is = tt

pub returns-in-Ok-clause-unbroken : goal.returns-in-Ok-clause-unbroken
returns-in-Ok-clause-unbroken g c = on_ok c.census_in_bytes.result _ c.in-Ok.ensures.unbroken
