use Rattle.std.proofs.Common.{refl}
use Rattle.core_machine.proofs.Trails.{own_told, presence_told}
use Rattle.core_machine.specs.State.{own_of}
use Rattle.dlg_core.proofs.theorems.a_mutator_knows_its_part.Goals as goal

pub returns : goal.returns
returns c = λ s i mine taken range runs knows.
    (own_told s i (own_of s i) taken range runs refl, presence_told s i mine taken range runs knows)
