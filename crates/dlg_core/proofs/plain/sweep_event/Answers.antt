use Rattle.std.proofs.Common.{◌≡◌, ◌≤◌, ℕ, arith}
use Rattle.std.proofs.lemmas.Bool.Decides.{nat_tests}
use Rattle.core_machine.specs.declared.events.Event.TheVariants as event
use Rattle.core_machine.specs.declared.progress.Sweeping.TheVariants as sweeping
use Rattle.dlg_core.specs.Plain.{plain_sweep}
use Rattle.dlg_core.proofs.plain.sweep_event.Goals as goal

-- a cell is freed after its sixth field
freed : (k : ℕ) → 6 ≤ k → event.Free ≡ plain_sweep (sweeping.Wiping k)
freed k wiped = grind (arith, nat_tests)

pub returns-in-Wiping-2 : goal.returns-in-Wiping-2
returns-in-Wiping-2 c = rw c.in-Wiping.is (freed _ (omega arith))
