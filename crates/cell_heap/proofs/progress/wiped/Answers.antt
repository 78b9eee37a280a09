use Rattle.std.proofs.Common.{ap, sym}
use Rattle.core_machine.specs.Collector.{wiped}
use Rattle.core_machine.specs.declared.progress.Sweeping.{Sweeping}
use Rattle.cell_heap.proofs.progress.wiped.Goals as goal

pub returns-in-Wiping : goal.returns-in-Wiping
returns-in-Wiping c = record { sweep = ap (λ (s : Sweeping). wiped s) (sym c.in-Wiping.is) }
