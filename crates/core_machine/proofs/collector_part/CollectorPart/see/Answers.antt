use Rattle.std.proofs.Common.{refl}
use Rattle.core_machine.proofs.collector_part.CollectorPart.see.Goals as goal

pub returns-in-Gray : goal.returns-in-Gray
returns-in-Gray c =
    record {
      collector = rw (c.in-Gray.is, ← c.restart.ensures.collector, ← c.self.view_is) refl;
    }
