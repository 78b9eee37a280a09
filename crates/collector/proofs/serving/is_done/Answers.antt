use Rattle.std.proofs.Common.{ap, sym}
use Rattle.collector.specs.Serving.{is_done}
use Rattle.collector.specs.declared.serving.Rest.{Rest}
use Rattle.collector.proofs.serving.is_done.Goals as goal

pub returns-in-One : goal.returns-in-One
returns-in-One c = record { done = ap (λ (r : Rest). is_done r) (sym c.in-One.is) }
