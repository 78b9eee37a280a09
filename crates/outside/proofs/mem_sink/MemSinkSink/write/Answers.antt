use Rattle.std.proofs.Common.{arith, ap}
use Rattle.outside.proofs.mem_sink.MemSinkSink.write.Goals as goal

-- it takes as much as it may
pub returns-clause-count : goal.returns-clause-count
returns-clause-count c = omega (arith, ap (λ s. s.most) c.self.view_is)
