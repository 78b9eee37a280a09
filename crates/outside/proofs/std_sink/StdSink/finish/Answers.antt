use Rattle.std.proofs.Common.{refl}
use Rattle.outside.proofs.std_sink.StdSink.finish.Goals as goal

-- a failed call is counted
pub returns-in-Err-clause-err : goal.returns-in-Err-clause-err
returns-in-Err-clause-err g c =
    rw (← c.self.view_is, c.clear.ensures.items, c.saturating_add-self-inside.ensures) refl
