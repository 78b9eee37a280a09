use Rattle.std.proofs.Common.{arith}
use Rattle.client_heap.proofs.Carrying.{carries_fewer, carries_then}
use Rattle.client_heap.proofs.places.keep_pair.Goals as goal

pub returns-clause-carries : goal.returns-clause-carries
returns-clause-carries c =
    let some = c.requires.first in
    let more = c.hold_again.ensures.held in
    carries_then (carries_fewer 1 (omega (arith, some)) c.hold_again.ensures.carries)
    (carries_then (carries_fewer 1 (omega (arith, more)) c.hold_again-2.ensures.carries)
    c.keep_two.ensures.carries)
