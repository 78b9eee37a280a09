use Rattle.quoted_text.proofs.Turns.{goes_on}
use Rattle.quoted_text.proofs.read.read_quoted.Goals as goal

pub loop-byte-preserved : goal.loop-byte-preserved
loop-byte-preserved c =
    let next = c.in-Some-next_byte in
    goes_on c.loop-byte.text.items c.loop-byte.rest.now next.more.now next.byte _ _
    c.in_ok-push.ensures.items next.ensures.next c.loop-byte.invariant
