use Rattle.std.proofs.Common.{◌≡◌, length}
use Rattle.quoted_text.specs.Quoted.{inside_of, unquoted_of}
use Rattle.quoted_text.proofs.Turns.{ahead}
use Rattle.quoted_text.proofs.read.read_quoted.Given as goal

abbrev pub invariant-loop-byte : goal.invariant-loop-byte
invariant-loop-byte l = ahead l.text.items (inside_of l.rest) ≡ unquoted_of l.bytes

abbrev pub decreases-loop-byte : goal.decreases-loop-byte
decreases-loop-byte l = length l.rest
