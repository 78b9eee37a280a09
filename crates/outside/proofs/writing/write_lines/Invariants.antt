use Rattle.std.proofs.Common.{◌+◌, ◌≤◌, length}
use Rattle.outside.specs.Calls.{IsUnbroken}
use Rattle.outside.proofs.Taken.{IsWritten}
use Rattle.outside.proofs.writing.write_lines.Given as goal

abbrev pub invariant-loop-rest : goal.invariant-loop-rest
invariant-loop-rest g l =
    record {
      taken : IsWritten (g.S.Sink.written l.initial.sink) (g.S.Sink.written l.sink) l.text l.rest;
      turns : g.S.Sink.calls l.sink + length l.rest ≤ g.S.Sink.calls l.initial.sink + length l.text;
      unbroken : IsUnbroken (g.S.Sink.course l.initial.sink) → IsUnbroken (g.S.Sink.course l.sink);
      later : g.S.Sink.faults l.initial.sink ≤ g.S.Sink.faults l.sink;
      wanted : g.S.Sink.wants l.initial.sink ≤ g.S.Sink.wants l.sink;
    }

-- each line has at least one byte
abbrev pub decreases-loop-rest : goal.decreases-loop-rest
decreases-loop-rest g l = length l.rest
