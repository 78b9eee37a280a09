use Rattle.std.proofs.Common.{◌+◌, ◌-◌, ◌≤◌, take, length}
use Rattle.std.specs.Io.KnownBytes.{Appends}
use Rattle.outside.specs.Calls.{IsUnbroken}
use Rattle.outside.proofs.writing.write_all.Given as goal

abbrev pub invariant-loop-done : goal.invariant-loop-done
invariant-loop-done g l =
    record {
      within : l.done ≤ length l.bytes;
      taken : Appends (g.S.Sink.written l.initial.sink) (g.S.Sink.written l.sink)
          (take l.done l.bytes);
      turns : g.S.Sink.calls l.sink ≤ g.S.Sink.calls l.initial.sink + l.done;
      unbroken : IsUnbroken (g.S.Sink.course l.initial.sink) → IsUnbroken (g.S.Sink.course l.sink);
      later : g.S.Sink.faults l.initial.sink ≤ g.S.Sink.faults l.sink;
      wanted : g.S.Sink.wants l.initial.sink ≤ g.S.Sink.wants l.sink;
    }

-- each call takes at least one byte
abbrev pub decreases-loop-done : goal.decreases-loop-done
decreases-loop-done g l = length l.bytes - l.done
