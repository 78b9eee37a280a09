use Rattle.std.proofs.Common.{◌≡◌, ◌+◌, ◌-◌, ◌≤◌, length}
use Rattle.std.specs.Io.KnownBytes.{Consumes}
use Rattle.outside.specs.Calls.{IsUnbroken}
use Rattle.outside.proofs.reading.read_front.Given as goal

abbrev pub invariant-loop-bytes : goal.invariant-loop-bytes
invariant-loop-bytes g l =
    record {
      is_open : g.H.Shelf.is_open l.shelf;
      piece : length l.piece.items ≡ 65536;
      taken : Consumes (g.H.Shelf.left l.initial.shelf) (g.H.Shelf.left l.shelf) l.bytes.items;
      limit : length l.bytes.items ≤ l.limit;
      turns : g.H.Shelf.calls l.shelf ≤ g.H.Shelf.calls l.initial.shelf + length l.bytes.items;
      held : g.H.Shelf.holds l.shelf ≡ g.H.Shelf.holds l.initial.shelf;
      opens : g.H.Shelf.opens l.shelf ≡ g.H.Shelf.opens l.initial.shelf;
      unbroken :
          IsUnbroken (g.H.Shelf.course l.initial.shelf) → IsUnbroken (g.H.Shelf.course l.shelf);
      later : g.H.Shelf.faults l.initial.shelf ≤ g.H.Shelf.faults l.shelf;
    }

-- each turn takes at least one byte
abbrev pub decreases-loop-bytes : goal.decreases-loop-bytes
decreases-loop-bytes g l = l.limit - length l.bytes.items
