use Rattle.std.proofs.Common.{◌≡◌, ◌<◌, ◌≤◌, ℕ, length, true, false}
use Rattle.std.specs.Prelude.{slice_index_or}
use Rattle.mutator_seat.specs.Bound.{IsBound, bound}
use Rattle.promotion.specs.Copying.{GrownBy}
use Rattle.record_copying.specs.Copies.{AreCopies, KeepCopies}
use Rattle.record_copying.proofs.slices.copy_marked.Given as goal

abbrev pub invariant-loop-number : goal.invariant-loop-number
invariant-loop-number g l =
    IsBound l.fn.heap l.seat
    × (l.count ≤ l.most)
    × GrownBy l.count (bound l.fn.heap l.fn.seat) (bound l.fn.heap l.seat)
    × AreCopies l.seat.me.known l.minor.records l.copied l.places
    × KeepCopies l.fn.copied l.fn.places l.copied l.places
    × (length l.copied ≡ length l.fn.copied)
    × (length l.places ≡ length l.fn.places)
    × ((k : ℕ) → k < l.number → slice_index_or l.marks k false ≡ true
    → slice_index_or l.copied k false ≡ true)
    × (g.C.RawCells.refusals l.cells ≡ g.C.RawCells.refusals l.fn.cells)
