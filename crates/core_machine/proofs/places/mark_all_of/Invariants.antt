use Rattle.std.proofs.Common.{◌≡◌, ◌++◌, map, take, drop}
use Rattle.core_machine.specs.Places.{mark_of}
use Rattle.core_machine.proofs.places.mark_all_of.Given as goal

abbrev pub invariant-loop-place : goal.invariant-loop-place
invariant-loop-place l =
    l.held ≡ map (mark_of l.cell)
    (take l.place-index l.initial.held) ++ drop l.place-index l.initial.held
