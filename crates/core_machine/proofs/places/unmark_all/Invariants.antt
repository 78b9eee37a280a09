use Rattle.std.proofs.Common.{◌≡◌, ◌++◌, map, take, drop}
use Rattle.core_machine.specs.Places.{unmark}
use Rattle.core_machine.proofs.places.unmark_all.Given as goal

abbrev pub invariant-loop-place : goal.invariant-loop-place
invariant-loop-place l =
    l.held ≡ map unmark (take l.place-index l.initial.held) ++ drop l.place-index l.initial.held
