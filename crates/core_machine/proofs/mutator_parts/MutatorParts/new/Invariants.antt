use Rattle.std.proofs.Common.{◌≡◌, replicate}
use Rattle.core_machine.specs.Own.{no_own}
use Rattle.core_machine.proofs.mutator_parts.MutatorParts.new.Given as goal

abbrev pub invariant-loop-i : goal.invariant-loop-i
invariant-loop-i l =
    l.parts.items ≡ replicate l._i (record { room = l.room; own = no_own })
