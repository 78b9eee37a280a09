use Rattle.std.proofs.Common.{◌≡◌, get_or}
use Rattle.heap_census.specs.Counts.{count_below}
use Rattle.heap_census.specs.Flags.{has_role, no_roles}
use Rattle.heap_census.proofs.counting.count_role.Given as goal

abbrev pub invariant-loop-roles : goal.invariant-loop-roles
invariant-loop-roles l =
    l.count ≡ count_below (λ c. has_role (get_or l.marks c no_roles) l.role) l.roles-index
