use Rattle.std.proofs.Common.{◌≡◌, Bool, true, false, refl}
use Rattle.std.specs.Prelude.{◌||◌}
use Rattle.mutator_seat.proofs.looking.mark_before_third.Goals as goal

by_right : (a b : Bool) → b ≡ true → (a || b) ≡ true
by_right true b is = refl
by_right false b is = is

-- the marks are those of `mark_all`, which is not named here: without that call no fact gives them
pub returns-in-Sync2-clause-marked : goal.returns-in-Sync2-clause-marked
returns-in-Sync2-clause-marked g c = search by_right
