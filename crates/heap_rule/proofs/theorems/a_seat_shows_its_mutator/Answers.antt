use Rattle.heap_rule.proofs.Showing.{seat_of, seat_shows}
use Rattle.heap_rule.specs.declared.view.Role.TheVariants as role
use Rattle.heap_rule.proofs.theorems.a_seat_shows_its_mutator.Goals as goal

pub returns : goal.returns
returns g c = λ h s k j v there is.
    seat_shows g.P.Keeping.opening g.P.Keeping.holds g.P.Keeping.fixed h k.ledger j v k.stands
    (seat_of g.P.Keeping.opening g.P.Keeping.holds g.P.Keeping.fixed h s k j v role.Mutator there is)
