use Rattle.heap_rule.proofs.Showing.{collector_shows, seat_of}
use Rattle.heap_rule.specs.declared.view.Role.TheVariants as role
use Rattle.heap_rule.proofs.theorems.the_collectors_seat_shows_its_part.Goals as goal

pub returns : goal.returns
returns g c = λ h s k j v there is.
    collector_shows g.P.Keeping.opening g.P.Keeping.holds g.P.Keeping.fixed h s k j v
    (seat_of g.P.Keeping.opening g.P.Keeping.holds g.P.Keeping.fixed h s k j v role.Collector there is)
