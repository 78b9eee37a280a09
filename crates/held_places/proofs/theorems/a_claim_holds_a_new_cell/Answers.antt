use Rattle.held_places.proofs.Claiming.{claimed_apart, claimed_goes, claimed_known}
use Rattle.held_places.proofs.theorems.a_claim_holds_a_new_cell.Goals as goal

pub returns : goal.returns
returns g c = record {
  trail = claimed_goes;
  places = λ a b fresh got. claimed_known a b fresh got g.P.Keeping.fixed;
  apart = claimed_apart;
}
