use Rattle.dlg_core.specs.Collects.{IsTidy}
use Rattle.closed_store.proofs.Kept.{census_kept}
use Rattle.closed_store.proofs.theorems.a_closed_store_has_a_census.Goals as goal

pub returns : goal.returns
returns c = λ h image v ended keep trees shown stay.
    census_kept h image v ended keep trees stay (IsTidy ended.shows.core) shown (λ tidy. tidy)
