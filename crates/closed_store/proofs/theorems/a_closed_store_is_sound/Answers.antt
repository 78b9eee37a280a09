use Rattle.closed_store.proofs.Kept.{chain_counted, never_refused, swept_whole}
use Rattle.closed_store.proofs.theorems.a_closed_store_is_sound.Goals as goal

pub returns : goal.returns
returns c = record { sound = never_refused; versions = chain_counted; floating = swept_whole }
