use Rattle.trails.proofs.Orders.{shows_then}
use Rattle.trails.proofs.theorems.stretches_join.Goals as goal

pub returns : goal.returns
returns c = λ first second old between new one two. shows_then one two
