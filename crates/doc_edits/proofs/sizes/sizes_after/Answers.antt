use Rattle.std.proofs.Common.{arith}
use Rattle.doc_edits.proofs.sizes.sizes_after.Goals as goal

pub returns-then-come-old-clause-nodes : goal.returns-then-come-old-clause-nodes
returns-then-come-old-clause-nodes g c = omega (arith, c.requires.change.nodes)

pub returns-then-gone-old-clause-nodes : goal.returns-then-gone-old-clause-nodes
returns-then-gone-old-clause-nodes g c = omega (arith, c.requires.change.nodes)

pub returns-else-gone-old-clause-nodes : goal.returns-else-gone-old-clause-nodes
returns-else-gone-old-clause-nodes g c = omega (arith, c.requires.change.nodes)

pub returns-then-gone-old-clause-levels : goal.returns-then-gone-old-clause-levels
returns-then-gone-old-clause-levels g c =
    omega (arith, c.requires.change.rest, c.requires.change.most)
