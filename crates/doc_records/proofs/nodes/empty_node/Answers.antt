use Rattle.std.proofs.Common.{ap}
use Rattle.doc_records.specs.Trees.{tree_of}
use Rattle.doc_records.proofs.Makings.{empty_made}
use Rattle.doc_records.proofs.nodes.empty_node.Goals as goal

pub returns-clause-tree : goal.returns-clause-tree
returns-clause-tree g c = record {
  node = (empty_made _ c.make.ensures.term).node;
  tree = ap tree_of c.make.ensures.term;
}

pub returns-clause-node : goal.returns-clause-node
returns-clause-node g c = empty_made _ c.make.ensures.term
