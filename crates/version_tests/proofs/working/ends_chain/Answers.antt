use Rattle.cell_words.specs.Term.{IsFive}
use Rattle.doc_tree.specs.Tree.{empty}
use Rattle.heap_rule.proofs.Picking.{read_picks}
use Rattle.version_rule.specs.Versions.{HoldsVersions, is_fixed}
use Rattle.version_tests.proofs.working.ends_chain.Goals as goal

pub read-requires-clause-rule : goal.read-requires-clause-rule
read-requires-clause-rule c =
    let v = c.args.m.now.seat.me in
    read_picks (HoldsVersions IsFive (λ t. empty)) is_fixed v v.number c.args.v.place 2
