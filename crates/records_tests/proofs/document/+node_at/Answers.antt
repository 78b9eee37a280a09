use Rattle.std.proofs.Common.{refl, rules}
use Rattle.doc_edits.proofs.Along.{rest_less}
use Rattle.doc_edits.proofs.Lawful.{tree_child}
use Rattle.records_tests.specs.Memory.{shown}
use Rattle.records_tests.proofs.Pools.{later_on}
use Rattle.records_tests.proofs.document.+node_at.Goals as goal

pub node_at-requires : goal.node_at-requires
node_at-requires t c =
    let child = c.in_ok-child.child in
    let found =
    tree_child (shown c.child.new.records) _ _ child c.requires.node.lawful
    (c.in_ok-child.ensures.stands child refl) c.in_ok-child.ensures.child in
    let less = rest_less c.args.names.now c.in-len1-up.len_at_least in
    search (rules, found, less)

pub returns-clause-later : goal.returns-clause-later
returns-clause-later t c =
    later_on (shown c.args.pool.now) (shown c.child.new.records) (shown c.node_at.new.pool)
    c.child.ensures.later c.node_at.ensures.later
