use Rattle.std.proofs.Common.{ap, arith, ◌∙◌}
use Rattle.doc_tree.specs.Tree.{count}
use Rattle.client_trees.specs.declared.at.NodeAt.TheVariants as at
use Rattle.client_trees.specs.Nodes.{tree_at}
use Rattle.doc_export.proofs.Keeping.{keeps_left, keeps_on, tree_same}
use Rattle.doc_export.proofs.Looking.{looks_kept}
use Rattle.doc_export.proofs.Turns.{dumped}
use Rattle.doc_export.proofs.dumping.dump_tree.Goals as goal

pub returns-in_err-add_tree-clause-keeps : goal.returns-in_err-add_tree-clause-keeps
returns-in_err-add_tree-clause-keeps c =
    keeps_on
    (keeps_left c.args.m.now c.count-nodes.new.m c.args.minor.now c.count-nodes.new.minor
    c.count-nodes.ensures.leaves.leaves)
    c.add_tree.ensures.keeps

pub returns-in_err-end-clause-keeps : goal.returns-in_err-end-clause-keeps
returns-in_err-end-clause-keeps c =
    keeps_on
    (keeps_left c.args.m.now c.count-nodes.new.m c.args.minor.now c.count-nodes.new.minor
    c.count-nodes.ensures.leaves.leaves)
    c.add_tree.ensures.keeps

pub returns-in_err-extend_from_slice-clause-keeps
    : goal.returns-in_err-extend_from_slice-clause-keeps
returns-in_err-extend_from_slice-clause-keeps c =
    keeps_on
    (keeps_left c.args.m.now c.count-nodes.new.m c.args.minor.now c.count-nodes.new.minor
    c.count-nodes.ensures.leaves.leaves)
    c.add_tree.ensures.keeps

pub returns-clause-keeps : goal.returns-clause-keeps
returns-clause-keeps c =
    keeps_on
    (keeps_left c.args.m.now c.count-nodes.new.m c.args.minor.now c.count-nodes.new.minor
    c.count-nodes.ensures.leaves.leaves)
    c.add_tree.ensures.keeps

pub returns-clause-dump : goal.returns-clause-dump
returns-clause-dump c =
    let same = tree_same c.args.m.now c.count-nodes.new.m c.args.minor.now
    c.count-nodes.new.minor
    (keeps_left c.args.m.now c.count-nodes.new.m c.args.minor.now c.count-nodes.new.minor
    c.count-nodes.ensures.leaves.leaves) c.args.root c.requires.node.stands.0 c.requires.node in
    dumped c.args.number c.count-nodes.result
    (tree_at c.args.m.now c.args.minor.now (at.Shared c.args.root))
    (tree_at c.count-nodes.new.m c.count-nodes.new.minor (at.Shared c.args.root))
    c.in_ok-bytes.bytes.items c.add_tree.new.out.items c.as_slice.result.now
    c.extend_from_slice.new.self.items c.in_ok-bytes.ensures.line c.in_ok-add_tree.ensures.lines
    same (c.as_slice.ensures.value ∙ c.in_ok-end.ensures.line) c.count-nodes.ensures.count
    c.in_ok-extend_from_slice.ensures.items

pub returns-clause-looked : goal.returns-clause-looked
returns-clause-looked c =
    let left = keeps_left c.args.m.now c.count-nodes.new.m c.args.minor.now
    c.count-nodes.new.minor c.count-nodes.ensures.leaves.leaves in
    let before = looks_kept c.args.m.now c.count-nodes.new.m left in
    let same = ap count (tree_same c.args.m.now c.count-nodes.new.m c.args.minor.now
    c.count-nodes.new.minor left c.args.root c.requires.node.stands.0 c.requires.node) in
    let looked = c.in_ok-add_tree.ensures.looked in omega (arith, before, same, looked)
