use Rattle.std.proofs.Common.{◌≡◌, ◌≤◌, ◌+◌, ap, subst}
use Rattle.client_trees.specs.declared.at.NodeAt.TheVariants as at
use Rattle.client_trees.specs.Records.{known_term}
use Rattle.client_trees.specs.Nodes.{tree_at}
use Rattle.doc_records.specs.Trees.{tree_of}
use Rattle.doc_tree.specs.Tree.{DocTree, count}
use Rattle.heap_rule.specs.declared.known.Known.{Known}
use Rattle.version_store.specs.Held.{root_at}
use Rattle.version_store.specs.Lasts.{marks}
use Rattle.doc_export.specs.Looks.{looks}
use Rattle.doc_export.proofs.Looking.{ok_then}
use Rattle.doc_export.proofs.Turns.{back_held, back_known, back_lasts, back_looks}
use Rattle.doc_export.proofs.dumping.dump.Goals as goal

pub returns-clause-held : goal.returns-clause-held
returns-clause-held c =
    back_held c.args.m.now c.tree-root.new.m c.dump_tree-dumped.new.m c.cut.new.self
    c.tree-root.ensures.root.cell c.held_len-places.result _ c.tree-root.ensures.root.holds
    c.dump_tree-dumped.ensures.keeps c.held_len-places.ensures.len c.cut.ensures.told

pub returns-clause-known : goal.returns-clause-known
returns-clause-known c =
    back_known c.args.m.now c.tree-root.new.m c.dump_tree-dumped.new.m c.cut.new.self
    c.tree-root.ensures.root.cell c.held_len-places.result _ c.tree-root.ensures.root.holds
    c.dump_tree-dumped.ensures.keeps c.held_len-places.ensures.len c.cut.ensures.told

pub returns-clause-lasts : goal.returns-clause-lasts
returns-clause-lasts c =
    back_lasts c.args.m.now c.tree-root.new.m c.dump_tree-dumped.new.m c.cut.new.self
    c.tree-root.ensures.root.cell c.held_len-places.result _ c.tree-root.ensures.root.holds
    c.dump_tree-dumped.ensures.keeps c.held_len-places.ensures.len c.cut.ensures.told
    c.tree-root.ensures.lasts

pub returns-clause-looked : goal.returns-clause-looked
returns-clause-looked c =
    let same : tree_at c.tree-root.new.m c.args.minor.now (at.Shared c.tree-root.result)
    ≡ tree_of (root_at c.args.m.now c.args.v.place) =
    ap (λ (k : Known). tree_of (known_term k)) c.tree-root.ensures.root.known in
    ok_then c.dump_tree-dumped.result _ _
    (λ looked. back_looks c.args.m.now c.tree-root.new.m c.dump_tree-dumped.new.m c.cut.new.self
    c.tree-root.ensures.root.cell c.held_len-places.result _ c.tree-root.ensures.root.holds
    c.dump_tree-dumped.ensures.keeps c.held_len-places.ensures.len c.cut.ensures.told
    (count (tree_of (root_at c.args.m.now c.args.v.place))) c.tree-root.ensures.lasts
    (subst (λ (t : DocTree). looks (marks c.tree-root.new.m) + count t
    ≤ looks (marks c.dump_tree-dumped.new.m)) same looked))
    c.dump_tree-dumped.ensures.looked
