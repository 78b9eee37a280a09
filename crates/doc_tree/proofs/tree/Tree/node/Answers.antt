use Rattle.std.proofs.Common.{List, ℕ, sym, ◌∙◌}
use Rattle.std.proofs.lemmas.List.{at_drop_all}
use Rattle.doc_tree.specs.Tree.{node}
use Rattle.doc_tree.proofs.Orderly.{lawful_node}
use Rattle.doc_tree.proofs.tree.Tree.node.Goals as goal

pub returns-clause-lawful : goal.returns-clause-lawful
returns-clause-lawful c =
    lawful_node _ c.args.path.now c.args.self.now
    (sym (at_drop_all (λ (names : List (List ℕ)). node names c.loop-name.tree.now)
    c.names-name-items.result.now c.loop-name.name-index c.loop-name-test.false)
    ∙ c.loop-name.invariant)
