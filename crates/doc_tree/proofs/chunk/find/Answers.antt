use Rattle.std.proofs.Common.{rules}
use Rattle.std.proofs.lemmas.Fn.{always_returns_same}
use Rattle.doc_tree.specs.Tree.{name_cmp}
use Rattle.doc_tree.proofs.Places.{searched}
use Rattle.doc_tree.proofs.chunk.find.Goals as goal

pub returns : goal.returns
returns c =
    let facts = c.binary_search_by.ensures in
    let by_name = facts.position (λ k. name_cmp k.value.name c.args.name.now)
    (always_returns_same _ _ _ (λ a r g called. search rules)) in
    searched c.args.name.now c.args.row.now _ c.requires facts.bound by_name
