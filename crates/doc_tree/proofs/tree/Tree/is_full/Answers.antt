use Rattle.std.proofs.Common.{◌≡◌, ap, ◌∙◌, arith}
use Rattle.std.proofs.lemmas.Bool.{le-leb, leb-true}
use Rattle.doc_tree.specs.declared.tree.TheConstants.Tree.{MOST_CHILDREN}
use Rattle.doc_tree.specs.Chunks.{kids_of}
use Rattle.doc_tree.specs.Tree.{DocTree, kid_count}
use Rattle.doc_tree.proofs.tree.Tree.is_full.Goals as goal

pub returns : goal.returns
returns c =
    let count = c.count.result in
    let all : count ≡ kid_count c.args.self.now.kids =
    c.count.ensures ∙ ap (λ cs. kid_count (kids_of cs)) c.deref.ensures.value
    ∙ ap (λ (t : DocTree). kid_count t.kids) c.self.view_is in (
      λ is. omega (arith, all, leb-true MOST_CHILDREN count is),
      λ full. le-leb MOST_CHILDREN count (omega (arith, all)),
    )
