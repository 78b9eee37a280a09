use Rattle.std.proofs.Common.{ap}
use Rattle.doc_tree.specs.Tree.{DocTree}
use Rattle.doc_tree.proofs.tree.Tree.with_text.Goals as goal

pub returns : goal.returns
returns c =
    cc (
      c.in_ok-copy.ensures,
      c.in_ok-shared.ensures.kids,
      ap (λ (t : DocTree). t.kids) c.self.view_is,
    )
