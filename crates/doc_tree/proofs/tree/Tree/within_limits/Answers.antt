use Rattle.std.proofs.Common.{◌≡◌, ◌<◌, ◌≤◌, Err, ap, arith}
use Rattle.std.proofs.lemmas.Bool.Decides.{nat_tests}
use Rattle.doc_tree.specs.declared.edit.EditFault.TheVariants as fault
use Rattle.doc_tree.specs.Edits.{within_limits}
use Rattle.doc_tree.specs.Tree.{DocTree, count, height}
use Rattle.doc_tree.proofs.tree.Tree.within_limits.Goals as goal

limit_big : (t : DocTree) → height t ≤ 8 → 1000000000 < count t → within_limits t ≡ Err fault.Big
limit_big t low many = grind (arith, nat_tests, low, many)

pub returns-then-self-gt-MOST_NODES : goal.returns-then-self-gt-MOST_NODES
returns-then-self-gt-MOST_NODES c =
    limit_big c.args.self (omega (arith, ap (λ (t : DocTree). height t) c.self.view_is))
    (omega (arith, ap (λ (t : DocTree). count t) c.self.view_is))
