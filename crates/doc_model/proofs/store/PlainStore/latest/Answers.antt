use Rattle.std.proofs.Common.{◌≡◌, ℕ, ◌+◌, ◌-◌, List, length, get_or, ap, ◌∙◌, arith}
use Rattle.std.proofs.lemmas.List.{get_or-drop, get_or_default}
use Rattle.doc_tree.specs.Tree.{DocTree, empty}
use Rattle.doc_model.specs.StoreView.{IsKept}
use Rattle.doc_model.proofs.store.PlainStore.latest.Goals as goal

latest_kept : (keep versions : ℕ) (trees recent : List DocTree) (i : ℕ) (t : DocTree)
    → IsKept keep versions trees recent → t ≡ get_or recent i t → i ≡ length recent - 1
    → t ≡ get_or trees (length trees - 1) empty
latest_kept keep versions trees recent i t kept is last =
    let at : (length trees - length recent) + i ≡ length trees - 1 = omega arith in
    is ∙ ap (λ xs. get_or xs i t) kept.latest
    ∙ get_or-drop (length trees - length recent) trees i t ∙ ap (λ n. get_or trees n t) at
    ∙ get_or_default trees (length trees - 1) t empty (omega arith)

pub returns-clause-tree : goal.returns-clause-tree
returns-clause-tree c =
    rw (← c.self.view_is)
    (latest_kept _ _ _ _ _ _ c.self.invariant c.index.ensures
    (omega (arith, c.self.inside.recent.ok)))
