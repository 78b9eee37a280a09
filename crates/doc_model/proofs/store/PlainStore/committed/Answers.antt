use Rattle.std.proofs.Common.{◌≡◌, ℕ, ◌+◌, ◌<◌, Result, Ok, Some, None, sym, ap, ◌∙◌, subst, arith}
use Rattle.doc_tree.specs.declared.edit.EditFault.{EditFault}
use Rattle.doc_tree.specs.Edits.{Gives}
use Rattle.doc_tree.specs.Tree.{DocTree}
use Rattle.doc_model.specs.declared.answer.Answer.{Answer}
use Rattle.doc_model.specs.declared.command.Reply.TheVariants as reply
use Rattle.doc_model.specs.Answers.{Limits, committed}
use Rattle.doc_model.specs.Store.{Store}
use Rattle.std.proofs.lemmas.Bool.{cond_below}
use Rattle.doc_model.proofs.store.PlainStore.committed.Goals as goal

-- the answer with this tree as the version after v
abbrev next : ℕ → DocTree → Answer
next v t =
    record { reply = reply.Committed (v + 1); place = v + 1; made = Some t; draft = None }

committed_next : (l : Limits) (v : ℕ) (edited wanted : Result DocTree EditFault) (t : DocTree)
    → edited ≡ Ok t → Gives edited wanted → v < l.versions → next v t ≡ committed l v wanted
committed_next l v edited wanted t is gives more =
    let given : wanted ≡ Ok t = subst (λ (e : Result DocTree EditFault). Gives e wanted) is gives in
    cond_below v l.versions _ _ more ∙ ap (committed l v) (sym given)

pub returns-clause-answer : goal.returns-clause-answer
returns-clause-answer c = λ wanted gives.
    let s = c.args.self.now in
    let more : c.shown-shown.result < s.limits.versions =
    omega (arith, ap (λ (t : Store). t.limits.versions) c.self.view_is) in
    rw (← c.shown-shown.ensures.shown)
    (committed_next s.limits c.shown-shown.result c.args.edited wanted c.in-Ok.tree c.in-Ok.is gives
    more)

pub returns-clause-next : goal.returns-clause-next
returns-clause-next c = (
  omega (arith, ap (λ (t : Store). t.limits.versions) c.self.view_is),
  c.requires c.in-Ok.tree c.in-Ok.is,
)
