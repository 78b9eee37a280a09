use Rattle.std.proofs.Common.{◌≡◌, ℕ, ◌-◌, ◌<◌, ◌≤◌, cond, Option, sym, ap, ◌∙◌, subst, arith}
use Rattle.std.specs.Prelude.{IfOk}
use Rattle.std.specs.Option.{option_copied}
use Rattle.std.proofs.lemmas.Bool.{cond_above, lt-leb}
use Rattle.doc_tree.specs.Tree.{DocTree, node}
use Rattle.doc_model.specs.declared.answer.Answer.{Answer}
use Rattle.doc_model.specs.declared.command.Reply.TheVariants as reply
use Rattle.doc_model.specs.Answers.{Limits, old_shown, text_shown, told}
use Rattle.doc_model.specs.Store.{shown, tree_at}
use Rattle.doc_model.proofs.store.PlainStore.old_shown.Goals as goal

kept_shown : (l : Limits) (v back : ℕ) (o : Option DocTree) → back ≤ v → back < l.keep
    → text_shown (v - back) v o ≡ old_shown l v back o
kept_shown l v back o there kept =
    cond_above v back _ _ _ there
    (ap (λ b. cond b (told (reply.Gone v (v - back)) v) (text_shown (v - back) v o))
    (sym (lt-leb l.keep back kept)))

pub version_back-requires-clause-kept : goal.version_back-requires-clause-kept
version_back-requires-clause-kept c = rw (← c.self.view_is) c.if-back-self.false

pub returns-clause-answer : goal.returns-clause-answer
returns-clause-answer c =
    let s = c.args.self.now in
    let back = c.args.back in
    let found : option_copied c.node.result
    ≡ node c.args.path.now (tree_at s.trees (shown s - back)) =
    c.node.ensures.node ∙ ap (node c.args.path.now) c.version_back.ensures.tree in
    let kept : back < s.limits.keep = rw (← c.self.view_is) c.if-back-self.false in
    let asked = node c.args.path.now (tree_at s.trees (shown s - back)) in
    let same = kept_shown s.limits (shown s) back asked (omega arith) kept in
    let all : text_shown (c.shown-shown.result - c.from-2.result) c.shown-shown.result
    (option_copied c.node.result) ≡ old_shown s.limits (shown s) back asked = cc same in
    subst (λ (a : Answer). IfOk c.text_shown.result (λ b. b ≡ a)) all c.text_shown.ensures.answer
