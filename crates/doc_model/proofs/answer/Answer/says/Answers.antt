use Rattle.doc_model.proofs.Replies.{replies_decide}
use Rattle.doc_model.proofs.answer.Answer.says.Goals as goal

pub returns-then-self-entry : goal.returns-then-self-entry
returns-then-self-entry c =
    let both = replies_decide c.args.self.now.reply c.args.entry.now.reply c.eq.result c.eq.ensures
    in
    (λ t. (both.0 t, c.if-self-entry.true), λ says. both.1 says.0)
