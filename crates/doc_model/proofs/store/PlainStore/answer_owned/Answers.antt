use Rattle.std.proofs.Common.{rules}
use Rattle.doc_model.proofs.Keeping.{lawful_next}
use Rattle.doc_model.proofs.store.PlainStore.answer_owned.Goals as goal

pub returns-clause-lawful : goal.returns-clause-lawful
returns-clause-lawful c =
    lawful_next c.args.self.now c.enter.new.self c.args.client c.args.command (search rules)
