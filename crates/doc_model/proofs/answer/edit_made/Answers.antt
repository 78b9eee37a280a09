use Rattle.doc_model.proofs.Counted.{delete_counted}
use Rattle.doc_model.proofs.answer.edit_made.Goals as goal

pub returns-in-Del-clause-counted : goal.returns-in-Del-clause-counted
returns-in-Del-clause-counted c =
    delete_counted c.delete.result c.in-Del.path c.args.tree.now c.delete.ensures.tree
    c.requires.counted
