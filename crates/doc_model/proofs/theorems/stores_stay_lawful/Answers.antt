use Rattle.doc_model.proofs.Keeping.{command_keeps_lawful, entry_keeps_lawful, history_lawful}
use Rattle.doc_model.proofs.Keeping.{opens_lawful}
use Rattle.doc_model.proofs.theorems.stores_stay_lawful.Goals as goal

pub returns : goal.returns
returns c = record {
  opens = opens_lawful;
  entry = entry_keeps_lawful;
  command = command_keeps_lawful;
  history = history_lawful;
}
