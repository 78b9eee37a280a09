use Rattle.doc_model.proofs.Growth.{account_more, follows_more}
use Rattle.doc_model.proofs.theorems.log_goes_on.Goals as goal

pub returns : goal.returns
returns c = record { follows = follows_more; account = account_more }
