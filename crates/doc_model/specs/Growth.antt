-- A log that grows, by the client that keeps it. The client does not know the list of versions that
-- will be: it knows some of its trees, and so what it keeps is said of each list that may be.
-- Source: this project's.
use Rattle.std.specs.Prelude.{◌≡◌, ◌+◌, ◌<◌, ◌≤◌, List, [], ◌∷◌, ◌++◌, length}
use Rattle.doc_model.specs.declared.command.Entry.{Entry}
use Rattle.doc_model.specs.declared.answer.Account.{Account}
use Rattle.doc_model.specs.declared.answer.Answer.{Answer}
use Rattle.doc_tree.specs.Tree.{DocTree}
use Rattle.doc_model.specs.Answers.{Limits, left, opening_account}
use Rattle.doc_model.specs.Store.{answer_for}
use Rattle.doc_model.specs.History.{Follows, Says, Stands, account_after, made_by, seen_by, step_of}

-- the log follows from every list that may be, and leaves the same account
pub record KeepsUp (l : Limits) (May : List DocTree → Type 0) (m : Account) (log : List Entry) :
    Type 0 where
  pub follows : (trees : List DocTree) → May trees → Follows l trees opening_account log
  pub account : (trees : List DocTree) → May trees → account_after l trees opening_account log ≡ m

-- The next entry of a client with this account: over every list that may be it has the same answer.
-- Which of the trees the client read to know that is left to it; for most commands `answer_read` is
-- the lemma. A command on its draft reads none, and one that asks for an older version need not
-- read the latest.
pub record IsAnswered (l : Limits) (May : List DocTree → Type 0) (m : Account) (e : Entry)
    (a : Answer) : Type 0 where
  pub numbered : e.number ≡ m.answered + 1
  pub rises : m.last + step_of e ≤ e.place
  pub says : Says a e
  pub known : (trees : List DocTree) → May trees → e.place < length trees
  pub is : (trees : List DocTree) → May trees → answer_for l trees (seen_by e) m e ≡ a
  pub made : (trees : List DocTree) → May trees → a.made ≡ made_by trees e

-- against one list of versions a log goes on with each entry that stands after it
abbrev pub LogGoesOn : Type 0
LogGoesOn =
    (l : Limits) (trees : List DocTree) (m : Account) (log : List Entry) (e : Entry)
    → Follows l trees m log → Stands l trees (account_after l trees m log) e
    → Follows l trees m (log ++ e ∷ [])

abbrev pub AccountGoesOn : Type 0
AccountGoesOn =
    (l : Limits) (trees : List DocTree) (m : Account) (log : List Entry) (e : Entry)
    → account_after l trees m (log ++ e ∷ [])
    ≡ left (account_after l trees m log)
    (answer_for l trees (seen_by e) (account_after l trees m log) e)
