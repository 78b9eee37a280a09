-- Histories: a list of entries that a store could have given in that order, and a client's log that
-- stands against a list of versions which others make with it.
-- Both fold the same answers. A history has one store, which makes its versions as it goes; a log
-- has its own account alone, and reads each version from the list.
-- Source: this project's.
use Rattle.std.specs.Prelude.{◌≡◌, ℕ, ◌+◌, ◌-◌, ◌<◌, ◌≤◌, List, [], ◌∷◌, Option, Some, None}
use Rattle.std.specs.Prelude.{length, if◌then◌else◌}
use Rattle.doc_model.specs.declared.command.Entry.{Entry}
use Rattle.doc_model.specs.declared.answer.Answer.{Answer}
use Rattle.doc_model.specs.declared.answer.Account.{Account}
use Rattle.doc_tree.specs.Tree.{DocTree}
use Rattle.doc_model.specs.Answers.{Limits, is_ok, left}
use Rattle.doc_model.specs.Store.{Store, IsClient, after, answer_for, answer_for_in, tree_at}

-- the entry has the answer's reply and place
abbrev pub Says : Answer → Entry → Type 0
Says a e = (a.reply ≡ e.reply) × (a.place ≡ e.place)

-- the store answers the entries one after another
abbrev pub IsLegal : Store → List Entry → Type 0
IsLegal s [] = Unit {0}
IsLegal s (e ∷ es) =
    IsClient s e.client × (Says (answer_for_in s e) e
    × IsLegal (after s e.client (answer_for_in s e)) es)

-- the store after a history
abbrev pub after_all : Store → List Entry → Store
after_all s [] = s
after_all s (e ∷ es) = after_all (after s e.client (answer_for_in s e)) es

-- how many versions an entry made
abbrev pub step_of : Entry → ℕ
step_of e = if is_ok e.reply then 1 else 0

-- the version that an entry's command read
abbrev pub seen_by : Entry → ℕ
seen_by e = e.place - step_of e

-- the version that an entry made, out of a list of them
abbrev pub made_by : List DocTree → Entry → Option DocTree
made_by trees e = if is_ok e.reply then Some (tree_at trees e.place) else None

-- an entry is the client's next one, against these versions
pub record Stands (l : Limits) (trees : List DocTree) (m : Account) (e : Entry) : Type 0 where
  -- otherwise a `full` at a version that never was would stand, and no merged list be legal
  pub known : e.place < length trees
  pub numbered : e.number ≡ m.answered + 1
  -- no place falls, and that of a new version is above all before it
  pub rises : m.last + step_of e ≤ e.place
  pub says : Says (answer_for l trees (seen_by e) m e) e
  pub made : (answer_for l trees (seen_by e) m e).made ≡ made_by trees e

-- a log, or the rest of one, against these versions
abbrev pub Follows : Limits → List DocTree → Account → List Entry → Type 0
Follows l trees m [] = Unit {0}
Follows l trees m (e ∷ es) =
    Stands l trees m e × Follows l trees (left m (answer_for l trees (seen_by e) m e)) es

-- what the client has after a log
abbrev pub account_after : Limits → List DocTree → Account → List Entry → Account
account_after l trees m [] = m
account_after l trees m (e ∷ es) =
    account_after l trees (left m (answer_for l trees (seen_by e) m e)) es
