-- How a command ends: with an answer, or without one where another client was faster.
-- Source: this project's.
use Rattle.std.specs.Prelude.{ℕ, ◌≡◌, ◌≤◌, ◌<◌, ◌+◌, ◌++◌, Bool, true, false, List, [], ◌∷◌, length}
use Rattle.std.specs.Prelude.{Option, Result, unwrap_or}
use Rattle.doc_model.specs.Agreement.{ok_places}
use Rattle.doc_model.specs.Answers.{Limits, committed, is_ok}
use Rattle.doc_model.specs.ClientLog.{ClientLog}
use Rattle.doc_model.specs.Growth.{KeepsUp}
use Rattle.doc_model.specs.History.{made_by, seen_by, step_of}
use Rattle.doc_model.specs.Store.{answer, answer_for}
use Rattle.doc_model.specs.declared.answer.Account.{Account}
use Rattle.doc_model.specs.declared.command.Command.{Command}
use Rattle.doc_model.specs.declared.command.Entry.{Entry}
use Rattle.doc_model.specs.declared.command.Reply.{Reply}
use Rattle.doc_records.specs.Trees.{tree_of}
use Rattle.doc_tree.specs.Tree.{DocTree}
use Rattle.doc_tree.specs.declared.edit.EditFault.{EditFault}
use Rattle.std.specs.Prelude.{All}
use Rattle.trails.specs.Stretches.{Had, InTurn}
use Rattle.version_rule.specs.Fits.{Fits}
use Rattle.version_rule.specs.Pass.{Pass, commit_numbers}
use Rattle.client_history.specs.Demands.{Demand, may_hold_more}
use Rattle.client_history.specs.Progress.{HasRead, IsAccount, runs_out}
use Rattle.client_history.specs.State.{ClientState, IsReady, Lasts, StaysSmall}

-- the entry of a client with this account
abbrev pub entry_for : ℕ → Account → Command → Reply → ℕ → Entry
entry_for client m c reply place = record {
  client = client;
  number = m.answered + 1;
  command = c;
  reply = reply;
  place = place;
}

-- the account of a client in this state, after its last place and so many answers
abbrev pub account_in : ClientState → ℕ → ℕ → Account
account_in s last answered = record { draft = tree_of s.draft; last = last; answered = answered }

-- The reply and the place are the answer of the command, over every list of versions that the pass
-- allows.
pub record Answers (l : Limits) (p : Pass) (client : ℕ) (m : Account) (c : Command) (reply : Reply)
    (place : ℕ) (draft : DocTree) : Type 0 where
  pub made : Option DocTree
  pub drafted : Option DocTree
  pub rises : m.last + step_of (entry_for client m c reply place) ≤ place
  pub seen : place ≤ p.seen
  pub is : (trees : List DocTree) → Fits trees p
      → answer_for l trees (seen_by (entry_for client m c reply place)) m
      (entry_for client m c reply place)
      ≡ record { reply = reply; place = place; made = made; draft = drafted }
  pub made_is : (trees : List DocTree) → Fits trees p
      → made ≡ made_by trees (entry_for client m c reply place)
  pub left : draft ≡ unwrap_or drafted m.draft

-- the numbers of the versions that the reply made
abbrev pub new_numbers : Bool → ℕ → List ℕ
new_numbers true place = place ∷ []
new_numbers false place = []

-- A command of the client was answered.
pub record Turned (l : Limits) (client : ℕ) (m : Account) (c : Command) (s t : ClientState)
    (reply : Reply) (place : ℕ) : Type 0 where
  pub lasts : Lasts s t
  pub ready : IsReady t
  pub commits : commit_numbers t.pass ≡ commit_numbers s.pass ++ new_numbers (is_ok reply) place
  pub answers : Answers l t.pass client m c reply place (tree_of t.draft)
  pub meets : Had (Demand s.cells (entry_for client m c reply place)) s.marks t.marks
  pub rose : is_ok reply ≡ true → s.claims < t.claims
  pub trimmed : is_ok reply ≡ true → l.keep ≤ place → place + 1 ≤ t.pass.cut + l.keep
  pub small : may_hold_more c ≡ false → StaysSmall s t

-- It was not, and all is as before but for what the client saw.
pub record Lost (s t : ClientState) : Type 0 where
  pub lasts : Lasts s t
  pub ready : IsReady t
  pub commits : commit_numbers t.pass ≡ commit_numbers s.pass
  pub draft : t.draft ≡ s.draft
  pub small : StaysSmall s t

-- A command that edits the latest version has read it and made its tree, or why there is none.
pub record Begun (l : Limits) (m : Account) (c : Command) (v : ℕ) (s t : ClientState)
    (edited : Result DocTree EditFault) : Type 0 where
  pub account : IsAccount m s
  pub read : HasRead v [] s t
  pub spared : runs_out edited ≡ false
  pub is : (trees : List DocTree) → Fits trees t.pass → answer l trees v m c ≡ committed l v edited

-- The log of a client is in step with its pass and its trail.
pub record IsInStep (l : Limits) (s : ClientState) (last : ℕ) (log : ClientLog) : Type 0 where
  pub keep : s.pass.keep ≡ l.keep
  pub own : All (λ (e : Entry). e.client ≡ log.client) log.entries
  pub commits : ok_places log.entries ≡ commit_numbers s.pass
  pub seen : last ≤ s.pass.seen
  pub keeps_up : KeepsUp l (λ trees. Fits trees s.pass)
      (account_in s last (length log.entries)) log.entries
  pub turns : InTurn (Demand s.cells) log.entries s.marks
  pub claims : length (ok_places log.entries) ≤ s.claims
  -- each new version's turn cut the links so far that as many as stay are left
  pub trimmed : All (λ (made : ℕ). made + 1 ≤ s.pass.cut + l.keep) (ok_places log.entries)
