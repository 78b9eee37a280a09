-- Logs that agree on one list of versions, and what is then so of them merged.
-- Source: this project's.
use Rattle.std.specs.Prelude.{◌≡◌, ℕ, zero, suc, ◌+◌, List, [], ◌∷◌, length, map, filter}
use Rattle.std.specs.Prelude.{IsPermutation, All}
use Rattle.doc_model.specs.declared.command.Entry.{Entry}
use Rattle.doc_tree.specs.Tree.{DocTree, empty}
use Rattle.doc_model.specs.Answers.{Limits, is_ok, opening_account}
use Rattle.doc_model.specs.ClientLog.{ClientLog}
use Rattle.doc_model.specs.Store.{opening, tree_at}
use Rattle.doc_model.specs.History.{IsLegal, Follows, after_all}
use Rattle.doc_model.specs.Merge.{KeepsOrder, all_entries}

-- so many numbers one after another, the first of which comes after this one
abbrev pub rising : ℕ → ℕ → List ℕ
rising i zero = []
rising i (suc k) = (i + 1) ∷ rising (i + 1) k

-- the numbers are those from 1 on, each once, in any order
abbrev pub EachOnce : List ℕ → Type 0
EachOnce ns = IsPermutation (rising 0 (length ns)) ns

-- the places of the entries that made a version
abbrev pub ok_places : List Entry → List ℕ
ok_places es = map (λ e. e.place) (filter (λ e. is_ok e.reply) es)

-- The logs of all clients, and the versions that they made together, the empty tree first: every
-- version was made by one entry, and each log follows from what it read of them.
pub record Agree (l : Limits) (trees : List DocTree) (logs : List ClientLog) : Type 0 where
  pub clients : map (λ g. g.client) logs ≡ rising 0 (length logs)
  pub own : All (λ g. All (λ e. e.client ≡ g.client) g.entries) logs
  pub opens : tree_at trees 0 ≡ empty
  pub made : length trees ≡ length (ok_places (all_entries logs)) + 1
  pub once : EachOnce (ok_places (all_entries logs))
  pub follows : All (λ g. Follows l trees opening_account g.entries) logs

-- The merged list is a history of one store, it has each client's entries once and in order, and
-- the versions of that store are those on which the logs agree.
abbrev pub MergedIsLegal : Limits → List DocTree → List ClientLog → List Entry → Type 0
MergedIsLegal l trees logs merged =
    KeepsOrder logs merged × IsLegal (opening (length logs) l) merged
    × ((after_all (opening (length logs) l) merged).trees ≡ trees)
