-- How far a command is: what its calls so far have read, made and left.
-- Source: this project's.
use Rattle.std.specs.Prelude.{ℕ, ◌≡◌, ◌≤◌, ◌<◌, ◌+◌, ◌++◌, Bool, true, false, List, [], ◌∷◌}
use Rattle.std.specs.Prelude.{Result, Ok, Err}
use Rattle.doc_model.specs.Store.{tree_at}
use Rattle.doc_model.specs.declared.answer.Account.{Account}
use Rattle.doc_records.specs.Trees.{tree_of}
use Rattle.doc_tree.specs.Tree.{DocTree}
use Rattle.doc_tree.specs.declared.edit.EditFault.{EditFault}
use Rattle.doc_tree.specs.declared.edit.EditFault.TheVariants as fault
use Rattle.trails.specs.Asks.{Ask, Shows}
use Rattle.version_rule.specs.Fits.{Fits}
use Rattle.version_rule.specs.Pass.{Pass, commit_numbers}
use Rattle.version_rule.specs.Shows.{version_asks}
use Rattle.client_history.specs.State.{ClientState, Lasts, StaysSmall}

-- the account is that of the client in this state
pub record IsAccount (m : Account) (s : ClientState) : Type 0 where
  pub draft : m.draft ≡ tree_of s.draft
  pub last : m.last ≤ s.pass.seen

-- neither a version nor a draft was made
pub record MakesNone (s t : ClientState) : Type 0 where
  pub lasts : Lasts s t
  pub commits : commit_numbers t.pass ≡ commit_numbers s.pass
  pub draft : t.draft ≡ s.draft
  pub small : StaysSmall s t

-- in each list of versions that the pass allows the version with this number has this tree
abbrev pub KnowsTree : Pass → ℕ → DocTree → Type 0
KnowsTree p number tree = (trees : List DocTree) → Fits trees p → tree_at trees number ≡ tree

-- The client saw that this version was the latest, and further reads gave what these ask for.
pub record HasRead (v : ℕ) (asks : List Ask) (s t : ClientState) : Type 0 where
  pub none : MakesNone s t
  pub cell : ℕ
  pub shows : Shows (version_asks cell v ++ asks) s.marks t.marks
  pub not_below : s.pass.seen ≤ v
  pub seen : v ≤ t.pass.seen

-- The draft is another tree, and no version was made.
pub record Drafts (tree : DocTree) (s t : ClientState) : Type 0 where
  pub lasts : Lasts s t
  pub commits : commit_numbers t.pass ≡ commit_numbers s.pass
  pub draft : tree_of t.draft ≡ tree

-- The version after this one was made, with this tree.
pub record Made (v : ℕ) (tree : DocTree) (s t : ClientState) : Type 0 where
  pub lasts : Lasts s t
  pub commits : commit_numbers t.pass ≡ commit_numbers s.pass ++ (v + 1) ∷ []
  pub seen : v + 1 ≤ t.pass.seen
  pub tree_is : KnowsTree t.pass (v + 1) tree
  pub rose : s.claims < t.claims
  pub draft : t.draft ≡ s.draft
  pub small : StaysSmall s t

-- an edit ran out of memory, which no edit of a tree does by its definition
abbrev pub runs_out : Result DocTree EditFault → Bool
runs_out (Ok tree) = false
runs_out (Err fault.Absent) = false
runs_out (Err fault.Many) = false
runs_out (Err fault.Deep) = false
runs_out (Err fault.Big) = false
runs_out (Err fault.NoMemory) = true
