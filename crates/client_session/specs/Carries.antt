-- What a lost turn made, carried over to a newer version.
-- Source: this project's.
use Rattle.std.specs.Prelude.{ℕ, ◌≡◌, ◌≤◌, ◌<◌, List, Option, Some, None, Result, Ok, take, false}
use Rattle.std.specs.Borrow.{Bor}
use Rattle.client_history.specs.declared.places.TheConstants.{EDIT_SPARE, MADE_ROOM, SETTLED_ROOM}
use Rattle.client_session.specs.Handles.{Handles, Still}
use Rattle.client_session.specs.Turns.{Answered, MayTurn, Opens, account_of, bounds}
use Rattle.client_session.specs.declared.given.Along.{Along}
use Rattle.client_session.specs.declared.given.Edited.{Edited}
use Rattle.client_session.specs.declared.given.Opened.{Opened}
use Rattle.client_session.specs.declared.given.Tried.{Tried}
use Rattle.client_session.specs.declared.given.Tried.TheVariants as tried
use Rattle.client_session.specs.declared.journal.Journal.{Journal}
use Rattle.client_history.specs.Progress.{MakesNone, runs_out}
use Rattle.client_history.specs.State.{ClientState, IsReady}
use Rattle.client_history.specs.Turns.{Begun}
use Rattle.doc_model.specs.Answers.{committed, full_place}
use Rattle.doc_model.specs.Store.{answer, tree_at}
use Rattle.doc_model.specs.declared.command.Command.{Command}
use Rattle.doc_model.specs.declared.command.Command.TheVariants as command
use Rattle.doc_tree.specs.Edits.{attach, delete}
use Rattle.doc_tree.specs.Grafts.{Agree}
use Rattle.doc_tree.specs.Tree.{DocTree, node}
use Rattle.doc_tree.specs.declared.edit.EditFault.{EditFault}

-- both trees have one child at the first name of what is copied, if anything is
abbrev pub SourceAgrees : Option (Bor (List (List ℕ))) → DocTree → DocTree → Type 0
SourceAgrees None r s = Unit {0}
SourceAgrees (Some source) r s = Agree source.now r s

-- What the edit makes of one tree it makes of another, with the child that it made at its path's
-- first name put into that: where both have one child there, and one of what is copied.
abbrev pub IsCarried : Along → (DocTree → Result DocTree EditFault) → Type 0
IsCarried along f = (r s e d t : DocTree) → f r ≡ Ok e → Agree along.path.now r s
    → SourceAgrees along.source r s → node (take 1 along.path.now) e ≡ Some d
    → attach (take 1 along.path.now) d s ≡ Ok t → f s ≡ Ok t

-- A command answers with what the edit makes of the latest tree.
pub record IsEdit (j : Journal) (c : Command) (f : DocTree → Result DocTree EditFault)
    (along : Along) (b : ClientState) : Type 0 where
  pub carried : IsCarried along f
  pub spared : (d : DocTree) → runs_out (f d) ≡ false
  pub answers : (v : ℕ) (trees : List DocTree)
      → answer (bounds j.limits) trees v (account_of j b) c
      ≡ committed (bounds j.limits) v (f (tree_at trees v))
  pub needs : (v : ℕ) → full_place v (account_of j b) c ≡ Some v

module _ {At : Type 0} where
  -- The newer root has the child that the root had, and the made root's was put into it.
  pub record Grafts (first : List (List ℕ)) (h k : Handles At) (root made newer at : At)
      : Type 0 where
    pub same : node first (k.tree newer) ≡ node first (h.tree root)
    pub child : DocTree
    pub child_is : node first (h.tree made) ≡ Some child
    pub attached : attach first child (k.tree newer) ≡ Ok (k.tree at)
    pub node : k.is_node at

  -- The latest version was read, and what was made over the root made of it.
  pub record CarriesOn (along : Along) (s t : ClientState) (h k : Handles At) (root made : At)
      (next : Edited At) : Type 0 where
    pub enough : MADE_ROOM ≤ s.room
    pub spare : EDIT_SPARE ≤ s.spare
    pub middle : ClientState
    pub opens : Opens s middle k next.opened
    pub none : MakesNone middle t
    pub source : SourceAgrees along.source (h.tree root) (k.tree next.opened.root)
    pub grafts : Grafts (take 1 along.path.now) h k root made next.opened.root next.node
    pub room : SETTLED_ROOM ≤ t.room

  -- what an edit made of a version's tree stands, with room to commit it
  pub record Stands (s : ClientState) (h : Handles At) (e : Edited At) : Type 0 where
    pub version : h.is_version e.opened.version
    pub root : h.is_node e.opened.root
    pub node : h.is_node e.node
    pub seen : e.opened.version.number ≤ s.pass.seen
    pub room : SETTLED_ROOM ≤ s.room

  -- what was made stands, and another client was faster
  pub record IsLost (v : ℕ) (s t : ClientState) (h k : Handles At) (at made : At) : Type 0 where
    pub none : MakesNone s t
    pub ready : IsReady t
    pub newer : v < t.pass.seen
    pub still : Still h k
    pub node : k.is_node made
    pub same : k.tree made ≡ h.tree at

  -- how a try to commit a node over a version ended, for each command that made its tree
  abbrev pub Tries : Journal → ℕ → ClientState → ClientState → Handles At → Handles At → At
      → Tried At → Type 0
  Tries j v s t h k at (tried.Answered given) = (c : Command) (b : ClientState)
      → Begun (bounds j.limits) (account_of j b) c v b s (Ok (h.tree at))
      → full_place v (account_of j b) c ≡ Some v → Answered j c b t given
  Tries j v s t h k at (tried.Lost made) = IsLost v s t h k at made

  -- In a turn that began there the command made this of the opened version, or was refused.
  pub record Works (j : Journal) (c : Command) (f : DocTree → Result DocTree EditFault)
      (along : Along) (b s : ClientState) (h : Handles At) (o : Opened At)
      (made : Result DocTree EditFault) : Type 0 where
    pub may : MayTurn j b
    pub edit : IsEdit j c f along b
    pub none : MakesNone b s
    pub begun : Begun (bounds j.limits) (account_of j b) c o.version.number b s made
    pub is : made ≡ f (h.tree o.root)

  abbrev pub Makes : Journal → Command → (DocTree → Result DocTree EditFault) → Along
      → ClientState → ClientState → Handles At → Edited At → Type 0
  Makes j c f along b s h e = Works j c f along b s h e.opened (Ok (h.tree e.node))

  -- and so of a deletion, whatever its path
  abbrev pub Deletes : Journal → List (List ℕ) → ClientState → ClientState → Handles At → Opened At
      → Result DocTree EditFault → Type 0
  Deletes j path b s h o made = MayTurn j b × (MakesNone b s
      × (Begun (bounds j.limits) (account_of j b) (command.Del path) o.version.number b s made
      × (made ≡ delete path (h.tree o.root))))
