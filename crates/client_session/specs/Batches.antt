-- A batch: how far its edits came, one after another.
-- Source: this project's.
use Rattle.std.specs.Prelude.{ℕ, ◌≡◌, ◌≤◌, ◌<◌, List, [], Result, Err}
use Rattle.client_history.specs.declared.places.TheConstants.{EDIT_SPARE, NEXT_ROOM}
use Rattle.client_history.specs.declared.places.TheConstants.{READY_ROOM, SETTLED_ROOM}
use Rattle.client_session.specs.Handles.{Handles}
use Rattle.client_session.specs.declared.given.Opened.{Opened}
use Rattle.client_session.specs.declared.given.Worked.{Worked}
use Rattle.client_session.specs.declared.given.Worked.TheVariants as worked
use Rattle.client_history.specs.Progress.{MakesNone}
use Rattle.client_history.specs.State.{ClientState}
use Rattle.doc_model.specs.Answers.{all_made}
use Rattle.doc_model.specs.declared.edits.Edit.{Edit}
use Rattle.doc_records.specs.Trees.{tree_of}
use Rattle.doc_tree.specs.Tree.{DocTree}
use Rattle.doc_tree.specs.declared.edit.EditFault.{EditFault}
use Rattle.trails.specs.Claims.{IsFull}
use Rattle.trails.specs.Stretches.{Had}

-- With room for one more edit the tree in the making is at the next root, over the same version.
pub record Moves {At : Type 0} (t : ClientState) (before behind : Handles At)
    (o next : Opened At) : Type 0 where
  pub number : next.version.number ≡ o.version.number
  pub version : behind.is_version next.version
  pub node : behind.is_node next.root
  pub same : behind.tree next.root ≡ before.tree o.root
  pub room : NEXT_ROOM ≤ t.room
  pub spare : EDIT_SPARE ≤ t.spare

-- Over the version with this number a tree was made of which the edits that are left make what is
-- wanted.
pub record IsWorking {At : Type 0} (s t : ClientState) (h : Handles At) (v : ℕ)
    (wanted : Result DocTree EditFault) (left : List Edit) (o : Opened At) : Type 0 where
  pub none : MakesNone s t
  pub number : o.version.number ≡ v
  pub version : h.is_version o.version
  pub node : h.is_node o.root
  pub is : all_made (tree_of s.draft) left (h.tree o.root) ≡ wanted
  pub room : SETTLED_ROOM ≤ t.room

-- the edits made no tree
pub record IsStopped (s t : ClientState) : Type 0 where
  pub none : MakesNone s t
  pub ready : READY_ROOM ≤ t.room

-- how far the edits came over the version with this number, where they are to make what is wanted
abbrev pub Works : {At : Type 0} → ClientState → ClientState → Handles At → ℕ
    → Result DocTree EditFault → Worked At → Type 0
Works s t h v wanted (worked.Made o) = IsWorking s t h v wanted [] o
Works s t h v wanted (worked.Refused fault) = IsStopped s t × (wanted ≡ Err fault)
Works s t h v wanted worked.Outrun = IsStopped s t × (v < t.pass.seen)
Works s t h v wanted worked.Full = IsStopped s t × Had (IsFull s.cells) s.marks t.marks
