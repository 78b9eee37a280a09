-- What a client holds while it works on a command: nodes and versions; and what the calls leave
-- that make nodes, and those that give back.
-- Source: this project's.
use Rattle.std.specs.Prelude.{ℕ, ◌≡◌, ◌≤◌, ◌+◌, ◌==◌, Bool, false, Option, Some, None}
use Rattle.client_history.specs.declared.places.TheConstants.{EDIT_ROOM, EDIT_SPARE}
use Rattle.version_rule.specs.declared.held.HeldVersion.{HeldVersion}
use Rattle.client_history.specs.State.{ClientState, Lasts}
use Rattle.doc_tree.specs.Tree.{DocTree}
use Rattle.version_rule.specs.Pass.{commit_numbers}

pub record Handles (At : Type 0) : Type 1 where
  -- a node stands there, and this is its tree
  pub is_node : At → Type 0
  pub tree : At → DocTree
  -- the version is held, and this is its tree
  pub is_version : HeldVersion → Type 0
  pub root : HeldVersion → DocTree

-- whatever is held is held still, and is what it was
pub record Still {At : Type 0} (old new : Handles At) : Type 0 where
  pub nodes : (a : At) → old.is_node a → new.is_node a
  pub trees : (a : At) → old.is_node a → new.tree a ≡ old.tree a
  pub versions : (v : HeldVersion) → old.is_version v → new.is_version v
  pub roots : (v : HeldVersion) → old.is_version v → new.root v ≡ old.root v

-- A call that edits a tree, and takes so many places besides those of one edit and of its records.
-- It makes no version and no draft.
pub record Edits (places : ℕ) (old new : ClientState) : Type 0 where
  pub lasts : Lasts old new
  pub pass : new.pass ≡ old.pass
  pub draft : new.draft ≡ old.draft
  pub base : new.base ≡ old.base
  pub room : old.room ≤ new.room + (places + EDIT_ROOM)
  pub spare : old.spare ≤ new.spare + EDIT_SPARE

-- A call that gives back: as `Rests 0`, but that more private records may have room.
pub record GivesBack (old new : ClientState) : Type 0 where
  pub lasts : Lasts old new
  pub claims : new.claims ≡ old.claims
  pub commits : commit_numbers new.pass ≡ commit_numbers old.pass
  pub draft : new.draft ≡ old.draft
  pub base : new.base ≡ old.base
  pub room : old.room ≤ new.room
  pub spare : old.spare ≤ new.spare

-- both are there, and are one cell
abbrev pub is_one : Option ℕ → Option ℕ → Bool
is_one None other = false
is_one (Some cell) None = false
is_one (Some cell) (Some other) = cell == other
