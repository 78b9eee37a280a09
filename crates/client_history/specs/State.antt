-- What a client's heap shows of itself, in plain values, and what its calls leave of that.
-- Source: this project's.
use Rattle.client_history.specs.declared.places.TheConstants.{READY_ROOM}
use Rattle.std.specs.Prelude.{ℕ, ◌≡◌, ◌≤◌, ◌+◌, List, max}
use Rattle.cell_words.specs.Term.{Term}
use Rattle.trails.specs.Asks.{Grown}
use Rattle.trails.specs.Marks.{Mark}
use Rattle.version_rule.specs.Fits.{Grows}
use Rattle.version_rule.specs.Pass.{Pass, commit_numbers}

pub record ClientState : Type 0 where
  -- how many cells the heap has
  pub cells : ℕ
  pub pass : Pass
  pub marks : List Mark
  pub claims : ℕ
  -- the term of the client's draft; `tree_of` gives its tree
  pub draft : Term
  -- the places of the held list that stay between commands
  pub base : ℕ
  -- all places that it has
  pub held : ℕ
  -- the free places of the held list beyond one for each private record
  pub room : ℕ
  -- how many private records there is room for
  pub spare : ℕ

-- what holds across every call: what the pass says of the versions stays so, the trail grew at its
-- end, and no claim was taken back
pub record Lasts (old new : ClientState) : Type 0 where
  pub cells : new.cells ≡ old.cells
  pub passes : Grows old.pass new.pass
  pub grown : Grown old.marks new.marks
  pub claims : old.claims ≤ new.claims

-- A call that makes neither a version nor a draft, and claims no cell. So many places of the room
-- may be gone.
pub record Rests (places : ℕ) (old new : ClientState) : Type 0 where
  pub lasts : Lasts old new
  pub claims : new.claims ≡ old.claims
  pub commits : commit_numbers new.pass ≡ commit_numbers old.pass
  pub draft : new.draft ≡ old.draft
  pub base : new.base ≡ old.base
  pub room : old.room ≤ new.room + places
  pub spare : new.spare ≡ old.spare

-- What every reading leaves: no cell was claimed, as many places stay, and there is room for no
-- fewer private records. There may be room for more, since a turn gives back at both ends what is
-- not the draft's.
pub record OnlyReads (old new : ClientState) : Type 0 where
  pub claims : new.claims ≡ old.claims
  pub base : new.base ≡ old.base
  pub spare : old.spare ≤ new.spare

-- between commands there is room for every reading
abbrev pub IsReady : ClientState → Type 0
IsReady s = READY_ROOM ≤ s.room

-- and no place is held but those that stay
abbrev pub IsSettled : ClientState → Type 0
IsSettled s = s.held ≡ s.base

-- no more places stay than before, or than the anchor's and one
abbrev pub StaysSmall : ClientState → ClientState → Type 0
StaysSmall old new = new.base ≤ max old.base 2
