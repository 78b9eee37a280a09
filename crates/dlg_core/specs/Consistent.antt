-- The invariant of the core: what holds in every state of every run, besides the ranges that the
-- machine asks for. Each field is a fact under the name that docs/ALGORITHM.md uses.
--
-- Each fact takes the parts of the state that it reads, so an event that leaves these leaves the
-- fact.
-- Source: this project's, after the facts that Doligez and Gonthier, POPL 1994, argue from.
use Rattle.std.specs.Prelude.{ℕ, ◌≡◌, ◌≢◌, ◌<◌, ◌≤◌, Bool, true, false, List, [], slice_index_or}
use Rattle.std.specs.Prelude.{Option, Some, None}
use Rattle.std.specs.List.{All}
use Rattle.cell_words.specs.Modes.{requested_of}
use Rattle.cell_words.specs.declared.colours.Colour.{Colour}
use Rattle.cell_words.specs.declared.colours.Colour.TheVariants.{Blue, White, Gray, Black}
use Rattle.cell_words.specs.declared.controls.Control.{Control}
use Rattle.cell_words.specs.declared.controls.Stage.{Stage}
use Rattle.cell_words.specs.declared.controls.Stage.TheVariants as stage
use Rattle.cell_words.specs.declared.fields.Field.{Field}
use Rattle.cell_words.specs.declared.fields.Field.TheVariants.{Null, Cell}
use Rattle.cell_words.specs.declared.presences.Presence.{Presence}
use Rattle.cell_words.specs.declared.presences.Status.TheVariants.{Async, Sync2}
use Rattle.core_machine.specs.declared.places.Held.{Held}
use Rattle.core_machine.specs.declared.progress.Scanning.{Scanning}
use Rattle.core_machine.specs.declared.progress.Sweeping.{Sweeping}
use Rattle.core_machine.specs.declared.progress.Sweeping.TheVariants.{Wiping, BlackFound}
use Rattle.core_machine.specs.State.{State, colour_in, field_in, presence_in, own_in}
use Rattle.core_machine.specs.Words.{is_handshake, is_raw_kind, is_box_kind}
use Rattle.core_machine.specs.Own.{Own}
use Rattle.core_machine.specs.Places.{holds}
use Rattle.dlg_core.specs.Doubt.{IsDoubtful, Pendings}
use Rattle.dlg_core.specs.Facts.{status_fits, IsStaleMode, marks_count, is_kind_field, unswept}
use Rattle.dlg_core.specs.Facts.{live, is_cleared, anchor_counts, all_in, child_in, scanned_count}
use Rattle.dlg_core.specs.Facts.{is_open}

-- Handshakes and mutators.

-- each mutator has the requested status or, while a handshake goes on, the one before it
abbrev pub Statuses : ℕ → Stage → List Presence → Type 0
Statuses mutators now presences =
    (i : ℕ) → i < mutators → status_fits now (presence_in presences i).status ≡ true

-- who has answered this handshake has the requested status
abbrev pub Answered : ℕ → Stage → List Presence → List Bool → Type 0
Answered mutators now presences answered =
    (i : ℕ) → i < mutators → is_handshake now ≡ true → slice_index_or answered i true ≡ true
    → (presence_in presences i).status ≡ requested_of now

-- a mode was looked at after the mutator's last answer, and is not ahead of the control
abbrev pub Modes : Control → List Presence → List Own → Type 0
Modes now presences owns = (i : ℕ)
    → IsStaleMode (presence_in presences i).status (own_in owns i).mode now

-- nothing is held, there is no mode, and no write is pending
abbrev pub HoldsNothing : Own → Type 0
HoldsNothing own = (own.held ≡ []) × (own.mode ≡ None) × (own.pending ≡ None)

-- so it is with who is out
abbrev pub OutHoldsNothing : List Presence → List Own → Type 0
OutHoldsNothing presences owns = (i : ℕ) → (presence_in presences i).inside ≡ false
    → HoldsNothing (own_in owns i)

-- a marked place has no white cell
abbrev pub MarkStands : List Colour → Held → Type 0
MarkStands colours place = place.marked ≡ true → colour_in colours place.cell ≢ White

-- where marks count, they stand
abbrev pub Marks : Stage → List Presence → List Own → List Colour → Type 0
Marks now presences owns colours = (i : ℕ) → marks_count now (presence_in presences i).status ≡ true
    → All (MarkStands colours) (own_in owns i).held

-- Cells.

-- cell 0 is a box
abbrev pub AnchorIsBox : List (List Field) → Type 0
AnchorIsBox rows = is_box_kind (field_in rows 0 5) ≡ true

-- every kind field is null, a record's or a box's
abbrev pub KindsAreKinds : List (List Field) → Type 0
KindsAreKinds rows = (c : ℕ) → is_kind_field (field_in rows c 5) ≡ true

-- a blue cell has null fields
abbrev pub BlueIsNull : List Colour → List (List Field) → Type 0
BlueIsNull colours rows = (c f : ℕ) → colour_in colours c ≡ Blue → field_in rows c f ≡ Null

-- held cells are live, and so are the anchor and the child
abbrev pub HeldAreLive : List Colour → Control → Sweeping → List Own → Type 0
HeldAreLive colours control sweep owns =
    (i : ℕ) → All (λ place. live colours control sweep place.cell ≡ true) (own_in owns i).held

abbrev pub ChildIsLive : List Colour → Control → Sweeping → Option Scanning → Type 0
ChildIsLive colours control sweep scan =
    (c : ℕ) → child_in scan ≡ Some c → live colours control sweep c ≡ true

-- what a live cell names is live and sealed
abbrev pub NamesAreLive : List Colour → Control → Sweeping → List (List Field) → Type 0
NamesAreLive colours control sweep rows =
    (c d f : ℕ) → live colours control sweep c ≡ true → field_in rows c f ≡ Cell d
    → (live colours control sweep d ≡ true) × (is_raw_kind (field_in rows d 5) ≡ false)

-- a raw cell is held by one mutator
abbrev pub RawIsHeldOnce : List (List Field) → List Own → Type 0
RawIsHeldOnce rows owns = (i j c : ℕ) → is_raw_kind (field_in rows c 5) ≡ true
    → holds (own_in owns i).held c ≡ true → holds (own_in owns j).held c ≡ true → i ≡ j

-- a place has no cell that is raw and black
abbrev pub NoRawBlack : List Colour → List (List Field) → Held → Type 0
NoRawBlack colours rows place =
    is_raw_kind (field_in rows place.cell 5) ≡ true → colour_in colours place.cell ≢ Black

-- a mutator in sync2 holds no raw cell that is black
abbrev pub RawIsNotBlack : List Presence → List Own → List Colour → List (List Field) → Type 0
RawIsNotBlack presences owns colours rows = (i : ℕ) → (presence_in presences i).status ≡ Sync2
    → All (NoRawBlack colours rows) (own_in owns i).held

-- Stages of a cycle.

-- no cleared cell is black
abbrev pub ClearedIsNotBlack : Stage → ℕ → List Colour → Type 0
ClearedIsNotBlack now cursor colours = (c : ℕ) → is_cleared now cursor c ≡ true
    → colour_in colours c ≢ Black

-- the anchor is not white once it was marked, until tracing ends
abbrev pub AnchorIsMarked : Stage → Bool → List Colour → Type 0
AnchorIsMarked now marked colours = anchor_counts now marked ≡ true → colour_in colours 0 ≢ White

-- A set of white cells that the collector cannot come to: neither the child nor an open field of a
-- gray cell is in it, and no white cell outside names a cell of it. No way leads over a doubtful
-- field.
pub record IsCutOff (owns : List Own) (colours : List Colour) (rows : List (List Field))
    (scan : Option Scanning) (set : ℕ → Bool) : Type 0 where
  pub white : (c : ℕ) → set c ≡ true → colour_in colours c ≡ White
  pub child : (c : ℕ) → child_in scan ≡ Some c → set c ≡ false
  pub gray : (c d f : ℕ) → colour_in colours c ≡ Gray → is_open scan c f ≡ true → field_in rows c f
      ≡ Cell d
      → ¬ (IsDoubtful owns c f (Cell d)) → set d ≡ false
  pub outside : (c d f : ℕ) → colour_in colours c ≡ White → set c ≡ false → field_in rows c f
      ≡ Cell d
      → ¬ (IsDoubtful owns c f (Cell d)) → set d ≡ false

-- No cell of the set is one that the collector has to come to: a black cell names none, no scanned
-- field of the cell under scan is one, an async mutator holds none, and no doubtful field names
-- one.
pub record IsNotDue (presences : List Presence) (owns : List Own) (colours : List Colour)
    (rows : List (List Field)) (scan : Option Scanning) (set : ℕ → Bool) : Type 0 where
  pub black : (c d f : ℕ) → colour_in colours c ≡ Black → field_in rows c f ≡ Cell d → set d ≡ false
  pub scanned : (x : Scanning) (d f : ℕ) → scan ≡ Some x → f < scanned_count x
      → field_in rows x.cell f ≡ Cell d
      → set d ≡ false
  pub held : (i : ℕ) → (presence_in presences i).status ≡ Async
      → All (λ place. set place.cell ≡ false) (own_in owns i).held
  pub doubtful : (c d f : ℕ) → IsDoubtful owns c f (Cell d) → field_in rows c f ≡ Cell d
      → set d ≡ false

-- while the collector traces, nothing that it has to come to is cut off from it
abbrev pub Traced : Stage → List Presence → List Own → List Colour → List (List Field)
    → Option Scanning → Type 0
Traced now presences owns colours rows scan = now ≡ stage.Trace → (set : ℕ → Bool)
    → IsCutOff owns colours rows scan set → IsNotDue presences owns colours rows scan set

-- in a clean pass, where a cell is gray, one is gray that the pass has still to come to
abbrev pub CleanPass : Stage → Bool → ℕ → List Colour → Type 0
CleanPass now clean cursor colours = now ≡ stage.Trace → clean ≡ true → (c : ℕ)
    → colour_in colours c ≡ Gray
    → (d : ℕ) × (cursor ≤ d) × (colour_in colours d ≡ Gray)

-- no pass begins before all have answered
abbrev pub PassWaits : Stage → List Bool → ℕ → Type 0
PassWaits now answered cursor = now ≡ stage.Trace → all_in answered ≡ false → cursor ≡ 0

-- a scan is of a gray cell, while the collector traces, in a pass that is not clean
pub record IsScan (now : Stage) (answered : List Bool) (clean : Bool) (colours : List Colour)
    (x : Scanning) : Type 0 where
  pub traces : now ≡ stage.Trace
  pub answers : all_in answered ≡ true
  pub gray : colour_in colours x.cell ≡ Gray
  pub unclean : clean ≡ false

abbrev pub Scans : Stage → List Bool → Bool → List Colour → Option Scanning → Type 0
Scans now answered clean colours scan = (x : Scanning) → scan ≡ Some x
    → IsScan now answered clean colours x

-- a cell that is still to be swept is not gray
abbrev pub UnsweptIsNotGray : List Colour → Control → Sweeping → Type 0
UnsweptIsNotGray colours control sweep = (c : ℕ) → unswept control sweep c ≡ true
    → colour_in colours c ≢ Gray

-- the cell that is being wiped is white, and so many of its fields are null
pub record IsWiping (colours : List Colour) (rows : List (List Field))
    (position k : ℕ) : Type 0 where
  pub white : colour_in colours position ≡ White
  pub null : (f : ℕ) → f < k → field_in rows position f ≡ Null

abbrev pub Wipes : List Colour → List (List Field) → ℕ → Sweeping → Type 0
Wipes colours rows position sweep = (k : ℕ) → sweep ≡ Wiping k → IsWiping colours rows position k

-- the cell that was found black is black
abbrev pub FoundIsBlack : List Colour → ℕ → Sweeping → Type 0
FoundIsBlack colours position sweep = sweep ≡ BlackFound → colour_in colours position ≡ Black

-- In groups. Each takes the parts of the state that it reads, so an event that changes none of
-- these keeps the group as it is.

pub record MutatorsConsistent (mutators : ℕ) (control : Control) (presences : List Presence)
    (owns : List Own) (answers : List Bool) (colours : List Colour) : Type 0 where
  pub statuses : Statuses mutators control.stage presences
  pub answered : Answered mutators control.stage presences answers
  pub modes : Modes control presences owns
  pub out : OutHoldsNothing presences owns
  pub marks : Marks control.stage presences owns colours

pub record CellsConsistent (control : Control) (presences : List Presence) (owns : List Own)
    (colours : List Colour) (rows : List (List Field)) (sweep : Sweeping)
    (scan : Option Scanning) : Type 0 where
  pub anchor_box : AnchorIsBox rows
  pub kinds : KindsAreKinds rows
  pub blue_null : BlueIsNull colours rows
  pub anchor_live : live colours control sweep 0 ≡ true
  pub held_live : HeldAreLive colours control sweep owns
  pub child_live : ChildIsLive colours control sweep scan
  pub names_live : NamesAreLive colours control sweep rows
  pub raw_once : RawIsHeldOnce rows owns
  pub raw_not_black : RawIsNotBlack presences owns colours rows
  pub pendings : Pendings presences owns rows

pub record TracingConsistent (now : Stage) (presences : List Presence) (owns : List Own)
    (colours : List Colour) (rows : List (List Field)) (answers : List Bool) (marked : Bool)
    (cursor : ℕ) (clean : Bool) (scan : Option Scanning) : Type 0 where
  pub cleared : ClearedIsNotBlack now cursor colours
  pub anchor_marked : AnchorIsMarked now marked colours
  pub traced : Traced now presences owns colours rows scan
  pub clean_pass : CleanPass now clean cursor colours
  pub pass_waits : PassWaits now answers cursor
  pub scans : Scans now answers clean colours scan

pub record SweepConsistent (control : Control) (colours : List Colour) (rows : List (List Field))
    (sweep : Sweeping) : Type 0 where
  pub unswept : UnsweptIsNotGray colours control sweep
  pub wipes : Wipes colours rows control.position sweep
  pub found_black : FoundIsBlack colours control.position sweep

pub record IsConsistent (s : State) : Type 0 where
  pub mutators : MutatorsConsistent s.mutators s.control s.presences s.owns s.collector.answered
      s.colours
  pub cells : CellsConsistent s.control s.presences s.owns s.colours s.rows s.collector.sweep
      s.collector.scan
  pub tracing : TracingConsistent s.control.stage s.presences s.owns s.colours s.rows
      s.collector.answered s.collector.anchor_marked s.collector.cursor s.collector.clean
      s.collector.scan
  pub sweep : SweepConsistent s.control s.colours s.rows s.collector.sweep
