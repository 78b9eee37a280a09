-- What each event needs, a named field for each condition: what its test in the event table says
-- (proofs/Conditions).
--
-- A mutator knows most of it from its own part. What it reads in words that others write stands
-- last, after a comment: that its target is a box, or raw, that a cell which it names is sealed,
-- that a field has no cell.
-- Source: this project's.
use Rattle.std.specs.Prelude.{ℕ, ◌≡◌, ◌+◌, ◌<◌, ◌≤◌, true, false, length, is_none, Some}
use Rattle.cell_words.specs.declared.controls.Stage.TheVariants as stage
use Rattle.cell_words.specs.declared.fields.Field.{Field}
use Rattle.core_machine.specs.declared.progress.Scanning.{Scanning}
use Rattle.core_machine.specs.declared.progress.Sweeping.TheVariants as sweeping
use Rattle.core_machine.specs.Mutation.{names_own}
use Rattle.core_machine.specs.Operations.{is_in, has_mode, has_pending, own_barrier}
use Rattle.core_machine.specs.Operations.{own_lets_store, next_own_status, third_answer_can}
use Rattle.core_machine.specs.Places.{marks_stand}
use Rattle.core_machine.specs.State.{State, greatest_cycles, colour_of, field_of, held_of, own_of}
use Rattle.core_machine.specs.State.{presence_of, room_of, target_of, is_box, is_raw, is_raw_value}
use Rattle.core_machine.specs.State.{begun_of, has_answered, all_answered}
use Rattle.core_machine.specs.Words.{is_cell, is_gray, is_handshake, marks_some, requests}

-- Of a mutator.

-- Begin and Over
pub record CanComeIn (s : State) (i : ℕ) : Type 0 where
  pub out : (presence_of s i).inside ≡ false
  pub not_over : (presence_of s i).over ≡ false

pub record CanLook (s : State) (i : ℕ) : Type 0 where
  pub inside : is_in s i ≡ true
  pub nothing_pending : has_pending s i ≡ false

pub record CanRead (s : State) (i place f : ℕ) : Type 0 where
  pub inside : is_in s i ≡ true
  pub there : place < length (held_of s i)
  pub payload : f ≤ 4
  pub room : length (held_of s i) < room_of s i

pub record CanFetch (s : State) (i place f : ℕ) : Type 0 where
  pub inside : is_in s i ≡ true
  pub nothing_pending : has_pending s i ≡ false
  pub lets : own_lets_store s i ≡ true
  pub there : place < length (held_of s i)
  pub payload : f ≤ 4
  pub room : length (held_of s i) < room_of s i
  -- of a word that others may write
  pub box : is_box s (target_of s i place) ≡ true

pub record CanMark (s : State) (i place : ℕ) : Type 0 where
  pub inside : is_in s i ≡ true
  pub there : place < length (held_of s i)
  pub barrier : marks_some (own_barrier s i) ≡ true

pub record CanWrite (s : State) (i place f : ℕ) (old new : Field) : Type 0 where
  pub inside : is_in s i ≡ true
  pub mode : has_mode s i ≡ true
  pub nothing_pending : has_pending s i ≡ false
  pub there : place < length (held_of s i)
  pub payload : f ≤ 4
  pub names_old : names_own s i old ≡ true
  pub names_new : names_own s i new ≡ true
  pub marks : marks_stand (own_barrier s i) (held_of s i) old new ≡ true
  -- of words that others may write
  pub box : is_box s (target_of s i place) ≡ true
  pub sealed : is_raw_value s new ≡ false

pub record CanStore (s : State) (i : ℕ) (new : Field) : Type 0 where
  pub inside : is_in s i ≡ true
  pub begun : has_pending s i ≡ true
  pub names : names_own s i new ≡ true
  pub marks : marks_stand (own_barrier s i) (held_of s i) (begun_of s i).found new ≡ true
  -- of a word that others may write
  pub sealed : is_raw_value s new ≡ false

pub record CanClaim (s : State) (i c : ℕ) : Type 0 where
  pub inside : is_in s i ≡ true
  pub mode : has_mode s i ≡ true
  pub nothing_pending : has_pending s i ≡ false
  pub cell : c < s.cells
  pub room : length (held_of s i) < room_of s i

pub record CanFill (s : State) (i place f : ℕ) (value : Field) : Type 0 where
  pub inside : is_in s i ≡ true
  pub there : place < length (held_of s i)
  pub payload : f ≤ 4
  pub names : names_own s i value ≡ true
  -- of words that others may write
  pub raw : is_raw s (target_of s i place) ≡ true
  pub sealed : is_raw_value s value ≡ false
  pub clear : is_cell (field_of s (target_of s i place) f) ≡ false

pub record CanSeal (s : State) (i place : ℕ) : Type 0 where
  pub inside : is_in s i ≡ true
  pub there : place < length (held_of s i)
  -- of a word that others may write
  pub raw : is_raw s (target_of s i place) ≡ true

pub record CanAnswer (s : State) (i : ℕ) : Type 0 where
  pub inside : is_in s i ≡ true
  pub nothing_pending : has_pending s i ≡ false
  pub requested : requests (own_of s i).mode (next_own_status s i) ≡ true
  pub third : third_answer_can s i ≡ true

pub record CanKeep (s : State) (i count from copies : ℕ) : Type 0 where
  pub inside : is_in s i ≡ true
  pub nothing_pending : has_pending s i ≡ false
  pub some : 1 ≤ count
  pub kept : count ≤ length (held_of s i)
  pub copied : from + copies ≤ length (held_of s i)
  pub room : count + copies ≤ room_of s i

-- Of the collector.

pub record CanPostIdle (s : State) : Type 0 where
  pub now : s.control.stage ≡ stage.Sweep
  pub end : s.control.position ≡ s.cells

pub record CanPostSync1 (s : State) : Type 0 where
  pub now : s.control.stage ≡ stage.Idle
  pub cycles : s.control.cycles < greatest_cycles

pub record CanPostClear (s : State) : Type 0 where
  pub now : s.control.stage ≡ stage.Sync1
  pub answered : all_answered s ≡ true

pub record CanPostSync2 (s : State) : Type 0 where
  pub now : s.control.stage ≡ stage.Clear
  pub end : s.collector.cursor ≡ s.cells

pub record CanPostTrace (s : State) : Type 0 where
  pub now : s.control.stage ≡ stage.Sync2
  pub answered : all_answered s ≡ true
  pub anchor : s.collector.anchor_marked ≡ true

pub record CanPostSweep (s : State) : Type 0 where
  pub now : s.control.stage ≡ stage.Trace
  pub answered : all_answered s ≡ true
  pub no_scan : is_none s.collector.scan ≡ true
  pub end : s.collector.cursor ≡ s.cells
  pub clean : s.collector.clean ≡ true

pub record CanPoll (s : State) (i : ℕ) : Type 0 where
  pub handshake : is_handshake s.control.stage ≡ true
  pub mutator : i < s.mutators

pub record CanAnswerOut (s : State) (i : ℕ) : Type 0 where
  pub handshake : is_handshake s.control.stage ≡ true
  pub mutator : i < s.mutators
  pub unanswered : has_answered s i ≡ false

pub record CanClear (s : State) : Type 0 where
  pub now : s.control.stage ≡ stage.Clear
  pub cell : s.collector.cursor < s.cells

pub record CanMarkAnchor (s : State) : Type 0 where
  pub now : s.control.stage ≡ stage.Sync2
  pub answered : all_answered s ≡ true

pub record CanSee (s : State) (c : ℕ) : Type 0 where
  pub now : s.control.stage ≡ stage.Trace
  pub answered : all_answered s ≡ true
  pub no_scan : is_none s.collector.scan ≡ true
  pub cell : c < s.cells

-- with the scan that goes on
pub record CanScan (s : State) (scan : Scanning) : Type 0 where
  pub now : s.collector.scan ≡ Some scan
  pub field : scan.next < 5
  pub no_child : is_none scan.child ≡ true

pub record CanShade (s : State) (scan : Scanning) (child : ℕ) : Type 0 where
  pub now : s.collector.scan ≡ Some scan
  pub found : scan.child ≡ Some child

pub record CanBlacken (s : State) (scan : Scanning) : Type 0 where
  pub now : s.collector.scan ≡ Some scan
  pub end : scan.next ≡ 5

pub record CanSweepLook (s : State) : Type 0 where
  pub now : s.control.stage ≡ stage.Sweep
  pub cell : s.control.position < s.cells
  pub fresh : s.collector.sweep ≡ sweeping.Fresh
  -- of a word that others may write
  pub not_gray : is_gray (colour_of s s.control.position) ≡ false

pub record CanAdvance (s : State) : Type 0 where
  pub now : s.control.stage ≡ stage.Sweep
  pub cell : s.control.position < s.cells
  pub done : s.collector.sweep ≡ sweeping.Done
