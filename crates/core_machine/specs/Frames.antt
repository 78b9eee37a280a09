-- What an event does to each part of a state, and what it leaves alone.
--
-- No event changes the sizes or the rooms. An event of a mutator changes that one's own part and
-- presence, and leaves the others', the control and the collector's part. An event of the collector
-- leaves all own parts, and of the presences it changes the status of a mutator that is out. Of the
-- rows and colours an event changes at most the one in its word.
-- Source: this project's.
use Rattle.std.specs.Prelude.{ℕ, ◌≡◌, true, slice_set, Option, Some, None}
use Rattle.cell_words.specs.declared.colours.Colour.{Colour}
use Rattle.cell_words.specs.declared.fields.Field.{Field}
use Rattle.cell_words.specs.declared.presences.Presence.{Presence}
use Rattle.core_machine.specs.declared.events.Event.{Event}
use Rattle.core_machine.specs.Collector.{collector_after, control_after}
use Rattle.core_machine.specs.Next.{maker, found_by, after}
use Rattle.core_machine.specs.Own.{own_after, presence_after}
use Rattle.core_machine.specs.State.{State, own_of, presence_of, set_field}
use Rattle.core_machine.specs.Table.{Word, TheControl, StatusOf, ColourOf, FieldOf}
use Rattle.core_machine.specs.WordOperations.{word_of}

-- what no event changes
pub record IsAsLarge (s t : State) : Type 0 where
  pub cells : t.cells ≡ s.cells
  pub mutators : t.mutators ≡ s.mutators
  pub rooms : t.rooms ≡ s.rooms

-- What a mutator knows of its presence: the collector may give it another status while it is out.
pub record Knows (mine now : Presence) : Type 0 where
  pub inside : mine.inside ≡ now.inside
  pub over : mine.over ≡ now.over
  pub status : mine.inside ≡ true → mine.status ≡ now.status

-- an event of mutator i
pub record MutatorFrame (s : State) (e : Event) (i : ℕ) : Type 0 where
  pub owns : (after s e).owns ≡ slice_set s.owns i (own_after (own_of s i) e (found_by s e))
  pub presences : (after s e).presences
      ≡ slice_set s.presences i (presence_after (presence_of s i) e (found_by s e))
  pub control : (after s e).control ≡ s.control
  pub collector : (after s e).collector ≡ s.collector

-- an event of the collector
pub record CollectorFrame (s : State) (e : Event) : Type 0 where
  pub owns : (after s e).owns ≡ s.owns
  pub presences : (mine : Presence) (j : ℕ) → Knows mine (presence_of s j)
      → Knows mine (presence_of (after s e) j)
  pub control : (after s e).control ≡ control_after s.control e
  pub collector : (after s e).collector
      ≡ collector_after s.cells s.control s.collector e (found_by s e)

-- by its maker
abbrev pub Frame : State → Event → Option ℕ → Type 0
Frame s e (Some i) = MutatorFrame s e i
Frame s e None = CollectorFrame s e

-- the rows change at most in one field
abbrev pub RowsFrame : State → State → Word → Type 0
RowsFrame s t TheControl = t.rows ≡ s.rows
RowsFrame s t (StatusOf i) = t.rows ≡ s.rows
RowsFrame s t (ColourOf c) = t.rows ≡ s.rows
RowsFrame s t (FieldOf c f) = (x : Field) × (t.rows ≡ set_field s.rows c f x)

-- and the colours at one cell
abbrev pub ColoursFrame : State → State → Word → Type 0
ColoursFrame s t TheControl = t.colours ≡ s.colours
ColoursFrame s t (StatusOf i) = t.colours ≡ s.colours
ColoursFrame s t (ColourOf c) = (x : Colour) × (t.colours ≡ slice_set s.colours c x)
ColoursFrame s t (FieldOf c f) = t.colours ≡ s.colours

-- all of it
pub record IsFramed (s : State) (e : Event) : Type 0 where
  pub sizes : IsAsLarge s (after s e)
  pub parts : Frame s e (maker e)
  pub rows : RowsFrame s (after s e) (word_of s e)
  pub colours : ColoursFrame s (after s e) (word_of s e)
