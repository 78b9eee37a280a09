-- Which word each event of the table touches, by which operation, and what that leaves in the word.
--
-- The operations are those of one processor on one word: a load, a store, a compare and exchange,
-- and the two that set bits and keep bits. Each leaves a function of the number that it finds. So
-- the layer that has the words in memory gives them no meaning of its own: an operation of the
-- processor leaves the same function of the number that it finds.
-- Source: this project's.
use Rattle.std.specs.Prelude.{ℕ, ◌≡◌, ◌==◌, ◌<◌, Bool, true, false, slice_index, slice_set, length}
use Rattle.std.specs.Prelude.{bit_and, bit_or, if◌then◌else◌}
use Rattle.cell_words.specs.Colour.{pack_colour_of}
use Rattle.cell_words.specs.Control.{pack_control_of, IsValidControl}
use Rattle.cell_words.specs.Field.{pack_field_of, IsValidField}
use Rattle.cell_words.specs.Presence.{pack_presence_of, is_valid_presence}
use Rattle.cell_words.specs.Modes.{next_status_of}
use Rattle.cell_words.specs.declared.colours.Colour.{Colour}
use Rattle.cell_words.specs.declared.colours.Colour.TheVariants as colour
use Rattle.cell_words.specs.declared.fields.Field.TheVariants as field
use Rattle.cell_words.specs.declared.presences.Presence.{Presence}
use Rattle.cell_words.specs.declared.presences.Status.{Status}
use Rattle.cell_words.specs.declared.presences.Status.TheVariants as status
use Rattle.core_machine.specs.declared.events.Event.{Event}
use Rattle.core_machine.specs.declared.events.Event.TheVariants as event
use Rattle.core_machine.specs.declared.events.Found.{Found}
use Rattle.core_machine.specs.declared.events.Found.TheVariants as finds
use Rattle.core_machine.specs.Collector.{control_after}
use Rattle.core_machine.specs.Handshakes.{wanted_of}
use Rattle.core_machine.specs.Next.{found_by, after}
use Rattle.core_machine.specs.State.{State, own_of, presence_of, target_of, begun_of}
use Rattle.core_machine.specs.Sweep.{wiped_count}
use Rattle.core_machine.specs.Table.{Word, TheControl, StatusOf, ColourOf, FieldOf, HasWord}
use Rattle.core_machine.specs.Table.{index_of, words_of}
use Rattle.core_machine.specs.Tracing.{scan_of, child_of}
use Rattle.core_machine.specs.Words.{kind_field, born_colour}

-- The word of an event.

abbrev pub word_of : State → Event → Word
word_of s (event.Begin i) = StatusOf i
word_of s (event.Look i) = TheControl
word_of s (event.Read i place f) = FieldOf (target_of s i place) f
word_of s (event.Fetch i place f) = FieldOf (target_of s i place) f
word_of s (event.Mark i place) = ColourOf (target_of s i place)
word_of s (event.Write i place f old new) = FieldOf (target_of s i place) f
word_of s (event.Store i new) = FieldOf (target_of s i (begun_of s i).place) (begun_of s i).f
word_of s (event.Claim i c) = ColourOf c
word_of s (event.Fill i place f value) = FieldOf (target_of s i place) f
word_of s (event.Seal i place kind) = FieldOf (target_of s i place) 5
word_of s (event.Answer i) = StatusOf i
word_of s (event.Keep i count from copies) = StatusOf i
word_of s (event.End i) = StatusOf i
word_of s (event.Over i) = StatusOf i
word_of s (event.Post target) = TheControl
word_of s (event.Duty on) = TheControl
word_of s (event.Poll i) = StatusOf i
word_of s (event.AnswerOut i over) = StatusOf i
word_of s event.ClearCell = ColourOf s.collector.cursor
word_of s event.Anchor = ColourOf 0
word_of s (event.See c) = ColourOf c
word_of s event.Scan = FieldOf (scan_of s).cell (scan_of s).next
word_of s event.Shade = ColourOf (child_of s)
word_of s event.Blacken = ColourOf (scan_of s).cell
word_of s event.SweepLook = ColourOf s.control.position
word_of s event.Wipe = FieldOf s.control.position (wiped_count s.collector.sweep)
word_of s event.Free = ColourOf s.control.position
word_of s event.Whiten = ColourOf s.control.position
word_of s event.Advance = TheControl

-- Operations.

pub data Operation : Type 0 where
  Load : Operation
  Store : (new : ℕ) → Operation
  -- to the new number, where it finds the old one
  Exchange : (old new : ℕ) → Operation
  SetBits : (bits : ℕ) → Operation
  KeepBits : (bits : ℕ) → Operation

-- what it leaves where it finds a number
abbrev pub left_by : Operation → ℕ → ℕ
left_by Load found = found
left_by (Store new) found = new
left_by (Exchange old new) found = if found == old then new else found
left_by (SetBits bits) found = bit_or found bits
left_by (KeepBits bits) found = bit_and found bits

-- The operation of an event.

-- the bits of a status word: who is in, who is over, and all but the former
abbrev pub inside_bit : ℕ
inside_bit = 4

abbrev pub over_bit : ℕ
over_bit = 8

abbrev pub all_but_inside : ℕ
all_but_inside = 11

abbrev pub colour_exchange : Colour → Colour → Operation
colour_exchange old new = Exchange (pack_colour_of old) (pack_colour_of new)

-- the status whose next one is this
abbrev pub status_before : Status → Status
status_before status.Async = status.Sync2
status_before status.Sync1 = status.Async
status_before status.Sync2 = status.Sync1

-- who is out with this status, over or not as given
abbrev pub out_with : Status → Bool → Presence
out_with own over = record { status = own; inside = false; over = over }

abbrev pub answer_out_exchange : Status → Bool → Operation
answer_out_exchange wanted over =
    Exchange (pack_presence_of (out_with (status_before wanted) over))
    (pack_presence_of (out_with wanted over))

-- with the next status
abbrev pub answered_presence : Presence → Presence
answered_presence presence = record presence { status = next_status_of presence.status }

abbrev pub operation_of : State → Event → Operation
operation_of s (event.Begin i) = SetBits inside_bit
operation_of s (event.Look i) = Load
operation_of s (event.Read i place f) = Load
operation_of s (event.Fetch i place f) = Load
operation_of s (event.Mark i place) = colour_exchange colour.White colour.Gray
operation_of s (event.Write i place f old new) = Exchange (pack_field_of old) (pack_field_of new)
operation_of s (event.Store i new) = Store (pack_field_of new)
operation_of s (event.Claim i c) =
    colour_exchange colour.Blue (born_colour (presence_of s i).status (own_of s i).mode c)
operation_of s (event.Fill i place f value) = Store (pack_field_of value)
operation_of s (event.Seal i place kind) = Store (pack_field_of (kind_field kind))
operation_of s (event.Answer i) = Store (pack_presence_of (answered_presence (presence_of s i)))
operation_of s (event.Keep i count from copies) = Load
operation_of s (event.End i) = KeepBits all_but_inside
operation_of s (event.Over i) = SetBits over_bit
operation_of s (event.Post target) = Store
    (pack_control_of (control_after s.control (event.Post target)))
operation_of s (event.Duty on) = Store (pack_control_of (control_after s.control (event.Duty on)))
operation_of s (event.Poll i) = Load
operation_of s (event.AnswerOut i over) = answer_out_exchange (wanted_of s) over
operation_of s event.ClearCell = colour_exchange colour.Black colour.White
operation_of s event.Anchor = colour_exchange colour.White colour.Gray
operation_of s (event.See c) = Load
operation_of s event.Scan = Load
operation_of s event.Shade = colour_exchange colour.White colour.Gray
operation_of s event.Blacken = Store (pack_colour_of colour.Black)
operation_of s event.SweepLook = Load
operation_of s event.Wipe = Store (pack_field_of field.Null)
operation_of s event.Free = Store (pack_colour_of colour.Blue)
operation_of s event.Whiten = Store (pack_colour_of colour.White)
operation_of s event.Advance = Store (pack_control_of (control_after s.control event.Advance))

-- One operation on one word.

-- what the event finds is what stands in the word; a store finds nothing
abbrev pub IsPackedAs : Found → ℕ → Type 0
IsPackedAs finds.Stored number = Unit {0}
IsPackedAs (finds.Control control) number = pack_control_of control ≡ number
IsPackedAs (finds.Presence presence) number = pack_presence_of presence ≡ number
IsPackedAs (finds.Colour found) number = pack_colour_of found ≡ number
IsPackedAs (finds.Field found) number = pack_field_of found ≡ number

-- what it finds has a word
abbrev pub IsValidFound : Found → Type 0
IsValidFound finds.Stored = Unit {0}
IsValidFound (finds.Control control) = IsValidControl control
IsValidFound (finds.Presence presence) = is_valid_presence presence ≡ true
IsValidFound (finds.Colour found) = Unit {0}
IsValidFound (finds.Field found) = IsValidField found

-- The event is its operation on its word: the word is one of the table, it becomes what the
-- operation leaves there, all other words stay, and what the event finds is what stood in the word.
pub record IsOneOperation (s : State) (e : Event) : Type 0 where
  pub there : HasWord s (word_of s e)
  pub below : index_of s.mutators (word_of s e) < length (words_of s)
  pub left : words_of (after s e)
      ≡ slice_set (words_of s) (index_of s.mutators (word_of s e))
      (left_by (operation_of s e) (slice_index (words_of s) (index_of s.mutators (word_of s e))))
  pub found : IsPackedAs (found_by s e)
      (slice_index (words_of s) (index_of s.mutators (word_of s e)))
