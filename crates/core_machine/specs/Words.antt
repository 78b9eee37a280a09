-- What one operation on a word leaves there, and the tests that events make on words.
--
-- A compare and exchange always leaves a function of the word that it found: so a colour that is
-- not the expected one is left as it is by the same words as one that is.
-- Source: Doligez and Leroy, POPL 1993 (the colours); this project's (kinds in field 5, six
-- stages).
use Rattle.std.specs.Prelude.{ℕ, Bool, true, false, not, ◌&&◌, ◌==◌, Option, Some, None}
use Rattle.std.specs.Prelude.{if◌then◌else◌}
use Rattle.cell_words.specs.Modes.{requested_of, next_status_of, claim_colour_of, barrier_of}
use Rattle.cell_words.specs.declared.colours.Colour.{Colour}
use Rattle.cell_words.specs.declared.colours.Colour.TheVariants as colour
use Rattle.cell_words.specs.declared.controls.Control.{Control}
use Rattle.cell_words.specs.declared.controls.Stage.{Stage}
use Rattle.cell_words.specs.declared.controls.Stage.TheVariants as stage
use Rattle.cell_words.specs.declared.fields.Field.{Field}
use Rattle.cell_words.specs.declared.fields.Field.TheVariants as field
use Rattle.cell_words.specs.declared.fields.Kind.{Kind}
use Rattle.cell_words.specs.declared.fields.Kind.TheVariants as kind
use Rattle.cell_words.specs.declared.presences.Presence.{Presence}
use Rattle.cell_words.specs.declared.presences.Status.{Status}
use Rattle.cell_words.specs.declared.presences.Status.TheVariants as status
use Rattle.cell_words.specs.declared.write_barrier.Barrier.{Barrier}
use Rattle.cell_words.specs.declared.write_barrier.Barrier.TheVariants as barrier

-- Colours.

-- the exchange from white to gray: what Mark, Anchor and Shade leave
abbrev pub shaded : Colour → Colour
shaded colour.Blue = colour.Blue
shaded colour.White = colour.Gray
shaded colour.Gray = colour.Gray
shaded colour.Black = colour.Black

-- the exchange from black to white: what ClearCell leaves
abbrev pub cleared : Colour → Colour
cleared colour.Blue = colour.Blue
cleared colour.White = colour.White
cleared colour.Gray = colour.Gray
cleared colour.Black = colour.White

-- the exchange from blue to the colour of a new cell: what Claim leaves
abbrev pub claimed : Colour → Colour → Colour
claimed colour.Blue born = born
claimed colour.White born = colour.White
claimed colour.Gray born = colour.Gray
claimed colour.Black born = colour.Black

abbrev pub is_blue : Colour → Bool
is_blue colour.Blue = true
is_blue colour.White = false
is_blue colour.Gray = false
is_blue colour.Black = false

abbrev pub is_gray : Colour → Bool
is_gray colour.Blue = false
is_gray colour.White = false
is_gray colour.Gray = true
is_gray colour.Black = false

-- Fields.

-- two fields are the same
abbrev pub same_field : Field → Field → Bool
same_field field.Null field.Null = true
same_field field.Null (field.Num n) = false
same_field field.Null (field.Cell c) = false
same_field (field.Num n) field.Null = false
same_field (field.Num n) (field.Num k) = n == k
same_field (field.Num n) (field.Cell c) = false
same_field (field.Cell c) field.Null = false
same_field (field.Cell c) (field.Num n) = false
same_field (field.Cell c) (field.Cell d) = c == d

-- the exchange from an old value to a new one: what Write leaves
abbrev pub written : Field → Field → Field → Field
written found old new = if same_field found old then new else found

abbrev pub is_cell : Field → Bool
is_cell field.Null = false
is_cell (field.Num n) = false
is_cell (field.Cell c) = true

-- Kinds, as field 5 holds them.

-- the field of a kind
abbrev pub kind_field : Kind → Field
kind_field kind.Record = field.Num 1
kind_field kind.Boxed = field.Num 2

-- field 5 of a raw cell is null
abbrev pub is_raw_kind : Field → Bool
is_raw_kind field.Null = true
is_raw_kind (field.Num n) = false
is_raw_kind (field.Cell c) = false

-- field 5 of a box is the number 2
abbrev pub is_box_kind : Field → Bool
is_box_kind field.Null = false
is_box_kind (field.Num n) = n == 2
is_box_kind (field.Cell c) = false

-- Stages and statuses.

abbrev pub same_stage : Stage → Stage → Bool
same_stage stage.Idle stage.Idle = true
same_stage stage.Sync1 stage.Sync1 = true
same_stage stage.Clear stage.Clear = true
same_stage stage.Sync2 stage.Sync2 = true
same_stage stage.Trace stage.Trace = true
same_stage stage.Sweep stage.Sweep = true
same_stage _ _ = false

-- a stage at whose beginning the collector waits for an answer of each mutator
abbrev pub is_handshake : Stage → Bool
is_handshake stage.Idle = false
is_handshake stage.Sync1 = true
is_handshake stage.Clear = false
is_handshake stage.Sync2 = true
is_handshake stage.Trace = true
is_handshake stage.Sweep = false

abbrev pub same_status : Status → Status → Bool
same_status status.Async status.Async = true
same_status status.Async status.Sync1 = false
same_status status.Async status.Sync2 = false
same_status status.Sync1 status.Async = false
same_status status.Sync1 status.Sync1 = true
same_status status.Sync1 status.Sync2 = false
same_status status.Sync2 status.Async = false
same_status status.Sync2 status.Sync1 = false
same_status status.Sync2 status.Sync2 = true

-- Modes: what a mutator's last look found, if there is one.

-- what a write marks; without a mode nothing
abbrev pub barrier_in : Status → Option Control → Barrier
barrier_in own None = barrier.Nothing
barrier_in own (Some mode) = barrier_of own mode

abbrev pub marks_some : Barrier → Bool
marks_some barrier.Nothing = false
marks_some barrier.Old = true
marks_some barrier.Both = true

-- an ordinary store may be begun: there is a mode, and status and mode are not sync2 with the stage
-- Sync2
abbrev pub lets_store : Status → Option Control → Bool
lets_store own None = false
lets_store own (Some mode) =
    not (same_status own status.Sync2 && same_stage mode.stage stage.Sync2)

-- the colour of a new cell; without a mode white
abbrev pub born_colour : Status → Option Control → ℕ → Colour
born_colour own None cell = colour.White
born_colour own (Some mode) cell = claim_colour_of own mode cell

-- there is a mode, and its stage requests the status
abbrev pub requests : Option Control → Status → Bool
requests None wanted = false
requests (Some mode) wanted = same_status (requested_of mode.stage) wanted

-- Presences.

-- both flags are equal
abbrev pub same_flag : Bool → Bool → Bool
same_flag true true = true
same_flag true false = false
same_flag false true = false
same_flag false false = true

-- the collector may answer for this mutator: it is out, over or not as given, and the status that
-- it would answer with is the requested one
abbrev pub may_answer_out : Status → Bool → Presence → Bool
may_answer_out wanted over found =
    not found.inside && same_flag found.over over && same_status
    (next_status_of found.status) wanted

-- the exchange on the status word of a mutator that is out: what AnswerOut leaves
abbrev pub answered_out : Status → Bool → Presence → Presence
answered_out wanted over found =
    if may_answer_out wanted over found then record found { status = wanted } else found
