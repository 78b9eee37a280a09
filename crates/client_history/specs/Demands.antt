-- What each entry of a log asks of its stretch of the client's trail.
-- Source: this project's.
use Rattle.std.specs.Prelude.{ℕ, ◌++◌, Bool, true, false, List, [], ◌∷◌}
use Rattle.cell_words.specs.declared.fields.Field.TheVariants as field
use Rattle.doc_model.specs.Answers.{is_full}
use Rattle.doc_model.specs.History.{seen_by}
use Rattle.doc_model.specs.declared.command.Command.{Command}
use Rattle.doc_model.specs.declared.command.Command.TheVariants as command
use Rattle.doc_model.specs.declared.command.Entry.{Entry}
use Rattle.doc_model.specs.declared.command.Reply.{Reply}
use Rattle.doc_model.specs.declared.command.Reply.TheVariants as reply
use Rattle.doc_records.specs.Texts.{name_asks, text_asks}
use Rattle.trails.specs.Asks.{Ask, InOrder, gave}
use Rattle.trails.specs.Claims.{IsFull}
use Rattle.trails.specs.Marks.{Mark}
use Rattle.trails.specs.Stretches.{Had}
use Rattle.version_rule.specs.Shows.{version_asks}

-- reads that gave what a reply shows
abbrev pub reply_asks : Reply → List Ask
reply_asks (reply.Committed shown) = []
reply_asks (reply.Drafted shown) = []
reply_asks (reply.Val shown text) = text_asks text
reply_asks (reply.Names shown names) = name_asks names
reply_asks (reply.Count shown count) = gave (field.Num count) ∷ []
reply_asks (reply.Absent shown) = []
reply_asks (reply.Gone shown wanted) = []
reply_asks (reply.Before shown) = []
reply_asks (reply.Many shown) = []
reply_asks (reply.Deep shown) = []
reply_asks (reply.Big shown) = []
reply_asks (reply.Worn shown) = []
reply_asks (reply.Full shown) = []

-- the command is one on the client's draft alone, and reads no version
abbrev pub is_drafting : Command → Bool
is_drafting (command.Put path text) = false
is_drafting (command.Del path) = false
is_drafting (command.Copy «from» to) = false
is_drafting (command.Get path) = false
is_drafting (command.List path) = false
is_drafting (command.Size path) = false
is_drafting (command.Old back path) = false
is_drafting (command.DraftPut path text) = true
is_drafting (command.DraftGet path) = true
is_drafting (command.Take path) = false
is_drafting (command.Publish path) = false
is_drafting (command.Batch edits) = false

-- the command may leave a draft that holds more places than before it
abbrev pub may_hold_more : Command → Bool
may_hold_more (command.Put path text) = false
may_hold_more (command.Del path) = false
may_hold_more (command.Copy «from» to) = false
may_hold_more (command.Get path) = false
may_hold_more (command.List path) = false
may_hold_more (command.Size path) = false
may_hold_more (command.Old back path) = false
may_hold_more (command.DraftPut path text) = true
may_hold_more (command.DraftGet path) = false
may_hold_more (command.Take path) = true
may_hold_more (command.Publish path) = false
may_hold_more (command.Batch edits) = false

-- the command reads, and needs no cells
abbrev pub is_reading : Command → Bool
is_reading (command.Put path text) = false
is_reading (command.Del path) = false
is_reading (command.Copy «from» to) = false
is_reading (command.Get path) = true
is_reading (command.List path) = true
is_reading (command.Size path) = true
is_reading (command.Old back path) = true
is_reading (command.DraftPut path text) = false
is_reading (command.DraftGet path) = true
is_reading (command.Take path) = false
is_reading (command.Publish path) = false
is_reading (command.Batch edits) = false

-- reads of the version that a command saw, and then of what its reply shows
abbrev pub ReadsShown : Entry → List Mark → Type 0
ReadsShown e marks =
    (cell : ℕ) × InOrder (version_asks cell (seen_by e) ++ reply_asks e.reply) marks

-- these, but of a command on a draft nothing
abbrev pub ReadsFor : Bool → Entry → List Mark → Type 0
ReadsFor true e marks = Unit {0}
ReadsFor false e marks = ReadsShown e marks

-- where the reply is that of a full heap, one claim found it full
abbrev pub FullFor : Bool → ℕ → List Mark → Type 0
FullFor true cells marks = Had (IsFull cells) [] marks
FullFor false cells marks = Unit {0}

pub record Demand (cells : ℕ) (e : Entry) (marks : List Mark) : Type 0 where
  pub reads : ReadsFor (is_drafting e.command) e marks
  pub full : FullFor (is_full e.reply) cells marks
