-- What a client's whole trail shows of its log.
-- Source: this project's.
use Rattle.std.specs.Prelude.{ℕ, ◌≤◌, ◌==◌, ◌&&◌, Bool, true, false, not, List, length}
use Rattle.std.specs.Prelude.{count_by, filter}
use Rattle.doc_model.specs.Answers.{is_full}
use Rattle.doc_model.specs.declared.command.Entry.{Entry}
use Rattle.doc_model.specs.declared.command.Reply.{Reply}
use Rattle.doc_model.specs.declared.command.Reply.TheVariants as reply
use Rattle.trails.specs.Claims.{IsFull}
use Rattle.trails.specs.Marks.{Mark, saw, wrote, looked, tried}
use Rattle.trails.specs.Stretches.{InTurn}
use Rattle.client_history.specs.Demands.{ReadsShown, is_drafting}

-- a read of the anchor's field
abbrev pub is_anchor_read : Mark → Bool
is_anchor_read (saw cell field found) = (cell == 0) && (field == 0)
is_anchor_read (wrote cell field old new found) = false
is_anchor_read (looked control) = false
is_anchor_read (tried cell found) = false

-- the reply shows a text, names or a count
abbrev pub is_telling : Reply → Bool
is_telling (reply.Committed shown) = false
is_telling (reply.Drafted shown) = false
is_telling (reply.Val shown text) = true
is_telling (reply.Names shown names) = true
is_telling (reply.Count shown count) = true
is_telling (reply.Absent shown) = false
is_telling (reply.Gone shown wanted) = false
is_telling (reply.Before shown) = false
is_telling (reply.Many shown) = false
is_telling (reply.Deep shown) = false
is_telling (reply.Big shown) = false
is_telling (reply.Worn shown) = false
is_telling (reply.Full shown) = false

-- the command reads a version; and its reply shows what stands there
abbrev pub reads_version : Entry → Bool
reads_version e = not (is_drafting e.command)

abbrev pub tells_version : Entry → Bool
tells_version e = is_telling e.reply && not (is_drafting e.command)

abbrev pub was_full : Entry → Bool
was_full e = is_full e.reply

-- The anchor was read for each command that reads a version. The replies that show what stands in a
-- version have stretches that follow one another, each with the reads of its version and of what it
-- shows. So have the full ones: in each stretch a look found the collector off duty, or two whole
-- cycles over that began after the stretch's first look, and after that look each cell was found
-- used by a claim, not all of them by one.
pub record ShowsRun (cells : ℕ) (es : List Entry) (marks : List Mark) : Type 0 where
  pub anchor : length (filter reads_version es) ≤ count_by is_anchor_read marks
  pub told : InTurn ReadsShown (filter tells_version es) marks
  pub full : InTurn (λ _. IsFull cells) (filter was_full es) marks
