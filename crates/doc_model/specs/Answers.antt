-- What a command is answered, as a function of what it can see: the limits of the store, the number
-- and the tree of the latest version, the tree of the version that it asks back for, and what the
-- client has in the store. A command is a case here, in `back_of` and in `full_place`, and nowhere
-- else.
-- Source: this project's.
use Rattle.std.specs.Prelude.{ℕ, List, [], ◌∷◌, ◌+◌, ◌-◌, nat_lt, nat_le, Bool, true, false}
use Rattle.std.specs.Prelude.{Option, Some, None, Result, Ok, Err, unwrap_or, if◌then◌else◌}
use Rattle.doc_model.specs.declared.command.Command.{Command}
use Rattle.doc_model.specs.declared.command.Command.TheVariants as command
use Rattle.doc_model.specs.declared.command.Entry.{Entry}
use Rattle.doc_model.specs.declared.edits.Edit.{Edit}
use Rattle.doc_model.specs.declared.edits.Edit.TheVariants as edit
use Rattle.doc_model.specs.declared.command.Reply.{Reply}
use Rattle.doc_model.specs.declared.command.Reply.TheVariants as reply
use Rattle.doc_tree.specs.declared.edit.EditFault.{EditFault}
use Rattle.doc_tree.specs.declared.edit.EditFault.TheVariants as fault
use Rattle.doc_model.specs.declared.answer.Answer.{Answer}
use Rattle.doc_model.specs.declared.answer.Account.{Account}
use Rattle.doc_tree.specs.Tree.{DocTree, empty, node, names_of, count}
use Rattle.doc_tree.specs.Edits.{set_text, delete, attach, edited}

-- how many of the latest versions can be asked for, and the number of the last that can be made
pub record Limits : Type 0 where
  pub keep : ℕ
  pub versions : ℕ

-- what a client has before its first command
abbrev pub opening_account : Account
opening_account = record { draft = empty; last = 0; answered = 0 }

-- an answer that makes no version and leaves the draft
abbrev pub told : Reply → ℕ → Answer
told said place = record { reply = said; place = place; made = None; draft = None }

-- an edit that is refused; no definition of an edit runs out of memory
abbrev pub refusal : EditFault → ℕ → Reply
refusal fault.Absent v = reply.Absent v
refusal fault.Many v = reply.Many v
refusal fault.Deep v = reply.Deep v
refusal fault.Big v = reply.Big v
refusal fault.NoMemory v = reply.Full v

-- an edited tree as the version after v
abbrev pub committed : Limits → ℕ → Result DocTree EditFault → Answer
committed l v (Err e) = told (refusal e v) v
committed l v (Ok t) =
    if nat_lt v l.versions
    then record { reply = reply.Committed (v + 1); place = v + 1; made = Some t; draft = None }
    else told (reply.Worn v) v

-- a tree as the client's next draft
abbrev pub draft_made : ℕ → DocTree → Answer
draft_made place t =
    record { reply = reply.Drafted place; place = place; made = None; draft = Some t }

-- an edited draft
abbrev pub drafted : ℕ → Result DocTree EditFault → Answer
drafted place (Err e) = told (refusal e place) place
drafted place (Ok t) = draft_made place t

-- a node's tree as the draft, if it is there
abbrev pub taken : ℕ → Option DocTree → Answer
taken v None = told (reply.Absent v) v
taken v (Some t) = draft_made v t

-- the tree with a node's tree, if it is there, also at another path
abbrev pub attached : List (List ℕ) → DocTree → Option DocTree → Result DocTree EditFault
attached to t None = Err fault.Absent
attached to t (Some sub) = attach to sub t

-- one edit of a batch, by a client with this draft
abbrev pub edit_made : DocTree → Edit → DocTree → Result DocTree EditFault
edit_made draft (edit.Put path text) t = set_text path text t
edit_made draft (edit.Del path) t = delete path t
edit_made draft (edit.Copy «from» to) t = attached to t (node «from» t)
edit_made draft (edit.Publish path) t = attach path draft t

-- the edits one after another, each of the tree that the one before made, or the first refusal
abbrev pub all_made : DocTree → List Edit → DocTree → Result DocTree EditFault
all_made draft [] t = Ok t
all_made draft (e ∷ es) t = edited (all_made draft es) (edit_made draft e t)

-- the text of a node, if it is there
abbrev pub text_shown : ℕ → ℕ → Option DocTree → Answer
text_shown shown place None = told (reply.Absent shown) place
text_shown shown place (Some t) = told (reply.Val shown t.text) place

-- the names of its children
abbrev pub names_shown : ℕ → Option DocTree → Answer
names_shown v None = told (reply.Absent v) v
names_shown v (Some t) = told (reply.Names v (names_of t.kids)) v

-- the number of its nodes
abbrev pub count_shown : ℕ → Option DocTree → Answer
count_shown v None = told (reply.Absent v) v
count_shown v (Some t) = told (reply.Count v (count t)) v

-- the text in the version so many before v, while it can be asked for
abbrev pub old_shown : Limits → ℕ → ℕ → Option DocTree → Answer
old_shown l v back found =
    if nat_lt v back then told (reply.Before v) v
    else (if nat_le l.keep back then told (reply.Gone v (v - back)) v
    else text_shown (v - back) v found)

abbrev pub answer_at : Limits → ℕ → DocTree → DocTree → Account → Command → Answer
answer_at l v now older m (command.Put path text) = committed l v (set_text path text now)
answer_at l v now older m (command.Del path) = committed l v (delete path now)
answer_at l v now older m (command.Copy «from» to) =
    committed l v (attached to now (node «from» now))
answer_at l v now older m (command.Get path) = text_shown v v (node path now)
answer_at l v now older m (command.List path) = names_shown v (node path now)
answer_at l v now older m (command.Size path) = count_shown v (node path now)
answer_at l v now older m (command.Old back path) = old_shown l v back (node path older)
answer_at l v now older m (command.DraftPut path text) = drafted m.last (set_text path text m.draft)
answer_at l v now older m (command.DraftGet path) = text_shown m.last m.last (node path m.draft)
answer_at l v now older m (command.Take path) = taken v (node path now)
answer_at l v now older m (command.Publish path) = committed l v (attach path m.draft now)
answer_at l v now older m (command.Batch edits) = committed l v (all_made m.draft edits now)

-- how many versions back a command asks
abbrev pub back_of : Command → ℕ
back_of (command.Put path text) = 0
back_of (command.Del path) = 0
back_of (command.Copy «from» to) = 0
back_of (command.Get path) = 0
back_of (command.List path) = 0
back_of (command.Size path) = 0
back_of (command.Old back path) = back
back_of (command.DraftPut path text) = 0
back_of (command.DraftGet path) = 0
back_of (command.Take path) = 0
back_of (command.Publish path) = 0
back_of (command.Batch edits) = 0

-- the place of a command that found the heap full, if it is one that needs cells
abbrev pub full_place : ℕ → Account → Command → Option ℕ
full_place v m (command.Put path text) = Some v
full_place v m (command.Del path) = Some v
full_place v m (command.Copy «from» to) = Some v
full_place v m (command.Get path) = None
full_place v m (command.List path) = None
full_place v m (command.Size path) = None
full_place v m (command.Old back path) = None
full_place v m (command.DraftPut path text) = Some m.last
full_place v m (command.DraftGet path) = None
full_place v m (command.Take path) = Some v
full_place v m (command.Publish path) = Some v
full_place v m (command.Batch edits) = Some v

-- whether the reply is that of a command that made a version
abbrev pub is_ok : Reply → Bool
is_ok (reply.Committed shown) = true
is_ok (reply.Drafted shown) = false
is_ok (reply.Val shown text) = false
is_ok (reply.Names shown names) = false
is_ok (reply.Count shown count) = false
is_ok (reply.Absent shown) = false
is_ok (reply.Gone shown wanted) = false
is_ok (reply.Before shown) = false
is_ok (reply.Many shown) = false
is_ok (reply.Deep shown) = false
is_ok (reply.Big shown) = false
is_ok (reply.Worn shown) = false
is_ok (reply.Full shown) = false

-- whether the reply says that the heap was full
abbrev pub is_full : Reply → Bool
is_full (reply.Committed shown) = false
is_full (reply.Drafted shown) = false
is_full (reply.Val shown text) = false
is_full (reply.Names shown names) = false
is_full (reply.Count shown count) = false
is_full (reply.Absent shown) = false
is_full (reply.Gone shown wanted) = false
is_full (reply.Before shown) = false
is_full (reply.Many shown) = false
is_full (reply.Deep shown) = false
is_full (reply.Big shown) = false
is_full (reply.Worn shown) = false
is_full (reply.Full shown) = true

-- the refusal of a full heap at a place, or else the answer
abbrev pub full_or : Option ℕ → Answer → Answer
full_or None a = a
full_or (Some place) a = told (reply.Full place) place

-- The answer that an entry has to have: that of its command, but for an entry which says that the
-- heap was full. No store says when that comes, so it may stand for every command that needs cells.
abbrev pub answer_for_at : Limits → ℕ → DocTree → DocTree → Account → Entry → Answer
answer_for_at l v now older m e =
    full_or (if is_full e.reply then full_place v m e.command else None)
    (answer_at l v now older m e.command)

-- what the client has after an answer
abbrev pub left : Account → Answer → Account
left m a = record { draft = unwrap_or a.draft m.draft; last = a.place; answered = m.answered + 1 }
