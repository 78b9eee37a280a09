-- Lawful stores: every version is a lawful tree, and so is the draft of every client. An opening
-- store is one, every answer keeps it, and in one no command that puts a text is answered that the
-- tree would be too high.
-- Source: this project's.
use Rattle.std.specs.Prelude.{◌≢◌, ℕ, ◌≤◌, List, length, All}
use Rattle.std.specs.Option.{ForSome}
use Rattle.doc_model.specs.declared.command.Command.{Command}
use Rattle.doc_model.specs.declared.command.Command.TheVariants as command
use Rattle.doc_model.specs.declared.command.Entry.{Entry}
use Rattle.doc_model.specs.declared.command.Reply.{Reply}
use Rattle.doc_model.specs.declared.command.Reply.TheVariants as reply
use Rattle.doc_model.specs.declared.answer.Answer.{Answer}
use Rattle.doc_tree.specs.Lawful.{IsLawful}
use Rattle.doc_model.specs.Answers.{Limits}
use Rattle.doc_model.specs.History.{after_all}
use Rattle.doc_model.specs.Store.{Store, after, answer_for_in, answer_in, opening}

pub record IsLawfulStore (s : Store) : Type 0 where
  pub versions : All IsLawful s.trees
  pub drafts : All (λ m. IsLawful m.draft) s.accounts

-- the trees that an answer makes
pub record MakesLawful (a : Answer) : Type 0 where
  pub made : ForSome a.made IsLawful
  pub draft : ForSome a.draft IsLawful

-- the path at which a command puts a text has at most 8 names, as every `Path` has
abbrev pub PutsLow : Command → Type 0
PutsLow (command.Put path text) = length path ≤ 8
PutsLow (command.Del path) = Unit {0}
PutsLow (command.Copy «from» to) = Unit {0}
PutsLow (command.Get path) = Unit {0}
PutsLow (command.List path) = Unit {0}
PutsLow (command.Size path) = Unit {0}
PutsLow (command.Old back path) = Unit {0}
PutsLow (command.DraftPut path text) = length path ≤ 8
PutsLow (command.DraftGet path) = Unit {0}
PutsLow (command.Take path) = Unit {0}
PutsLow (command.Publish path) = Unit {0}
PutsLow (command.Batch edits) = Unit {0}

abbrev pub NotDeep : Reply → Type 0
NotDeep said = (v : ℕ) → said ≢ reply.Deep v

-- a command that puts a text, and a reply that does not say that the tree would be too high; a
-- batch may have copies in it, and says nothing here
abbrev pub IsShallow : Command → Reply → Type 0
IsShallow (command.Put path text) said = NotDeep said
IsShallow (command.Del path) said = Unit {0}
IsShallow (command.Copy «from» to) said = Unit {0}
IsShallow (command.Get path) said = Unit {0}
IsShallow (command.List path) said = Unit {0}
IsShallow (command.Size path) said = Unit {0}
IsShallow (command.Old back path) said = Unit {0}
IsShallow (command.DraftPut path text) said = NotDeep said
IsShallow (command.DraftGet path) said = Unit {0}
IsShallow (command.Take path) said = Unit {0}
IsShallow (command.Publish path) said = Unit {0}
IsShallow (command.Batch edits) said = Unit {0}

-- The laws.
abbrev pub OpensLawful : Type 0
OpensLawful = (clients : ℕ) (l : Limits) → IsLawfulStore (opening clients l)

abbrev pub EntryKeepsLawful : Type 0
EntryKeepsLawful =
    (s : Store) (e : Entry) → IsLawfulStore s → IsLawfulStore (after s e.client (answer_for_in s e))

abbrev pub CommandKeepsLawful : Type 0
CommandKeepsLawful =
    (s : Store) (client : ℕ) (c : Command) → IsLawfulStore s
    → IsLawfulStore (after s client (answer_in s client c))

abbrev pub HistoryIsLawful : Type 0
HistoryIsLawful =
    (clients : ℕ) (l : Limits) (es : List Entry) → IsLawfulStore (after_all (opening clients l) es)

abbrev pub PutsAreShallow : Type 0
PutsAreShallow =
    (s : Store) (client : ℕ) (c : Command) → PutsLow c → IsLawfulStore s
    → IsShallow c (answer_in s client c).reply
