-- What a request names, and what it asks for.
-- Source: this project's own.
use Rattle.std.specs.Prelude.{ℕ, List, [], ◌∷◌, length, Option, None, Some}
use Rattle.command_line.specs.Requests.{Asked, Run, Replay, Gen, Load, Image, Dump, Census, Mail}
use Rattle.command_line.specs.Requests.{RunAsked}
use Rattle.script_files.specs.Files.{files_read}
use Rattle.script_files.specs.Mail.{senders_read}
use Rattle.doc_run.specs.Guested.{few_read}
use Rattle.doc_run.specs.declared.reading.Reading.{Reading}
use Rattle.doc_run.specs.declared.reading.Reading.TheVariants.{Schedules, Dumps, Images}
use Rattle.doc_run.specs.declared.report.Report.{Report}
use Rattle.doc_run.specs.declared.report.Report.TheVariants.{Replies, Heap}

-- the files that a request names, in order
abbrev pub names_of : Option Asked → List (List ℕ)
names_of None = []
names_of (Some (Run run)) = run.files
names_of (Some (Replay name)) = name ∷ []
names_of (Some (Gen made)) = []
names_of (Some (Load name)) = name ∷ []
names_of (Some (Image run)) = run.files
names_of (Some (Dump names)) = names
names_of (Some (Census name)) = name ∷ []
names_of (Some (Mail mail)) = mail.files

-- how many of them are read: none where they are too many
abbrev pub files_of : Option Asked → ℕ
files_of None = 0
files_of (Some (Run run)) = files_read (length run.files)
files_of (Some (Replay name)) = 1
files_of (Some (Gen made)) = 0
files_of (Some (Load name)) = 1
files_of (Some (Image run)) = files_read (length run.files)
files_of (Some (Dump names)) = few_read (length names)
files_of (Some (Census name)) = 1
files_of (Some (Mail mail)) = senders_read (length mail.files)

-- what a request is for, of which what it comes to is handed back: clients, clients with a dump, or
-- a mailbox; or it is for a text alone
pub data Kind : Type 0 where
  ForText : Kind
  ForClients : Kind
  ForDump : Kind
  ForMailbox : Kind

-- generated scripts are run, unless one is printed
abbrev pub kind_by : Option ℕ → Kind
kind_by None = ForClients
kind_by (Some client) = ForText

abbrev pub kind_of : Option Asked → Kind
kind_of None = ForText
kind_of (Some (Run run)) = ForClients
kind_of (Some (Replay name)) = ForText
kind_of (Some (Gen made)) = kind_by made.print
kind_of (Some (Load name)) = ForText
kind_of (Some (Image run)) = ForClients
kind_of (Some (Dump names)) = ForDump
kind_of (Some (Census name)) = ForText
kind_of (Some (Mail mail)) = ForMailbox

-- the fact holds of the words, if the replies of the scripts of files are asked for
abbrev pub IfRun : Option Asked → (RunAsked → Type 0) → Type 0
IfRun None Fact = Unit {0}
IfRun (Some (Run run)) Fact = Fact run
IfRun (Some (Replay name)) Fact = Unit {0}
IfRun (Some (Gen made)) Fact = Unit {0}
IfRun (Some (Load name)) Fact = Unit {0}
IfRun (Some (Image run)) Fact = Unit {0}
IfRun (Some (Dump names)) Fact = Unit {0}
IfRun (Some (Census name)) Fact = Unit {0}
IfRun (Some (Mail mail)) Fact = Unit {0}

-- the request that has the scripts of files run by these words, and this report of it written
abbrev pub asked_for : Report → RunAsked → Asked
asked_for Replies run = Run run
asked_for Heap run = Image run

-- the request that has the file of this name read so
abbrev pub asked_of : Reading → List ℕ → Asked
asked_of Schedules name = Replay name
asked_of Dumps name = Load name
asked_of Images name = Census name
