-- What each request comes to, and by which fault it is refused: a line a request.
--
-- What the named files hold is told or not, file by file. Where it is not told, a line speaks of
-- some bytes that a file may have held.
-- Source: this project's own.
use Rattle.std.specs.Prelude.{◌≡◌, ℕ, ◌*◌, ◌≤◌, ◌<◌, List, [], Option, None, Some, IsNone, IsSome}
use Rattle.std.specs.Prelude.{IsSomeAnd, Result, Ok, Err, ◌⊎◌, map, Vec}
use Rattle.std.specs.declared.alloc.Global.{Global}
use Rattle.doc_export.specs.declared.dumped.Dumped.{Dumped}
use Rattle.mail_run.specs.declared.finished.MailRun.{MailRun}
use Rattle.command_line.specs.Requests.{Asked, Run, Replay, Gen, Load, Image, Dump, Census, Mail}
use Rattle.command_line.specs.declared.request.GenWords.{GenWords}
use Rattle.run_limits.specs.declared.TheConstants.{MOST_COMMANDS}
use Rattle.script_files.specs.Mail.{IsMail}
use Rattle.script_files.specs.Scripts.{AreScripts}
use Rattle.script_files.specs.Sorts.{OfMail, OfScripts, Refused, sort_of}
use Rattle.script_files.specs.declared.fault.Fault.{Fault}
use Rattle.script_files.specs.declared.fault.Fault.TheVariants.{Memory, ReadFault, TooLarge, Usage}
use Rattle.store_run.specs.declared.finished.Finished.{Finished}
use Rattle.doc_run.specs.Clients.{IsMade, IsRunGiven, default_options, options_of}
use Rattle.doc_run.specs.Guested.{AreFewScripts, IsDumpRunGiven, IsDumpText}
use Rattle.doc_run.specs.Made.{IsSummaryOf, printed_of}
use Rattle.doc_run.specs.Mailed.{IsMailedText, MailsBy}
use Rattle.doc_run.specs.Reading.{Decides, IsAnswerOf, grammar_of}
use Rattle.doc_run.specs.Replies.{AreReplies}
use Rattle.doc_run.specs.Reports.{IsHeapText}
use Rattle.doc_run.specs.declared.answer.Answer.{Answer}
use Rattle.doc_run.specs.declared.answer.Answer.TheVariants as came
use Rattle.doc_run.specs.declared.answer.Refusal.{Refusal}
use Rattle.doc_run.specs.declared.outcome.Outcome.{Outcome}
use Rattle.doc_run.specs.declared.reading.Reading.{Reading}
use Rattle.doc_run.specs.declared.reading.Reading.TheVariants.{Schedules, Dumps, Images}

-- An answer, and what it is of.

-- the bytes that there are
abbrev pub bytes_of : Option (Vec ℕ Global) → List ℕ
bytes_of None = []
bytes_of (Some bytes) = bytes.items

-- the text that is to be written
abbrev pub text_of : Answer → List ℕ
text_of (came.Text text) = text.items
text_of (came.Ran text f) = text.items
text_of (came.Dumped d) = bytes_of d.bytes
text_of (came.Mailed text ran) = text.items

-- what a run of clients came to, where the answer is of one
abbrev pub finished_of : Answer → Option Finished
finished_of (came.Text text) = None
finished_of (came.Ran text f) = Some f
finished_of (came.Dumped d) = None
finished_of (came.Mailed text ran) = None

-- or a run during which a version was dumped
abbrev pub dumped_of : Answer → Option Dumped
dumped_of (came.Text text) = None
dumped_of (came.Ran text f) = None
dumped_of (came.Dumped d) = Some d
dumped_of (came.Mailed text ran) = None

-- or a run of a mailbox
abbrev pub mailed_of : Answer → Option MailRun
mailed_of (came.Text text) = None
mailed_of (came.Ran text f) = None
mailed_of (came.Dumped d) = None
mailed_of (came.Mailed text ran) = Some ran

-- all of that is handed back
abbrev pub HandsBack : Answer → Outcome → Type 0
HandsBack answer result =
    (result.finished ≡ finished_of answer) × (result.dumped ≡ dumped_of answer)
    × (result.mailed ≡ mailed_of answer)

-- the answer is a text alone, and the fact holds of it
abbrev pub OfText : Answer → (List ℕ → Type 0) → Type 0
OfText (came.Text text) Fact = Fact text.items
OfText (came.Ran text f) Fact = ⊥
OfText (came.Dumped d) Fact = ⊥
OfText (came.Mailed text ran) Fact = ⊥

-- it is of a run of clients, and the fact holds of what that came to and of the text
abbrev pub OfRun : Answer → (Finished → List ℕ → Type 0) → Type 0
OfRun (came.Text text) Fact = ⊥
OfRun (came.Ran text f) Fact = Fact f text.items
OfRun (came.Dumped d) Fact = ⊥
OfRun (came.Mailed text ran) Fact = ⊥

-- it is of a run during which a version was dumped
abbrev pub OfDump : Answer → (Dumped → List ℕ → Type 0) → Type 0
OfDump (came.Text text) Fact = ⊥
OfDump (came.Ran text f) Fact = ⊥
OfDump (came.Dumped d) Fact = Fact d (bytes_of d.bytes)
OfDump (came.Mailed text ran) Fact = ⊥

-- it is of a run of a mailbox
abbrev pub OfMailbox : Answer → (MailRun → List ℕ → Type 0) → Type 0
OfMailbox (came.Text text) Fact = ⊥
OfMailbox (came.Ran text f) Fact = ⊥
OfMailbox (came.Dumped d) Fact = ⊥
OfMailbox (came.Mailed text ran) Fact = Fact ran text.items

-- By the request.

-- generated scripts were run, or one of them is printed
abbrev pub AnswersMade : GenWords → Option ℕ → Answer → Type 0
AnswersMade made None answer =
    OfRun answer (λ f text. IsRunGiven (IsMade made) default_options f × IsSummaryOf made f text)
AnswersMade made (Some client) answer = OfText answer (λ text. text ≡ printed_of made client)

-- the request comes to this
abbrev pub Answers : (List ℕ → Option (List ℕ)) → Option Asked → Answer → Type 0
Answers holds None answer = ⊥
Answers holds (Some (Run run)) answer = OfRun answer (λ f text.
    IsRunGiven (AreScripts (map holds run.files)) (options_of run) f
    × AreReplies (map holds run.files) run f text)
Answers holds (Some (Replay name)) answer = OfText answer (IsAnswerOf Schedules (holds name))
Answers holds (Some (Gen made)) answer =
    (made.clients * made.commands ≤ MOST_COMMANDS) × AnswersMade made made.print answer
Answers holds (Some (Load name)) answer = OfText answer (IsAnswerOf Dumps (holds name))
Answers holds (Some (Image run)) answer = OfRun answer (λ f text.
    IsRunGiven (AreScripts (map holds run.files)) (options_of run) f × IsHeapText f.image text)
Answers holds (Some (Dump names)) answer = OfDump answer (λ d text.
    IsDumpRunGiven (map holds names) d × IsDumpText d text)
Answers holds (Some (Census name)) answer = OfText answer (IsAnswerOf Images (holds name))
Answers holds (Some (Mail mail)) answer = OfMailbox answer (λ ran text.
    MailsBy mail (map holds mail.files) ran × IsMailedText ran text)

-- the file of a request for one is refused by this fault, or could not be read
abbrev pub RefusesFile : Reading → Option (List ℕ) → Option Dumped → Fault → Type 0
RefusesFile reading told dumped fault =
    Refused (grammar_of reading) (sort_of fault) (Decides reading told fault) (fault ≡ ReadFault 1)
    × IsNone dumped

-- the scripts of a run's files are, or a file could not be read
abbrev pub RefusesScripts : List (Option (List ℕ)) → Option Dumped → Fault → Type 0
RefusesScripts told dumped fault =
    Refused OfScripts (sort_of fault) (AreScripts told (Err fault)) (Unit {0}) × IsNone dumped

-- The request is refused by this fault, or memory was wanting for it. Only of a version that is too
-- large for a dump is there what a run came to.
abbrev pub IsRefusedBy : (List ℕ → Option (List ℕ)) → Option Asked → Option Dumped → Fault
    → Type 0
IsRefusedBy holds None dumped fault = ((fault ≡ Usage) ⊎ (fault ≡ Memory)) × IsNone dumped
IsRefusedBy holds (Some (Run run)) dumped fault =
    RefusesScripts (map holds run.files) dumped fault
IsRefusedBy holds (Some (Replay name)) dumped fault =
    RefusesFile Schedules (holds name) dumped fault
IsRefusedBy holds (Some (Gen made)) dumped fault =
    (((fault ≡ TooLarge 0) × (MOST_COMMANDS < made.clients * made.commands)) ⊎ (fault ≡ Memory))
    × IsNone dumped
IsRefusedBy holds (Some (Load name)) dumped fault = RefusesFile Dumps (holds name) dumped fault
IsRefusedBy holds (Some (Image run)) dumped fault =
    RefusesScripts (map holds run.files) dumped fault
IsRefusedBy holds (Some (Dump names)) dumped fault =
    (Refused OfScripts (sort_of fault) (AreFewScripts (map holds names) (Err fault)) (Unit {0})
    × IsNone dumped)
    ⊎ ((fault ≡ TooLarge 0)
    × IsSomeAnd dumped (λ d. IsDumpRunGiven (map holds names) d × IsNone d.bytes))
IsRefusedBy holds (Some (Census name)) dumped fault = RefusesFile Images (holds name) dumped fault
IsRefusedBy holds (Some (Mail mail)) dumped fault =
    Refused OfMail (sort_of fault) (IsMail (map holds mail.files) (Err fault)) (Unit {0})
    × IsNone dumped

-- the request comes to this answer, or is refused so
abbrev pub Decided : (List ℕ → Option (List ℕ)) → Option Asked → Result Answer Refusal → Type 0
Decided holds asked (Ok answer) = Answers holds asked answer
Decided holds asked (Err refusal) = IsRefusedBy holds asked refusal.dumped refusal.fault

-- the fault in the place of an answer
abbrev pub refusal_of : Result Answer Refusal → Option Fault
refusal_of (Ok answer) = None
refusal_of (Err refusal) = Some refusal.fault

-- the answer is this dump, unless the tree of its version is too large for one
abbrev pub IsOfDump : Dumped → Result Answer Refusal → Type 0
IsOfDump d (Ok answer) = (answer ≡ came.Dumped d) × IsSome d.bytes
IsOfDump d (Err refusal) =
    (refusal.fault ≡ TooLarge 0) × (refusal.dumped ≡ Some d) × IsNone d.bytes
