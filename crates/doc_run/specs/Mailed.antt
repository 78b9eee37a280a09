-- A run of a mailbox: what it comes to.
-- Source: this project's own.
use Rattle.std.specs.Prelude.{◌≡◌, ℕ, List, Option, Result, Ok, Err}
use Rattle.mail_run.specs.Comes.{ComesMail}
use Rattle.mail_run.specs.declared.finished.MailRun.{MailRun}
use Rattle.result_text.specs.Mailed.{mailed_text_of}
use Rattle.command_line.specs.Requests.{MailAsked}
use Rattle.script_files.specs.Mail.{IsMail}
use Rattle.script_files.specs.Sorts.{OfMail, Refused, sort_of}
use Rattle.script_files.specs.declared.fault.Fault.{Fault}
use Rattle.script_files.specs.declared.fault.Fault.TheVariants.{Memory}

-- this is what a run of these values came to, on so many cells, in so many cycles at most
abbrev pub MailsOf : ℕ → ℕ → List (List ℕ) → MailRun → Type 0
MailsOf cells cycles scripts ran =
    ComesMail cells cycles scripts ran.sent.items ran.items.items ran.passes

-- this is what a run by these words came to, of the values that the files send
abbrev pub MailsBy : MailAsked → List (Option (List ℕ)) → MailRun → Type 0
MailsBy mail told ran =
    (scripts : List (List ℕ)) × IsMail told (Ok scripts)
    × MailsOf mail.cells mail.cycles scripts ran

-- the text is that of what it came to
abbrev pub IsMailedText : MailRun → List ℕ → Type 0
IsMailedText ran text = text ≡ mailed_text_of ran.sent.items ran.items.items

-- the answer is what a run of these values came to, or memory was wanting
abbrev pub FinishesMail : ℕ → ℕ → List (List ℕ) → Result MailRun Fault → Type 0
FinishesMail cells cycles scripts (Ok ran) = MailsOf cells cycles scripts ran
FinishesMail cells cycles scripts (Err fault) = fault ≡ Memory

-- the answer is what a run of the files' values came to, or the fault that decides, or a file could
-- not be read, or memory was wanting
abbrev pub DecidesMailRun : MailAsked → List (Option (List ℕ)) → Result MailRun Fault → Type 0
DecidesMailRun mail told (Ok ran) = MailsBy mail told ran
DecidesMailRun mail told (Err fault) =
    Refused OfMail (sort_of fault) (IsMail told (Err fault)) (Unit {0})
