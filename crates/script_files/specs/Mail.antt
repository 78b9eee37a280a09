-- The scripts of the senders of a mailbox that several files hold, or the fault that decides.
--
-- Too many files are refused unread. Else each file in turn is looked at for its size first, then
-- for its grammar, then for the number of values in the files up to it. The first file that is
-- refused decides.
-- Source: this project's own.
use Rattle.std.specs.Prelude.{◌≡◌, ℕ, List, Option, Result, Ok, Err, Vec, map, nat_lt}
use Rattle.std.specs.Prelude.{if◌then◌else◌}
use Rattle.std.specs.declared.alloc.Global.{Global}
use Rattle.script_files.specs.MailScript.{script_of}
use Rattle.script_files.specs.declared.mail_fault.MailFault.{MailFault}
use Rattle.script_files.specs.Due.{IsDueBy}
use Rattle.script_files.specs.InTurn.{AreListsWithin, Parse, StopsIn, counted, list_in}
use Rattle.script_files.specs.InTurn.{lists_within}
use Rattle.script_files.specs.Sorts.{OfMail, Refused, sort_of}
use Rattle.script_files.specs.declared.fault.Fault.{Fault}
use Rattle.script_files.specs.declared.fault.Fault.TheVariants.{Mail}

-- how many senders a mailbox has at most: the receiver is one mutator more
abbrev pub most_senders : ℕ
most_senders = 63

-- how many of so many files are read: none where they are too many
abbrev pub senders_read : ℕ → ℕ
senders_read files = if nat_lt most_senders files then 0 else files

-- what the reading of the sender's script in this file gives
abbrev pub after_mail : ℕ → ℕ → Result (List ℕ) MailFault → Result (List ℕ) Fault
after_mail file before (Ok values) = counted before values
after_mail file before (Err fault) = Err (Mail file fault.line fault.kind)

-- the values that bytes of this file send that are not too many
abbrev pub parse_mail : Parse ℕ
parse_mail file before bytes = after_mail file before (script_of bytes)

-- the values that the bytes of this file send, after so many values of the files before it
abbrev pub mail_in : ℕ → ℕ → List ℕ → Result (List ℕ) Fault
mail_in file before bytes = list_in parse_mail file before bytes

-- the values of each sender, if the files are not too many
abbrev pub mail_of : List (List ℕ) → Result (List (List ℕ)) Fault
mail_of contents = lists_within most_senders parse_mail contents

-- the same of some contents, which are what the files hold where it is told
abbrev pub IsMail : List (Option (List ℕ)) → Result (List (List ℕ)) Fault → Type 0
IsMail told outcome = AreListsWithin most_senders parse_mail told outcome

-- So many of the files were opened, and those before the last of them are scripts of senders: none
-- is opened after one that is refused.
abbrev pub StopsAtMail : List (Option (List ℕ)) → ℕ → ℕ → Type 0
StopsAtMail told old new = StopsIn parse_mail 1 0 told old new

-- lists in the program's memory
abbrev pub values_of : List (Vec ℕ Global) → List (List ℕ)
values_of scripts = map (λ script. script.items) scripts

-- the answer is these values, or memory ran out
abbrev pub DecidesValues : Result (Vec ℕ Global) Fault → Result (List ℕ) Fault → Type 0
DecidesValues (Ok values) script = script ≡ Ok values.items
DecidesValues (Err fault) script = Refused OfMail (sort_of fault) (script ≡ Err fault) ⊥

-- the answer is the values of each sender, or the fault that decides, or a file could not be read,
-- or memory ran out
abbrev pub DecidesMail : List (Option (List ℕ)) → Result (Vec (Vec ℕ Global) Global) Fault
    → Type 0
DecidesMail told (Ok scripts) = IsMail told (Ok (values_of scripts.items))
DecidesMail told (Err fault) =
    Refused OfMail (sort_of fault) (IsMail told (Err fault)) (Unit {0})

-- the status is that which the scripts of the files call for
abbrev pub IsMailDueFor : List (Option (List ℕ)) → ℕ → Type 0
IsMailDueFor told status = IsDueBy OfMail (λ contents. mail_of contents) told status
