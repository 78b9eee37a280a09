-- How the answer of a reading of a script relates to the definition: equal, unless out of memory.
-- Source: this project's own.
use Rattle.std.specs.Prelude.{◌≡◌, ℕ, List, Result, Ok, Err, Vec}
use Rattle.std.specs.declared.alloc.Global.{Global}
use Rattle.script_files.specs.declared.mail_fault.MailError.{MailError}
use Rattle.script_files.specs.declared.mail_fault.MailError.TheVariants as mail
use Rattle.script_files.specs.declared.mail_fault.MailFault.{MailFault}

-- the answer is this script
abbrev pub Reads : Result (Vec ℕ Global) MailError → Result (List ℕ) MailFault → Type 0
Reads (Ok values) script = script ≡ Ok values.items
Reads (Err (mail.Fault fault)) script = script ≡ Err fault
Reads (Err mail.NoMemory) script = Unit {0}
