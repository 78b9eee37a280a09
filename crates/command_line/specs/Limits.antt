-- Between which numbers the numbers of a request are.
-- Source: this project's own.
use Rattle.std.specs.Prelude.{◌≤◌, ℕ, List, IfSome, codes, length}
use Rattle.cell_words.specs.declared.controls.TheConstants.{GREATEST_CYCLES}
use Rattle.cell_words.specs.declared.controls.TheConstants.{GREATEST_POSITION}
use Rattle.clap.specs.Words.{Row}
use Rattle.command_line.specs.Readings.{IsNumberWithin}
use Rattle.command_line.specs.declared.request.GenWords.{GenWords}
use Rattle.command_line.specs.declared.request.MailWords.{MailWords}
use Rattle.command_line.specs.declared.request.Request.{Request}
use Rattle.command_line.specs.declared.request.Request.TheVariants as code
use Rattle.command_line.specs.declared.request.RunWords.{RunWords}
use Rattle.run_limits.specs.declared.TheConstants.{MOST_CLIENTS}

-- the number is one of these or between them
abbrev pub IsBetween : ℕ → ℕ → ℕ → Type 0
IsBetween least most number = (least ≤ number) × (number ≤ most)

-- what `clap` found for the options of a run are numbers in their ends
pub record AreOptions (rows : List Row) : Type 0 where
  pub cells : IsNumberWithin (codes "cells") 64 GREATEST_POSITION rows
  pub minor : IsNumberWithin (codes "minor") 4_096 262_144 rows
  pub keep : IsNumberWithin (codes "keep") 1 100 rows
  pub versions : IsNumberWithin (codes "versions") 1 1_000_000 rows
  pub cycles : IsNumberWithin (codes "cycles") 0 GREATEST_CYCLES rows

-- the numbers of a run's options
pub record HasNumbersWithin (run : RunWords) : Type 0 where
  pub cells : IsBetween 64 GREATEST_POSITION run.cells
  pub minor : IsBetween 4_096 262_144 run.minor
  pub keep : IsBetween 1 100 run.keep
  pub versions : IsBetween 1 1_000_000 run.versions
  pub cycles : IsBetween 0 GREATEST_CYCLES run.cycles

-- these, and a file or more
pub record IsRunWithin (run : RunWords) : Type 0 where
  pub numbers : HasNumbersWithin run
  pub files : 1 ≤ length run.files.items

-- what `clap` found for the options of a run of a mailbox are numbers in their ends
pub record AreMailOptions (rows : List Row) : Type 0 where
  pub cells : IsNumberWithin (codes "cells") 64 GREATEST_POSITION rows
  pub cycles : IsNumberWithin (codes "cycles") 0 GREATEST_CYCLES rows

-- the numbers of a mailbox's options
pub record HasMailNumbersWithin (mail : MailWords) : Type 0 where
  pub cells : IsBetween 64 GREATEST_POSITION mail.cells
  pub cycles : IsBetween 0 GREATEST_CYCLES mail.cycles

-- these, and a file or more
pub record IsMailWithin (mail : MailWords) : Type 0 where
  pub numbers : HasMailNumbersWithin mail
  pub files : 1 ≤ length mail.files.items

-- the numbers of generated scripts
pub record HasGenNumbersWithin (words : GenWords) : Type 0 where
  pub start : IsBetween 0 2_147_483_647 words.start
  pub clients : IsBetween 1 MOST_CLIENTS words.clients
  pub commands : IsBetween 1 10_000 words.commands
  pub print : IfSome words.print (IsBetween 1 MOST_CLIENTS)

-- these, and the client whose script is printed is one of the clients
pub record IsGenWithin (words : GenWords) : Type 0 where
  pub numbers : HasGenNumbersWithin words
  pub client : IfSome words.print (λ client. client ≤ words.clients)

-- the numbers of a request
abbrev pub IsWithin : Request → Type 0
IsWithin (code.Run run) = IsRunWithin run
IsWithin (code.Replay name) = Unit {0}
IsWithin (code.Gen words) = IsGenWithin words
IsWithin (code.Load name) = Unit {0}
IsWithin (code.Image run) = IsRunWithin run
IsWithin (code.Dump names) = 1 ≤ length names.items
IsWithin (code.Census name) = Unit {0}
IsWithin (code.Mail mail) = IsMailWithin mail
