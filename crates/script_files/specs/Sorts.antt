-- Of which sort each fault is, and what a refusal says by that.
--
-- What is said of an answer goes by the sort of its fault, so that a fault in the lines of one file
-- more is of a sort that is there already. The grammar of a faulty line is given by an equation: so
-- one grammar more adds no case.
-- Source: this project's own.
use Rattle.std.specs.Prelude.{◌≡◌}
use Rattle.script_files.specs.declared.fault.Fault.{Fault}
use Rattle.script_files.specs.declared.fault.Fault.TheVariants.{Usage, Script, Schedule, Dump}
use Rattle.script_files.specs.declared.fault.Fault.TheVariants.{Image, Mail, ReadFault}
use Rattle.script_files.specs.declared.fault.Fault.TheVariants.{WriteFault, Memory, TooLarge}

-- what a file is read as
pub data Grammar : Type 0 where
  OfScripts : Grammar
  OfSchedules : Grammar
  OfDumps : Grammar
  OfImages : Grammar
  OfMail : Grammar

-- what a fault lies in: the words of the command line, a line of a file, the reading of a file, the
-- writing of the output, out of memory, or a size
pub data Sort : Type 0 where
  OfWords : Sort
  OfLine : Grammar → Sort
  OfReading : Sort
  OfWriting : Sort
  OfMemory : Sort
  OfSize : Sort

-- the sort of a fault
abbrev pub sort_of : Fault → Sort
sort_of Usage = OfWords
sort_of (Script file line kind) = OfLine OfScripts
sort_of (Schedule line kind) = OfLine OfSchedules
sort_of (Dump line kind) = OfLine OfDumps
sort_of (Image line kind) = OfLine OfImages
sort_of (Mail file line kind) = OfLine OfMail
sort_of (ReadFault file) = OfReading
sort_of WriteFault = OfWriting
sort_of Memory = OfMemory
sort_of (TooLarge file) = OfSize

-- What is so where files of this grammar are refused: the one fact where what they hold decides the
-- fault, the other where one of them could not be read. Memory may always run out.
abbrev pub Refused : Grammar → Sort → Type 0 → Type 0 → Type 0
Refused grammar OfWords Decided Unread = ⊥
Refused grammar (OfLine other) Decided Unread = (other ≡ grammar) × Decided
Refused grammar OfReading Decided Unread = Unread
Refused grammar OfWriting Decided Unread = ⊥
Refused grammar OfMemory Decided Unread = Unit {0}
Refused grammar OfSize Decided Unread = Decided
