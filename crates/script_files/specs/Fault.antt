-- The status of each sort of faults, and the text that is printed of a fault.
-- Source: this project's own.
use Rattle.std.specs.Prelude.{ℕ, List, ◌++◌, Option, None, Some, codes, decimal, Bool, true, false}
use Rattle.std.specs.Prelude.{◌==◌, if◌then◌else◌}
use Rattle.cmd_text.specs.declared.fault.ScriptKind.{ScriptKind}
use Rattle.cmd_text.specs.declared.fault.ScriptKind.TheVariants.{BadByte, NoCommand, NoBatch}
use Rattle.cmd_text.specs.declared.fault.ScriptKind.TheVariants.{BadNumber, BadPath, NoQuote}
use Rattle.cmd_text.specs.declared.fault.ScriptKind.TheVariants.{LongText, Extra, LongBatch}
use Rattle.core_replay.specs.declared.fault.ScheduleKind.{ScheduleKind}
use Rattle.core_replay.specs.declared.fault.ScheduleKind.TheVariants as schedule
use Rattle.image_files.specs.declared.fault.ImageKind.{ImageKind}
use Rattle.image_files.specs.declared.fault.ImageKind.TheVariants as image
use Rattle.script_files.specs.declared.mail_fault.MailKind.{MailKind}
use Rattle.script_files.specs.declared.mail_fault.MailKind.TheVariants as mail
use Rattle.script_files.specs.Sorts.{Sort, OfWords, OfLine, OfReading, OfWriting, OfMemory, OfSize}
use Rattle.script_files.specs.Sorts.{sort_of}
use Rattle.script_files.specs.declared.fault.Fault.{Fault}
use Rattle.script_files.specs.declared.fault.Fault.TheVariants.{Usage, Script, Schedule, Dump}
use Rattle.script_files.specs.declared.fault.Fault.TheVariants.{Image, Mail, ReadFault}
use Rattle.script_files.specs.declared.fault.Fault.TheVariants.{WriteFault, Memory, TooLarge}
use Rattle.dump_text.specs.declared.fault.LoadKind.{LoadKind}
use Rattle.dump_text.specs.declared.fault.LoadKind.TheVariants as load

-- the status of a sort of faults
abbrev pub status_by : Sort → ℕ
status_by OfWords = 1
status_by (OfLine grammar) = 2
status_by OfReading = 3
status_by OfWriting = 4
status_by OfMemory = 5
status_by OfSize = 6

-- the status of a run
abbrev pub status_of : Option Fault → ℕ
status_of None = 0
status_of (Some fault) = status_by (sort_of fault)

-- the word for what is wrong in a line
abbrev pub kind_text_of : ScriptKind → List ℕ
kind_text_of BadByte = codes "BadByte"
kind_text_of NoCommand = codes "NoCommand"
kind_text_of NoBatch = codes "NoBatch"
kind_text_of BadNumber = codes "BadNumber"
kind_text_of BadPath = codes "BadPath"
kind_text_of NoQuote = codes "NoQuote"
kind_text_of LongText = codes "LongText"
kind_text_of Extra = codes "Extra"
kind_text_of LongBatch = codes "LongBatch"

-- the same for a line of a schedule
abbrev pub schedule_kind_text_of : ScheduleKind → List ℕ
schedule_kind_text_of schedule.BadByte = codes "BadByte"
schedule_kind_text_of schedule.NoStart = codes "NoStart"
schedule_kind_text_of schedule.NoEvent = codes "NoEvent"
schedule_kind_text_of schedule.BadNumber = codes "BadNumber"
schedule_kind_text_of schedule.Extra = codes "Extra"

-- the same for a line of a dump
abbrev pub load_kind_text_of : LoadKind → List ℕ
load_kind_text_of load.NoHead = codes "NoHead"
load_kind_text_of load.BadEnd = codes "BadEnd"
load_kind_text_of load.BadLine = codes "BadLine"
load_kind_text_of load.NoOrder = codes "NoOrder"
load_kind_text_of load.Many = codes "Many"
load_kind_text_of load.Big = codes "Big"

-- the same for a line of a heap file
abbrev pub image_kind_text_of : ImageKind → List ℕ
image_kind_text_of image.NoHead = codes "NoHead"
image_kind_text_of image.BadEnd = codes "BadEnd"
image_kind_text_of image.BadLine = codes "BadLine"
image_kind_text_of image.NoOrder = codes "NoOrder"
image_kind_text_of image.Blue = codes "Blue"
image_kind_text_of image.BadShape = codes "BadShape"

-- the same for a line of a sender's script
abbrev pub mail_kind_text_of : MailKind → List ℕ
mail_kind_text_of mail.BadByte = codes "BadByte"
mail_kind_text_of mail.NoCommand = codes "NoCommand"
mail_kind_text_of mail.BadNumber = codes "BadNumber"
mail_kind_text_of mail.Extra = codes "Extra"

-- what is said of a file
abbrev pub file_text_of : ℕ → List ℕ → List ℕ
file_text_of file what = codes "docheap: file " ++ (decimal file ++ (codes ": " ++ what))

-- what is said of a line
abbrev pub line_text_of : ℕ → List ℕ → List ℕ
line_text_of line kind = codes "line " ++ (decimal line ++ (codes ": " ++ kind))

-- the text of a fault, without a line feed
abbrev pub fault_text_of : Fault → List ℕ
fault_text_of Usage = codes "docheap: usage"
fault_text_of (Script file line kind) = file_text_of file (line_text_of line (kind_text_of kind))
fault_text_of (Schedule line kind) = file_text_of 1 (line_text_of line (schedule_kind_text_of kind))
fault_text_of (Dump line kind) = file_text_of 1 (line_text_of line (load_kind_text_of kind))
fault_text_of (Image line kind) = file_text_of 1 (line_text_of line (image_kind_text_of kind))
fault_text_of (Mail file line kind) =
    file_text_of file (line_text_of line (mail_kind_text_of kind))
fault_text_of (ReadFault file) = file_text_of file (codes "read fault")
fault_text_of WriteFault = codes "docheap: write fault"
fault_text_of Memory = codes "docheap: out of memory"
fault_text_of (TooLarge file) =
    if file == 0 then codes "docheap: too large" else file_text_of file (codes "too large")

-- the fault that the program ends with, by that of its run and by whether all was written out
abbrev pub final_fault_of : Option Fault → Bool → Option Fault
final_fault_of (Some fault) finished = Some fault
final_fault_of None true = None
final_fault_of None false = Some WriteFault
