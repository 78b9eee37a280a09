-- Which calls of a shelf a request makes, before anything is written.
-- Source: this project's own.
use Rattle.std.specs.Prelude.{◌≡◌, ◌≢◌, ℕ, ◌+◌, ◌*◌, ◌≤◌, List, length, map, Option, None, Some}
use Rattle.std.specs.Prelude.{Result, Ok, Err}
use Rattle.outside.specs.Calls.{IsUnbroken, IsOrderly}
use Rattle.outside.specs.Causes.{Rose}
use Rattle.outside.specs.declared.course.Course.{Course}
use Rattle.command_line.specs.Requests.{Asked, Run, Replay, Gen, Load, Image, Dump, Census, Mail}
use Rattle.script_files.specs.Fault.{status_of}
use Rattle.script_files.specs.Files.{opened}
use Rattle.script_files.specs.Mail.{StopsAtMail}
use Rattle.script_files.specs.Scripts.{StopsBehind}
use Rattle.script_files.specs.declared.fault.Fault.{Fault}
use Rattle.script_files.specs.declared.fault.Fault.TheVariants.{ReadFault}
use Rattle.doc_run.specs.Request.{files_of, names_of}

-- of so many files each was opened once at most, and unless memory was wanting the first one was
abbrev pub OpensFiles : ℕ → ℕ → ℕ → ℕ → Type 0
OpensFiles status before now files =
    (count : ℕ) × (count ≤ files) × (status ≢ 5 → 1 ≤ files → 1 ≤ count)
    × (now ≡ opened before count)

-- those in front of the last that was opened are what they are read as: none is opened after one
-- that is refused
abbrev pub StopsOf : (List ℕ → Option (List ℕ)) → Option Asked → ℕ → ℕ → Type 0
StopsOf holds None old new = Unit {0}
StopsOf holds (Some (Run run)) old new = StopsBehind 1 0 (map holds run.files) old new
StopsOf holds (Some (Replay name)) old new = Unit {0}
StopsOf holds (Some (Gen made)) old new = Unit {0}
StopsOf holds (Some (Load name)) old new = Unit {0}
StopsOf holds (Some (Image run)) old new = StopsBehind 1 0 (map holds run.files) old new
StopsOf holds (Some (Dump names)) old new = StopsBehind 1 0 (map holds names) old new
StopsOf holds (Some (Census name)) old new = Unit {0}
StopsOf holds (Some (Mail mail)) old new = StopsAtMail (map holds mail.files) old new

-- the fault that a reading gives
abbrev pub err_of : {A : Type 0} → Result A Fault → Option Fault
err_of (Ok value) = None
err_of (Err fault) = Some fault

-- The calls that are made for a request, which came to an answer or was refused by this fault. The
-- limit is how many bytes of a file are taken at most.
pub record Reads (holds : List ℕ → Option (List ℕ)) (asked : Option Asked) (fault : Option Fault)
    (limit old_opens new_opens old_calls new_calls old_faults new_faults : ℕ)
    (old_course new_course : Course) : Type 0 where
  pub read : (file : ℕ) → fault ≡ Some (ReadFault file) → Rose old_faults new_faults
  pub read_file : (file : ℕ) → fault ≡ Some (ReadFault file) → new_opens ≡ opened old_opens file
  pub opens : OpensFiles (status_of fault) old_opens new_opens (files_of asked)
  pub all_opened : fault ≡ None → new_opens ≡ opened old_opens (length (names_of asked))
  pub stops : StopsOf holds asked old_opens new_opens
  pub calls : new_calls ≤ old_calls + files_of asked * (limit + 1)
  pub unbroken : fault ≡ None → IsUnbroken old_course → IsUnbroken new_course
  pub orderly : IsUnbroken old_course → IsOrderly new_course
