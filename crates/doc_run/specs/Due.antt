-- The status that a request calls for: a line a request.
-- Source: this project's own.
use Rattle.std.specs.Prelude.{ℕ, List, Option, None, Some, IfSome, map}
use Rattle.doc_export.specs.declared.dumped.Dumped.{Dumped}
use Rattle.command_line.specs.Requests.{Asked, Run, Replay, Gen, Load, Image, Dump, Census, Mail}
use Rattle.script_files.specs.Mail.{IsMailDueFor}
use Rattle.script_files.specs.Scripts.{IsDueFor}
use Rattle.doc_run.specs.Guested.{IsDumpDueFor}
use Rattle.doc_run.specs.Made.{IsMadeDue}
use Rattle.doc_run.specs.Reading.{IsFileDue}
use Rattle.doc_run.specs.declared.reading.Reading.TheVariants.{Schedules, Dumps, Images}

-- by the files, where what is told of them decides that
abbrev pub IsDueOf : (List ℕ → Option (List ℕ)) → Option Asked → Option Dumped → ℕ → Type 0
IsDueOf holds None dumped status = Unit {0}
IsDueOf holds (Some (Run run)) dumped status = IsDueFor (map holds run.files) status
IsDueOf holds (Some (Replay name)) dumped status =
    IfSome (holds name) (λ bytes. IsFileDue Schedules bytes status)
IsDueOf holds (Some (Gen made)) dumped status = IsMadeDue made status
IsDueOf holds (Some (Load name)) dumped status =
    IfSome (holds name) (λ bytes. IsFileDue Dumps bytes status)
IsDueOf holds (Some (Image run)) dumped status = IsDueFor (map holds run.files) status
IsDueOf holds (Some (Dump names)) dumped status = IsDumpDueFor (map holds names) dumped status
IsDueOf holds (Some (Census name)) dumped status =
    IfSome (holds name) (λ bytes. IsFileDue Images bytes status)
IsDueOf holds (Some (Mail mail)) dumped status = IsMailDueFor (map holds mail.files) status
