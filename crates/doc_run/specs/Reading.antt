-- What the file of a request for one file is read as, and what is written of it.
--
-- What the file holds is told or not.
-- Source: this project's own.
use Rattle.std.specs.Prelude.{◌≡◌, ℕ, ◌<◌, List, length, Option, IfSome, Result, Ok}
use Rattle.std.specs.Prelude.{Err, ◌⊎◌, ◌↔◌, Vec}
use Rattle.std.specs.declared.alloc.Global.{Global}
use Rattle.doc_tree.specs.Tree.{DocTree}
use Rattle.heap_census.specs.declared.numbers.Census.{Census}
use Rattle.result_text.specs.Counted.{census_text_of}
use Rattle.result_text.specs.Loaded.{loaded_text_of}
use Rattle.script_files.specs.Counted.{HoldsImage, IsFaultyImage, IsImageFile, OfBytes}
use Rattle.script_files.specs.Counted.{RefusesBytes}
use Rattle.script_files.specs.Loaded.{HoldsDump, IsDumpFile, IsDumpRead, IsFaultyDump}
use Rattle.script_files.specs.Replayed.{IsFaultySchedule, IsReading, IsSchedule, IsTextOf}
use Rattle.script_files.specs.InTurn.{largest_file}
use Rattle.script_files.specs.Due.{IsUnhindered}
use Rattle.script_files.specs.Sorts.{Grammar, OfSchedules, OfDumps, OfImages, Refused, sort_of}
use Rattle.script_files.specs.declared.fault.Fault.{Fault}
use Rattle.script_files.specs.declared.fault.Fault.TheVariants.{ReadFault}
use Rattle.doc_run.specs.declared.reading.Reading.{Reading}
use Rattle.doc_run.specs.declared.reading.Reading.TheVariants.{Schedules, Dumps, Images}

abbrev pub grammar_of : Reading → Grammar
grammar_of Schedules = OfSchedules
grammar_of Dumps = OfDumps
grammar_of Images = OfImages

-- a file within its size that is as it is read
abbrev pub IsGoodFile : Reading → List ℕ → Type 0
IsGoodFile Schedules bytes = IsSchedule bytes
IsGoodFile Dumps bytes = IsDumpFile bytes
IsGoodFile Images bytes = IsImageFile bytes

-- a file within its size that is not
abbrev pub IsFaultyFile : Reading → List ℕ → Type 0
IsFaultyFile Schedules bytes = IsFaultySchedule bytes
IsFaultyFile Dumps bytes = IsFaultyDump bytes
IsFaultyFile Images bytes = IsFaultyImage bytes

-- what is written of the file: its replay text, how large the tree of its dump is, or the census of
-- its heap
abbrev pub IsAnswerOf : Reading → Option (List ℕ) → List ℕ → Type 0
IsAnswerOf Schedules told text = IsTextOf told text
IsAnswerOf Dumps told text =
    (v : ℕ) × (t : DocTree) × HoldsDump told v t × (text ≡ loaded_text_of v t)
IsAnswerOf Images told text =
    (census : Census) × HoldsImage told census × (text ≡ census_text_of census)

-- the file is refused by this fault for what it holds
abbrev pub Decides : Reading → Option (List ℕ) → Fault → Type 0
Decides Schedules told fault = IsReading told (Err fault)
Decides Dumps told fault =
    IsDumpRead told (Err fault) × IfSome told (λ bytes. IsDumpFile bytes → ⊥)
Decides Images told fault = OfBytes told (λ bytes. RefusesBytes bytes fault)

-- the status is that which the file calls for
pub record IsFileDue (reading : Reading) (bytes : List ℕ) (status : ℕ) : Type 0 where
  -- refused for a fault of its grammar
  pub faulty : (status ≡ 2) ↔ (IsUnhindered status × IsFaultyFile reading bytes)
  -- refused for too many bytes
  pub large : (status ≡ 6) ↔ (IsUnhindered status × (largest_file < length bytes))
  -- not refused: done, or a device failed, or memory was wanting
  pub complete : IsGoodFile reading bytes
      → (status ≡ 0) ⊎ (status ≡ 3) ⊎ (status ≡ 4) ⊎ (status ≡ 5)

-- it is answered, or refused by the fault that decides, or could not be read, or memory was wanting
abbrev pub AnswersFile : Reading → Option (List ℕ) → Result (Vec ℕ Global) Fault → Type 0
AnswersFile reading told (Ok text) = IsAnswerOf reading told text.items
AnswersFile reading told (Err fault) =
    Refused (grammar_of reading) (sort_of fault) (Decides reading told fault)
    (fault ≡ ReadFault 1)
