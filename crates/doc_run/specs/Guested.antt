-- A run of clients beside which a version is dumped: what it comes to, and which status is due.
--
-- The guest that dumps is one mutator more, so that one script fewer is taken than of a run without
-- it.
-- Source: this project's own.
use Rattle.std.specs.Prelude.{◌≡◌, ℕ, List, length, Option, IsNone, IsSomeAnd}
use Rattle.std.specs.Prelude.{Result, Ok, Err, IsOk, IsErrAnd, ◌⊎◌, ◌↔◌, if◌then◌else◌, nat_lt}
use Rattle.doc_export.specs.Dumps.{Dumps}
use Rattle.doc_export.specs.declared.dumped.Dumped.{Dumped}
use Rattle.doc_model.specs.declared.command.Command.{Command}
use Rattle.script_files.specs.Files.{Agree}
use Rattle.script_files.specs.Due.{IsLarge, IsUnhindered}
use Rattle.script_files.specs.Scripts.{IsFaultyLine, scripts_of}
use Rattle.script_files.specs.Sorts.{OfScripts, Refused, sort_of}
use Rattle.script_files.specs.declared.fault.Fault.{Fault}
use Rattle.script_files.specs.declared.fault.Fault.TheVariants.{Memory, TooLarge}
use Rattle.doc_run.specs.Clients.{default_options}

-- how many scripts a dump has at most
abbrev pub most_beside : ℕ
most_beside = 63

-- how many of so many files are read: none where they are too many
abbrev pub few_read : ℕ → ℕ
few_read files = if nat_lt most_beside files then 0 else files

-- the scripts of all files, if they are not too many
abbrev pub few_scripts_of : List (List ℕ) → Result (List (List Command)) Fault
few_scripts_of contents =
    if nat_lt most_beside (length contents) then Err (TooLarge 0) else scripts_of contents

-- the same of some contents, which are what the files hold where it is told
abbrev pub AreFewScripts : List (Option (List ℕ)) → Result (List (List Command)) Fault → Type 0
AreFewScripts told outcome =
    (contents : List (List ℕ)) × Agree told contents × (few_scripts_of contents ≡ outcome)

-- this is what the run of these scripts came to, beside which a version was dumped
abbrev pub IsDumpRunOf : List (List Command) → Dumped → Type 0
IsDumpRunOf scripts d =
    Dumps default_options scripts d.logs.items d.passes d.version d.count d.bytes

-- the same of the scripts of the files
abbrev pub IsDumpRunGiven : List (Option (List ℕ)) → Dumped → Type 0
IsDumpRunGiven told d =
    (scripts : List (List Command)) × AreFewScripts told (Ok scripts) × IsDumpRunOf scripts d

-- a version was taken whose tree has too many nodes for a dump
abbrev pub IsTooLarge : Option Dumped → Type 0
IsTooLarge dumped = IsSomeAnd dumped (λ d. IsNone d.bytes)

-- the text is the dump
abbrev pub IsDumpText : Dumped → List ℕ → Type 0
IsDumpText d text = IsSomeAnd d.bytes (λ bytes. text ≡ bytes.items)

-- the answer is what the run of these scripts came to, or memory was wanting
abbrev pub FinishesDump : List (List Command) → Result Dumped Fault → Type 0
FinishesDump scripts (Ok d) = IsDumpRunOf scripts d
FinishesDump scripts (Err fault) = fault ≡ Memory

-- the answer is what the run of the files' scripts came to, or the fault that decides, or a file
-- could not be read, or memory was wanting
abbrev pub DecidesDump : List (Option (List ℕ)) → Result Dumped Fault → Type 0
DecidesDump told (Ok d) = IsDumpRunGiven told d
DecidesDump told (Err fault) =
    Refused OfScripts (sort_of fault) (AreFewScripts told (Err fault)) (Unit {0})

-- the status is that which the scripts of the files and the tree of the version call for
pub record IsDumpDue (scripts : Result (List (List Command)) Fault) (dumped : Option Dumped)
    (status : ℕ) : Type 0 where
  -- refused for a faulty line
  pub faulty : (status ≡ 2) ↔ (IsUnhindered status × IsErrAnd scripts IsFaultyLine)
  -- refused for too many files, bytes, commands or nodes
  pub large : (status ≡ 6)
      ↔ (IsUnhindered status × (IsErrAnd scripts IsLarge ⊎ IsTooLarge dumped))
  -- not refused: done, or a device failed, or memory was wanting, or the tree is too large
  pub complete : IsOk scripts
      → (status ≡ 0) ⊎ (status ≡ 3) ⊎ (status ≡ 4) ⊎ (status ≡ 5) ⊎ IsTooLarge dumped

-- The status is due by what the files hold, where what is told of them decides that: all contents
-- that agree with it give the same.
abbrev pub IsDumpDueFor : List (Option (List ℕ)) → Option Dumped → ℕ → Type 0
IsDumpDueFor told dumped status = (scripts : Result (List (List Command)) Fault)
    → ((contents : List (List ℕ)) → Agree told contents → few_scripts_of contents ≡ scripts)
    → IsDumpDue scripts dumped status
