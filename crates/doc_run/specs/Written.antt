-- How a run ends, by the answer to its request and by what became of the text.
-- Source: this project's own.
use Rattle.std.specs.Prelude.{◌≡◌, ℕ, List, Option, None, Some, Result, Ok, Err, ◌⊎◌}
use Rattle.std.specs.Io.KnownBytes.{Appends}
use Rattle.outside.specs.Pieces.{AppendsPart}
use Rattle.script_files.specs.declared.fault.Fault.TheVariants.{WriteFault, Memory}
use Rattle.doc_run.specs.Answers.{HandsBack, text_of}
use Rattle.doc_run.specs.declared.answer.Answer.{Answer}
use Rattle.doc_run.specs.declared.answer.Refusal.{Refusal}
use Rattle.doc_run.specs.declared.outcome.Outcome.{Outcome}

-- its text was written whole, and it is handed back
abbrev pub IsDone : Answer → Outcome → Option (List ℕ) → Option (List ℕ) → Type 0
IsDone answer result old new =
    (result.fault ≡ None) × HandsBack answer result × Appends old new (text_of answer)

-- a front of its text was written, and it is handed back
abbrev pub IsCut : Answer → Outcome → Option (List ℕ) → Option (List ℕ) → Type 0
IsCut answer result old new =
    (result.fault ≡ Some WriteFault) × HandsBack answer result
    × AppendsPart old new (text_of answer)

-- a front of its text was written, and it is let go
abbrev pub IsLetGo : Answer → Outcome → Option (List ℕ) → Option (List ℕ) → Type 0
IsLetGo answer result old new =
    (result.fault ≡ Some Memory) × (result.finished ≡ None) × (result.dumped ≡ None)
    × (result.mailed ≡ None) × AppendsPart old new (text_of answer)

-- nothing was written
abbrev pub IsRefused : Refusal → Outcome → Option (List ℕ) → Option (List ℕ) → Type 0
IsRefused refusal result old new =
    (result.fault ≡ Some refusal.fault) × (result.finished ≡ None)
    × (result.dumped ≡ refusal.dumped) × (result.mailed ≡ None) × (new ≡ old)

abbrev pub Ended : Result Answer Refusal → Outcome → Option (List ℕ) → Option (List ℕ) → Type 0
Ended (Ok answer) result old new =
    IsDone answer result old new ⊎ IsCut answer result old new ⊎ IsLetGo answer result old new
Ended (Err refusal) result old new = IsRefused refusal result old new
