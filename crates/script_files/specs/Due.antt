-- The status that the contents of several files call for, by the grammar that they are read by.
-- Source: this project's own.
use Rattle.std.specs.Prelude.{◌≡◌, ℕ, List, Option, Result, IsOk, IsErrAnd, ◌⊎◌, ◌↔◌, ◌≢◌}
use Rattle.script_files.specs.Files.{Agree}
use Rattle.script_files.specs.Sorts.{Grammar, OfLine, OfSize, sort_of}
use Rattle.script_files.specs.declared.fault.Fault.{Fault}

-- a fault of this grammar
abbrev pub IsFaultyIn : Grammar → Fault → Type 0
IsFaultyIn grammar fault = sort_of fault ≡ OfLine grammar

-- a fault of sizes
abbrev pub IsLarge : Fault → Type 0
IsLarge fault = sort_of fault ≡ OfSize

-- the run ended neither by a read fault nor out of memory
abbrev pub IsUnhindered : ℕ → Type 0
IsUnhindered status = (status ≢ 3) × (status ≢ 5)

-- the status is that which this reading of the files calls for
pub record IsDueIn {A : Type 0} (grammar : Grammar) (reading : Result A Fault) (status : ℕ)
    : Type 0 where
  -- refused for a faulty line
  pub faulty : (status ≡ 2) ↔ (IsUnhindered status × IsErrAnd reading (IsFaultyIn grammar))
  -- refused for too many bytes, files or commands
  pub large : (status ≡ 6) ↔ (IsUnhindered status × IsErrAnd reading IsLarge)
  -- not refused: done, or a device failed, or memory ran out
  pub complete : IsOk reading
      → (status ≡ 0) ⊎ (status ≡ 3) ⊎ (status ≡ 4) ⊎ (status ≡ 5)

-- this is how some contents are read, which are what the files hold where it is told
abbrev pub Reads : {A : Type 0} → (List (List ℕ) → Result A Fault) → List (Option (List ℕ))
    → Result A Fault → Type 0
Reads reading told outcome =
    (contents : List (List ℕ)) × Agree told contents × (reading contents ≡ outcome)

-- The status is due by what the files hold, where what is told of them decides that: all contents
-- that agree with it give the same. (A faulty first file decides, whatever the second one holds.)
abbrev pub IsDueBy : {A : Type 0} → Grammar → (List (List ℕ) → Result A Fault)
    → List (Option (List ℕ)) → ℕ → Type 0
IsDueBy {A} grammar reading told status = (outcome : Result A Fault)
    → ((contents : List (List ℕ)) → Agree told contents → reading contents ≡ outcome)
    → IsDueIn grammar outcome status
