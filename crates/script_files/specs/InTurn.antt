-- The lists that several files hold, one file after another, by whatever grammar they are read.
--
-- Each file in turn is looked at for its size first, then for its grammar, then for the number of
-- items in the files up to it. The first file that is refused decides.
-- Source: this project's own.
use Rattle.std.specs.Prelude.{◌≡◌, ℕ, ◌+◌, ◌-◌, ◌≤◌, List, [], ◌∷◌, ◌++◌, length, take, map}
use Rattle.std.specs.Prelude.{nat_lt, Option, IfSome, Result, Ok, Err, if◌then◌else◌}
use Rattle.run_limits.specs.declared.TheConstants.{MOST_COMMANDS}
use Rattle.script_files.specs.Files.{Agree, opened}
use Rattle.script_files.specs.Sorts.{Grammar, Refused, sort_of}
use Rattle.script_files.specs.declared.fault.Fault.{Fault}
use Rattle.script_files.specs.declared.fault.Fault.TheVariants.{ReadFault, TooLarge}

-- how many bytes a file has at most
abbrev pub largest_file : ℕ
largest_file = 1048576

-- How a grammar reads the bytes of a file that are not too many: by the number of the file, and by
-- how many items stand in the files before it.
abbrev pub Parse : Type 0 → Type 0
Parse A = ℕ → ℕ → List ℕ → Result (List A) Fault

-- items that come after so many others
abbrev pub counted : {A : Type 0} → ℕ → List A → Result (List A) Fault
counted before items =
    if nat_lt MOST_COMMANDS (before + length items) then Err (TooLarge 0) else Ok items

-- what this file gives, if it is not too long
abbrev pub within_size : {A : Type 0} → ℕ → (List ℕ → Result A Fault) → List ℕ → Result A Fault
within_size file reading bytes =
    if nat_lt largest_file (length bytes) then Err (TooLarge file) else reading bytes

-- the list that the bytes of this file are, after so many items of the files before it
abbrev pub list_in : {A : Type 0} → Parse A → ℕ → ℕ → List ℕ → Result (List A) Fault
list_in parse file before bytes = within_size file (λ all. parse file before all) bytes

-- a list in front of others
abbrev pub with_first : {A : Type 0} → List A → Result (List (List A)) Fault
    → Result (List (List A)) Fault
with_first list (Ok lists) = Ok (list ∷ lists)
with_first list (Err fault) = Err fault

-- a list before those that are read after it, if it is one
abbrev pub in_front : {A : Type 0} → Result (List A) Fault
    → (List A → Result (List (List A)) Fault) → Result (List (List A)) Fault
in_front (Ok list) others = with_first list (others list)
in_front (Err fault) others = Err fault

-- the lists of files with these contents, from this file on
abbrev pub lists_from : {A : Type 0} → Parse A → ℕ → ℕ → List (List ℕ)
    → Result (List (List A)) Fault
lists_from parse file before [] = Ok []
lists_from parse file before (bytes ∷ contents) =
    in_front (list_in parse file before bytes)
    (λ list. lists_from parse (file + 1) (before + length list) contents)

-- the lists of all files, if these are not more than so many
abbrev pub lists_within : {A : Type 0} → ℕ → Parse A → List (List ℕ)
    → Result (List (List A)) Fault
lists_within most parse contents =
    if nat_lt most (length contents) then Err (TooLarge 0) else lists_from parse 1 0 contents

-- the list of some bytes of this file, which are all that it holds where that is told
abbrev pub IsListIn : {A : Type 0} → Parse A → ℕ → ℕ → Option (List ℕ)
    → Result (List A) Fault → Type 0
IsListIn parse file before told outcome =
    (bytes : List ℕ) × IfSome told (λ all. bytes ≡ all)
    × (list_in parse file before bytes ≡ outcome)

-- the lists of some contents, from this file on, which are what the files hold where it is told
abbrev pub AreListsFrom : {A : Type 0} → Parse A → ℕ → ℕ → List (Option (List ℕ))
    → Result (List (List A)) Fault → Type 0
AreListsFrom parse file before told outcome =
    (contents : List (List ℕ)) × Agree told contents
    × (lists_from parse file before contents ≡ outcome)

-- the lists of all files, if these are not more than so many
abbrev pub AreListsWithin : {A : Type 0} → ℕ → Parse A → List (Option (List ℕ))
    → Result (List (List A)) Fault → Type 0
AreListsWithin most parse told outcome =
    (contents : List (List ℕ)) × Agree told contents
    × (lists_within most parse contents ≡ outcome)

-- So many of the files, from this one on, were opened, and those before the last of them are lists:
-- none is opened after one that is refused.
abbrev pub StopsIn : {A : Type 0} → Parse A → ℕ → ℕ → List (Option (List ℕ)) → ℕ → ℕ → Type 0
StopsIn {A} parse file before told old new =
    (count : ℕ) × (count ≤ length told) × (new ≡ opened old count)
    × (lists : List (List A))
    × AreListsFrom parse file before (take (count - 1) told) (Ok lists)

-- How files are gone over in turn. Beside the list of a file stands what else is noted of its
-- bytes.

-- the answer is how many items the list has that was added, with its note, or why there is none
abbrev pub AddsList : {A N : Type 0} → Grammar → Result (List A) Fault → N → Result ℕ Fault
    → List (List A) → List (List A) → List N → List N → Type 0
AddsList {A} grammar reading note (Ok count) old new old_notes new_notes =
    (list : List A) × (reading ≡ Ok list) × (count ≡ length list) × (new ≡ old ++ list ∷ [])
    × (new_notes ≡ old_notes ++ note ∷ [])
AddsList grammar reading note (Err fault) old new old_notes new_notes =
    Refused grammar (sort_of fault) (reading ≡ Err fault) ⊥

-- the same of some bytes of this file, which are all that it holds where that is told; or it could
-- not be read
abbrev pub AddsFile : {A N : Type 0} → Grammar → Parse A → (List ℕ → N) → ℕ → ℕ
    → Option (List ℕ) → Result ℕ Fault → List (List A) → List (List A) → List N → List N → Type 0
AddsFile grammar parse note file before told (Ok count) old new old_notes new_notes =
    (bytes : List ℕ) × IfSome told (λ all. bytes ≡ all)
    × AddsList grammar (list_in parse file before bytes) (note bytes) (Ok count) old new old_notes
    new_notes
AddsFile grammar parse note file before told (Err fault) old new old_notes new_notes =
    Refused grammar (sort_of fault) (IsListIn parse file before told (Err fault))
    (fault ≡ ReadFault file)

-- the lists of some contents, from this file on, and their notes, stand after those before
abbrev pub AreGathered : {A N : Type 0} → Parse A → (List ℕ → N) → ℕ → ℕ
    → List (Option (List ℕ)) → List (List A) → List (List A) → List N → List N → Type 0
AreGathered {A} parse note file before told old new old_notes new_notes =
    (contents : List (List ℕ)) × Agree told contents × (lists : List (List A))
    × (lists_from parse file before contents ≡ Ok lists) × (new ≡ old ++ lists)
    × (new_notes ≡ old_notes ++ map note contents)

-- the lists of the files from this one on were added, or the answer is the fault that decides, or a
-- file could not be read, or memory ran out
abbrev pub GathersFrom : {A N : Type 0} → Grammar → Parse A → (List ℕ → N) → ℕ → ℕ
    → List (Option (List ℕ)) → Result (Unit {0}) Fault → List (List A) → List (List A) → List N
    → List N → Type 0
GathersFrom grammar parse note file before told (Ok done) old new old_notes new_notes =
    AreGathered parse note file before told old new old_notes new_notes
GathersFrom grammar parse note file before told (Err fault) old new old_notes new_notes =
    Refused grammar (sort_of fault) (AreListsFrom parse file before told (Err fault)) (Unit {0})
