-- One turn of the reading of several files, in the terms of the code: the first name, and the rest
-- of the names after it.
use Rattle.std.proofs.Common.{◌≡◌, ℕ, suc, ◌+◌, ◌-◌, ◌≤◌, List, [], ◌∷◌}
use Rattle.std.proofs.Common.{Option, length}
use Rattle.std.proofs.Common.{map, take, drop}
use Rattle.std.proofs.Common.{get_or, Result, Ok, Err, ap, subst, arith}
use Rattle.std.proofs.lemmas.List.{take_all}
use Rattle.outside.specs.Causes.{next_count}
use Rattle.script_files.proofs.Opens.{opens_more, stops_first, stops_more}
use Rattle.script_files.specs.Files.{OpensInTurn}
use Rattle.script_files.specs.Files.{opened}
use Rattle.script_files.specs.InTurn.{AddsFile, IsListIn, Parse, StopsIn}
use Rattle.script_files.specs.Sorts.{Grammar}
use Rattle.script_files.specs.declared.fault.Fault.{Fault}
use Rattle.script_files.specs.declared.fault.Fault.TheVariants.{Usage, ReadFault}

-- how often the shelf was opened
pub turn_opens : (before middle now others files : ℕ) → suc others ≡ files
    → middle ≡ next_count before → OpensInTurn middle now others
    → OpensInTurn before now files
turn_opens before middle now others files one first more =
    subst (λ n. OpensInTurn before now n) one (opens_more before middle now others first more)

-- which files were opened at most, where the first one is a list
pub turn_stops : {A N B : Type 0} (grammar : Grammar) (parse : Parse A) (note : List ℕ → N)
    (text : B → List ℕ) (names : List B) (otherwise : B) (bytes : List ℕ)
    (holds later : List ℕ → Option (List ℕ)) (file before : ℕ) (old middle : List (List A))
    (old_notes middle_notes : List N) (opens between now : ℕ) (count : ℕ) → 1 ≤ length names
    → bytes ≡ text (get_or names 0 otherwise) → later ≡ holds
    → AddsFile grammar parse note file before (holds bytes) (Ok count) old middle old_notes
    middle_notes
    → between ≡ next_count opens
    → StopsIn parse (file + 1) (before + count)
    (map later (map text (take (length names - 1) (drop 1 names)))) between now
    → StopsIn parse file before (map holds (map text names)) opens now
turn_stops grammar parse note text [] otherwise bytes holds later file before old middle old_notes
    middle_notes opens between now count some first same is opened_first others =
    absurd (omega (arith, some))
turn_stops grammar parse note text (one ∷ names) otherwise bytes holds later file before old middle
    old_notes middle_notes opens between now count some first same is opened_first others =
    let all : take (length (one ∷ names) - 1) names ≡ names = take_all _ names (omega arith) in
    let list = is.2.0 in
    stops_more parse file before opens between now (holds (text one)) (map holds (map text names))
    list
    (subst (λ b. IsListIn parse file before (holds b) (Ok list)) first (is.0, is.1, is.2.1))
    opened_first
    (subst (λ n. StopsIn parse (file + 1) (before + n) (map holds (map text names)) between now)
    is.2.2
    (subst (λ h. StopsIn parse (file + 1) (before + count) (map h (map text names)) between now)
    same
    (subst (λ rest. StopsIn parse (file + 1) (before + count) (map later (map text rest)) between
    now) all others)))

-- the first one alone was opened
pub turn_stopped : {A B : Type 0} (parse : Parse A) (text : B → List ℕ) (names : List B)
    (holds : List ℕ → Option (List ℕ)) (file before opens now : ℕ) → 1 ≤ length names
    → now ≡ next_count opens → StopsIn parse file before (map holds (map text names)) opens now
turn_stopped parse text [] holds file before opens now some is = absurd (omega (arith, some))
turn_stopped parse text (one ∷ names) holds file before opens now some is =
    stops_first parse file before opens now (map holds (map text (one ∷ names))) (omega arith) is

abbrev pub fault_or_usage : Result (Unit {0}) Fault → Fault
fault_or_usage (Ok done) = Usage
fault_or_usage (Err fault) = fault

abbrev pub refused : Fault → Result (Unit {0}) Fault
refused fault = Err fault

-- the first file could not be read
pub turn_unread : {A N : Type 0} (grammar : Grammar) (parse : Parse A) (note : List ℕ → N)
    (file before : ℕ) (one : Option (List ℕ)) (fault : Fault) (old new : List (List A))
    (old_notes new_notes : List N) (place opens now : ℕ)
    → AddsFile grammar parse note file before one (Err fault) old new old_notes new_notes
    → refused fault ≡ refused (ReadFault place) → now ≡ next_count opens
    → (more : ℕ) × (file + more ≡ place + 1) × (now ≡ opened opens more)
turn_unread grammar parse note file before one fault old new old_notes new_notes place opens now is
    e first =
    let reads : ReadFault place ≡ ReadFault file =
    subst (λ f. AddsFile grammar parse note file before one (Err f) old new old_notes new_notes)
    (ap fault_or_usage e) is in
    let same : place ≡ file = cc in
    (1, omega (arith, same), first)

-- a later file could not be read
pub turn_later : (file place opens middle now : ℕ) → middle ≡ next_count opens
    → (more : ℕ) × (file + 1 + more ≡ place + 1) × (now ≡ opened middle more)
    → (more : ℕ) × (file + more ≡ place + 1) × (now ≡ opened opens more)
turn_later file place opens middle now first later =
    (suc later.0, omega (arith, later.1), subst (λ m. now ≡ opened m later.0) first later.2)
