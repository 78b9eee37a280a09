-- What several files hold, one after another, as far as the shelf tells it.
-- Source: this project's own.
use Rattle.std.specs.Prelude.{◌≡◌, ℕ, zero, suc, ◌≤◌, List, [], ◌∷◌, Option}
use Rattle.std.specs.Prelude.{IfSome}
use Rattle.std.specs.Prelude.{if◌then◌else◌, nat_lt}
use Rattle.outside.specs.Causes.{next_count}

-- these are contents of the files, and what is told of them
abbrev pub Agree : List (Option (List ℕ)) → List (List ℕ) → Type 0
Agree [] [] = Unit {0}
Agree [] (bytes ∷ contents) = ⊥
Agree (one ∷ told) [] = ⊥
Agree (one ∷ told) (bytes ∷ contents) =
    IfSome one (λ all. bytes ≡ all) × Agree told contents

-- the count of a shelf's openings after so many more
abbrev pub opened : ℕ → ℕ → ℕ
opened opens zero = opens
opened opens (suc more) = opened (next_count opens) more

-- of so many files each was opened once at most, and the first one was
abbrev pub OpensInTurn : ℕ → ℕ → ℕ → Type 0
OpensInTurn before now files =
    (count : ℕ) × (count ≤ files) × (1 ≤ files → 1 ≤ count)
    × (now ≡ opened before count)

-- how many files a run has at most
abbrev pub most_files : ℕ
most_files = 64

-- how many of so many files are read: none where they are too many
abbrev pub files_read : ℕ → ℕ
files_read files = if nat_lt most_files files then 0 else files
