-- The lists of several files, read one after another.
use Rattle.std.proofs.Common.{◌≡◌, ℕ, suc, ◌+◌, ◌<◌, ◌≤◌, arith, List, []}
use Rattle.std.proofs.Common.{◌∷◌, ◌++◌, Option, None, Some}
use Rattle.std.proofs.Common.{length, map}
use Rattle.std.proofs.Common.{Result, Ok, Err, refl, sym, ap, ◌∙◌}
use Rattle.std.proofs.lemmas.List.{append_assoc, append-nil, length-map}
use Rattle.std.proofs.lemmas.Bool.{lt-ltb, le-ltb}
use Rattle.doc_model.specs.declared.command.Command.{Command}
use Rattle.script_files.specs.Files.{Agree}
use Rattle.script_files.specs.InTurn.{AreListsFrom, AreListsWithin, IsListIn, Parse, in_front}
use Rattle.script_files.specs.InTurn.{lists_from, with_first}
use Rattle.script_files.specs.Reading.{DecidesFile, DecidesFrom}
use Rattle.script_files.specs.Scripts.{IsScriptIn, parse_script}
use Rattle.script_files.proofs.Sorting.{refused_as}
use Rattle.script_files.specs.Sorts.{Grammar, OfScripts, Refused, sort_of}
use Rattle.script_files.specs.declared.fault.Fault.{Fault}
use Rattle.script_files.specs.declared.fault.Fault.TheVariants.{TooLarge}

-- some contents that are what is told
pub some_told : (told : List (Option (List ℕ)))
    → (contents : List (List ℕ)) × Agree told contents
some_told [] = ([], tt)
some_told (None ∷ told) = let others = some_told told in ([] ∷ others.0, (tt, others.1))
some_told (Some bytes ∷ told) =
    let others = some_told told in (bytes ∷ others.0, (refl, others.1))

-- no file is left
pub no_lists : {A : Type 0} (parse : Parse A) (file before : ℕ)
    → AreListsFrom parse file before [] (Ok [])
no_lists parse file before = ([], tt, refl)

-- the first file is refused
pub first_refused : {A : Type 0} (parse : Parse A) (file before : ℕ) (one : Option (List ℕ))
    (told : List (Option (List ℕ))) (fault : Fault) → IsListIn parse file before one (Err fault)
    → AreListsFrom parse file before (one ∷ told) (Err fault)
first_refused parse file before one told fault is =
    let others = some_told told in (
      is.0 ∷ others.0,
      (is.1, others.1),
      ap (λ list. in_front list
          (λ these. lists_from parse (file + 1) (before + length these) others.0)) is.2,
    )

-- the first file is a list, and so much is known of the others
pub after_first : {A : Type 0} (parse : Parse A) (file before : ℕ) (one : Option (List ℕ))
    (told : List (Option (List ℕ))) (list : List A) (outcome : Result (List (List A)) Fault)
    → IsListIn parse file before one (Ok list)
    → AreListsFrom parse (file + 1) (before + length list) told outcome
    → AreListsFrom parse file before (one ∷ told) (with_first list outcome)
after_first parse file before one told list outcome is others = (
  is.0 ∷ others.0,
  (is.1, others.1),
  ap (λ first. in_front first
      (λ these. lists_from parse (file + 1) (before + length these) others.0)) is.2
      ∙ ap (with_first list) others.2,
)

-- the scripts of no files
pub none_decided : (file before : ℕ) (old : List (List Command))
    → DecidesFrom file before [] (Ok tt) old old
none_decided file before old = ([], sym (append-nil old), no_lists parse_script file before)

-- the first file could not be read, or is refused, or memory ran out
pub first_decided : (place before : ℕ) (one : Option (List ℕ)) (told : List (Option (List ℕ)))
    (fault : Fault) (old new : List (List Command)) → DecidesFile place before (Err fault) one
    → DecidesFrom place before (one ∷ told) (Err fault) old new
first_decided place before one told fault old new is =
    refused_as OfScripts (sort_of fault) _ _ _ _
    (first_refused parse_script place before one told fault) (λ unread. tt) is

-- the first file is a script, which was added, and then the others were gone over
pub next_decided : (place before : ℕ) (one : Option (List ℕ)) (told : List (Option (List ℕ)))
    (commands : List Command) (result : Result (Unit {0}) Fault) (old new : List (List Command))
    → IsScriptIn place before one (Ok commands)
    → DecidesFrom (place + 1) (before + length commands) told result (old ++ commands ∷ []) new
    → DecidesFrom place before (one ∷ told) result old new
next_decided place before one told commands (Ok done) old new is others = (
  commands ∷ others.0,
  others.1 ∙ append_assoc old (commands ∷ []) others.0,
  after_first parse_script place before one told commands (Ok others.0) is others.2,
)
next_decided place before one told commands (Err fault) old new is others =
    refused_as OfScripts (sort_of fault) _ _ _ _
    (after_first parse_script place before one told commands (Err fault) is) (λ unread. tt) others

-- there is a content for each file
pub told_length : (told : List (Option (List ℕ))) (contents : List (List ℕ))
    → Agree told contents
    → length contents ≡ length told
told_length [] [] are = refl
told_length [] (bytes ∷ contents) are = absurd are
told_length (one ∷ told) [] are = absurd are
told_length (one ∷ told) (bytes ∷ contents) are = ap suc (told_length told contents are.1)

-- as many files as names
pub told_names : {A : Type 0} (holds : List ℕ → Option (List ℕ)) (text : A → List ℕ)
    (names : List A) → length (map holds (map text names)) ≡ length names
told_names holds text names = length-map (map text names) holds ∙ length-map names text

-- the files are not too many
pub within_count : {A : Type 0} (most : ℕ) (parse : Parse A) (told : List (Option (List ℕ)))
    (outcome : Result (List (List A)) Fault) → length told ≤ most
    → AreListsFrom parse 1 0 told outcome → AreListsWithin most parse told outcome
within_count most parse told outcome few are =
    let some : length are.0 ≤ most = omega (arith, few, told_length told are.0 are.1) in
    (are.0, are.1, rw (le-ltb most (length are.0) some) are.2)

-- the files are too many
pub too_many_files : {A : Type 0} (most : ℕ) (parse : Parse A) (told : List (Option (List ℕ)))
    → most < length told → AreListsWithin most parse told (Err (TooLarge 0))
too_many_files most parse told many =
    let some = some_told told in
    let more : most < length some.0 = omega (arith, many, told_length told some.0 some.1) in
    (some.0, some.1, rw (lt-ltb most (length some.0) more) refl)

-- one of them was refused, or could not be read, or memory ran out
pub one_refused : {A : Type 0} (most : ℕ) (grammar : Grammar) (parse : Parse A)
    (told : List (Option (List ℕ))) (fault : Fault) → length told ≤ most
    → Refused grammar (sort_of fault) (AreListsFrom parse 1 0 told (Err fault)) (Unit {0})
    → Refused grammar (sort_of fault) (AreListsWithin most parse told (Err fault)) (Unit {0})
one_refused most grammar parse told fault few is =
    refused_as grammar (sort_of fault) _ _ _ _ (within_count most parse told (Err fault) few)
    (λ unread. tt) is
