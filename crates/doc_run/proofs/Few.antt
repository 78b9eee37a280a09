-- Of few files the scripts beside whose run a version is dumped are those of a run without.
use Rattle.std.proofs.Common.{◌≡◌, ◌∙◌, ℕ, ◌<◌, ◌≤◌, List, Option, Result, Ok, Err}
use Rattle.std.proofs.Common.{length, map, refl, arith}
use Rattle.std.specs.Borrow.{Bor}
use Rattle.std.proofs.lemmas.Bool.{le-ltb, lt-ltb}
use Rattle.cmd_text.specs.declared.form.Form.{Form}
use Rattle.doc_model.specs.declared.command.Command.{Command}
use Rattle.script_files.proofs.Files.{some_told, told_length, told_names}
use Rattle.script_files.proofs.Sorting.{refused_as}
use Rattle.script_files.specs.Files.{files_read}
use Rattle.script_files.specs.Formed.{AreRead}
use Rattle.script_files.specs.Scripts.{AreScripts, scripts_of}
use Rattle.script_files.specs.Sorts.{OfScripts, Refused, sort_of}
use Rattle.script_files.specs.declared.fault.Fault.{Fault}
use Rattle.script_files.specs.declared.fault.Fault.TheVariants.{TooLarge}
use Rattle.doc_run.specs.Guested.{AreFewScripts, few_read, few_scripts_of}

few_of : (contents : List (List ℕ)) → length contents ≤ 63
    → few_scripts_of contents ≡ scripts_of contents
few_of contents short = rw (le-ltb 63 (length contents) short) refl

few_scripts : (told : List (Option (List ℕ))) (outcome : Result (List (List Command)) Fault)
    → length told ≤ 63 → AreScripts told outcome → AreFewScripts told outcome
few_scripts told outcome short are =
    let few : length are.0 ≤ 63 = omega (arith, short, told_length told are.0 are.1) in
    (are.0, are.1, few_of are.0 few ∙ are.2)

names_short : (holds : List ℕ → Option (List ℕ)) (names : List (Bor (List ℕ)))
    → length names ≤ 63 → length (map holds (map (λ name. name.now) names)) ≤ 63
names_short holds names short =
    omega (arith, short, told_names holds (λ (name : Bor (List ℕ)). name.now) names)

-- those that were read
pub few_are_read : (holds : List ℕ → Option (List ℕ)) (names : List (Bor (List ℕ)))
    (scripts : List (List Command)) (forms : List Form) → length names ≤ 63
    → AreRead (map holds (map (λ name. name.now) names)) scripts forms
    → AreFewScripts (map holds (map (λ name. name.now) names)) (Ok scripts)
few_are_read holds names scripts forms short is =
    few_scripts _ (Ok scripts) (names_short holds names short) (is.0, is.1, is.2)

-- and those that were refused
pub few_are_refused : (holds : List ℕ → Option (List ℕ)) (names : List (Bor (List ℕ)))
    (fault : Fault) → length names ≤ 63
    → Refused OfScripts (sort_of fault)
    (AreScripts (map holds (map (λ name. name.now) names)) (Err fault)) (Unit {0})
    → Refused OfScripts (sort_of fault)
    (AreFewScripts (map holds (map (λ name. name.now) names)) (Err fault)) (Unit {0})
few_are_refused holds names fault short is =
    refused_as OfScripts (sort_of fault) _ _ _ _
    (few_scripts _ (Err fault) (names_short holds names short)) (λ unread. tt) is

-- the files are too many
pub many_scripts : (holds : List ℕ → Option (List ℕ)) (names : List (Bor (List ℕ)))
    → 63 < length names
    → AreFewScripts (map holds (map (λ name. name.now) names)) (Err (TooLarge 0))
many_scripts holds names many =
    let some = some_told (map holds (map (λ (name : Bor (List ℕ)). name.now) names)) in
    let more : 63 < length some.0 =
    omega (
      arith,
      many,
      told_length _ some.0 some.1,
      told_names holds (λ (name : Bor (List ℕ)). name.now) names,
    ) in
    (some.0, some.1, rw (lt-ltb 63 (length some.0) more) refl)

-- how many of them are opened
pub same_read : (n : ℕ) → n ≤ 63 → files_read n ≡ few_read n
same_read n short = rw (le-ltb 63 n short, le-ltb 64 n (omega (arith, short))) refl

pub none_read : (n : ℕ) → 63 < n → few_read n ≡ 0
none_read n many = rw (lt-ltb 63 n many) refl
