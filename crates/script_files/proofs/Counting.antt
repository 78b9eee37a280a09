-- How many scripts several contents are, and how many commands.
use Rattle.std.proofs.Common.{◌≡◌, ℕ, zero, suc, ◌+◌, ◌≤◌, List, [], ◌∷◌}
use Rattle.std.proofs.Common.{length, Result, Ok, Err}
use Rattle.std.proofs.Common.{true, false, refl, sym, ap, subst, ◌∙◌, arith}
use Rattle.std.specs.Prelude.{nat_lt, if◌then◌else◌, sum_by}
use Rattle.std.proofs.lemmas.Bool.{ltb-false}
use Rattle.std.proofs.lemmas.List.Sums.{sum_by-cons}
use Rattle.doc_model.specs.declared.command.Command.{Command}
use Rattle.cmd_text.specs.Whole.{script_of}
use Rattle.cmd_text.specs.declared.fault.ScriptFault.{ScriptFault}
use Rattle.run_limits.specs.declared.TheConstants.{MOST_COMMANDS}
use Rattle.script_files.specs.Made.{texts_from}
use Rattle.script_files.specs.InTurn.{counted, in_front}
use Rattle.script_files.specs.Scripts.{after_reading, script_in, scripts_from}
use Rattle.script_files.specs.InTurn.{with_first}
use Rattle.script_files.specs.declared.fault.Fault.{Fault}
use Rattle.script_files.specs.declared.fault.Fault.TheVariants.{TooLarge}

-- the first script and those after it
front_parts : (commands : List Command) (others : Result (List (List Command)) Fault)
    (scripts : List (List Command)) → with_first commands others ≡ Ok scripts
    → (rest : List (List Command)) × (others ≡ Ok rest) × (scripts ≡ commands ∷ rest)
front_parts commands (Ok rest) scripts is =
    let same : scripts ≡ commands ∷ rest = cc in (rest, refl, same)
front_parts commands (Err fault) scripts is = absurd (cc)

-- the script of the first content
abbrev pub FirstOf : Result (List Command) Fault
    → (List Command → Result (List (List Command)) Fault) → List (List Command) → Type 0
FirstOf script others scripts =
    (commands : List Command) × (rest : List (List Command)) × (script ≡ Ok commands)
    × (others commands ≡ Ok rest) × (scripts ≡ commands ∷ rest)

all_parts : (script : Result (List Command) Fault)
    (others : List Command → Result (List (List Command)) Fault) (scripts : List (List Command))
    → in_front script others ≡ Ok scripts → FirstOf script others scripts
all_parts (Ok commands) others scripts is =
    let parts = front_parts commands (others commands) scripts is in
    (commands, parts.0, refl, parts.1, parts.2)
all_parts (Err fault) others scripts is = absurd (cc)

-- a script for each content
pub scripts_length : (file before : ℕ) (contents : List (List ℕ))
    (scripts : List (List Command))
    → scripts_from file before contents ≡ Ok scripts → length scripts ≡ length contents
scripts_length file before [] scripts is =
    let same : scripts ≡ [] = cc in ap length same
scripts_length file before (bytes ∷ contents) scripts is =
    let parts = all_parts (script_in file before bytes)
    (λ commands. scripts_from (file + 1) (before + length commands) contents) scripts is in
    ap length parts.4
    ∙ ap suc (scripts_length (file + 1) (before + length parts.0) contents parts.1 parts.3)

-- commands that are not too many
counted_few : (before : ℕ) (script commands : List Command)
    → counted before script ≡ Ok commands
    → before + length commands ≤ MOST_COMMANDS
counted_few before script commands =
    elim (nat_lt MOST_COMMANDS (before + length script))
    as (λ b. nat_lt MOST_COMMANDS (before + length script) ≡ b
    → (if b then Err (TooLarge 0) else Ok script) ≡ Ok commands
    → before + length commands ≤ MOST_COMMANDS) [
      | true ↦ λ e is. absurd (cc)
      | false ↦ λ e is.
          let same : commands ≡ script = cc in
          let few : before + length script ≤ MOST_COMMANDS =
          ltb-false MOST_COMMANDS (before + length script) e in
          subst (λ c. before + length c ≤ MOST_COMMANDS) (sym same) few
    ] refl

reading_few : (file before : ℕ) (script : Result (List Command) ScriptFault)
    (commands : List Command) → after_reading file before script ≡ Ok commands
    → before + length commands ≤ MOST_COMMANDS
reading_few file before (Ok script) commands is = counted_few before script commands is
reading_few file before (Err fault) commands is = absurd (cc)

script_few : (file before : ℕ) (bytes : List ℕ) (commands : List Command)
    → script_in file before bytes ≡ Ok commands → before + length commands ≤ MOST_COMMANDS
script_few file before bytes commands =
    elim (nat_lt 1048576 (length bytes)) as (λ b.
    (if b then Err (TooLarge file) else after_reading file before (script_of bytes)) ≡ Ok commands
    → before + length commands ≤ MOST_COMMANDS) [
      | true ↦ λ is. absurd (cc)
      | false ↦ λ is. reading_few file before (script_of bytes) commands is
    ]

-- all scripts have so many commands at most
pub scripts_few : (file before : ℕ) (contents : List (List ℕ)) (scripts : List (List Command))
    → before ≤ MOST_COMMANDS → scripts_from file before contents ≡ Ok scripts
    → before + sum_by length scripts ≤ MOST_COMMANDS
scripts_few file before [] scripts few is =
    let same : scripts ≡ [] = cc in
    subst (λ s. before + sum_by length s ≤ MOST_COMMANDS) (sym same) (omega arith)
scripts_few file before (bytes ∷ contents) scripts few is =
    let parts = all_parts (script_in file before bytes)
    (λ commands. scripts_from (file + 1) (before + length commands) contents) scripts is in
    let first : before + length parts.0 ≤ MOST_COMMANDS =
    script_few file before bytes parts.0 parts.2 in
    let rest : before + length parts.0 + sum_by length parts.1 ≤ MOST_COMMANDS =
    scripts_few (file + 1) (before + length parts.0) contents parts.1 first parts.3 in
    subst (λ s. before + sum_by length s ≤ MOST_COMMANDS) (sym parts.4)
    (omega (arith, rest, sum_by-cons length parts.0 parts.1))

-- a text for each client
pub texts_length : (start commands client clients : ℕ)
    → length (texts_from start commands client clients) ≡ clients
texts_length start commands client zero = refl
texts_length start commands client (suc more) =
    ap suc (texts_length start commands (client + 1) more)
