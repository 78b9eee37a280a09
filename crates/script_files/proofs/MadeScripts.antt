-- The scripts that are made from a number, one client after another.
use Rattle.std.proofs.Common.{◌≡◌, ℕ, zero, suc, ◌+◌, ◌-◌, ◌*◌}
use Rattle.std.proofs.Common.{◌≤◌, List, [], ◌∷◌, ◌++◌}
use Rattle.std.proofs.Common.{Some, length, map, Result, Ok, Err, refl, sym, ap, ap₂}
use Rattle.std.proofs.Common.{subst, ◌∙◌, arith}
use Rattle.std.proofs.lemmas.List.{map-append}
use Rattle.std.specs.Prelude.{Vec}
use Rattle.std.specs.declared.alloc.Global.{Global}
use Rattle.doc_model.specs.declared.command.Command.{Command}
use Rattle.run_limits.specs.declared.TheConstants.{MOST_COMMANDS}
use Rattle.script_files.specs.Generated.{generated_of}
use Rattle.script_files.proofs.Files.{first_decided, next_decided, none_decided}
use Rattle.script_files.proofs.MadeLines.{made_scripts}
use Rattle.script_files.specs.Files.{Agree}
use Rattle.script_files.specs.Made.{DecidesMade, texts_from}
use Rattle.script_files.specs.Reading.{Decides, DecidesFile, DecidesFrom}
use Rattle.doc_model.specs.Scripts.{lists_of}
use Rattle.script_files.specs.Scripts.{AreScriptsFrom, script_in, scripts_from}
use Rattle.script_files.proofs.Sorting.{is_memory, is_reading, refused_as, refused_wanting}
use Rattle.script_files.specs.Sorts.{OfScripts, sort_of}
use Rattle.script_files.specs.declared.fault.Fault.{Fault}
use Rattle.script_files.specs.declared.fault.Fault.TheVariants.{ReadFault}

-- the answer to a text that is there already
of_text : (place before : ℕ) (text : List ℕ) (answer : Result (Vec Command Global) Fault)
    → Decides answer (script_in place before text) → DecidesFile place before answer (Some text)
of_text place before text (Ok script) is = (text, refl, is)
of_text place before text (Err fault) is =
    refused_as OfScripts (sort_of fault) _ _ _ _ (λ decided. (text, refl, decided))
    (λ never. absurd never) is

-- no client is left
pub made_none : (start commands client more before : ℕ) (old : List (List Command)) → more ≡ 0
    → DecidesFrom client before (map Some (texts_from start commands client more)) (Ok tt) old old
made_none start commands client more before old none =
    subst (λ n. DecidesFrom client before (map Some (texts_from start commands client n)) (Ok tt)
    old old) (sym none) (none_decided client before old)

-- the script of the first client was not made
pub made_refused : (start commands client more before : ℕ) (fault : Fault)
    (old new : List (List Command)) → 1 ≤ more
    → Decides (Err fault) (script_in client before (generated_of start client commands))
    → DecidesFrom client before (map Some (texts_from start commands client more)) (Err fault)
    old new
made_refused start commands client zero before fault old new some is =
    absurd (omega (arith, some))
made_refused start commands client (suc more) before fault old new some is =
    first_decided client before (Some (generated_of start client commands))
    (map Some (texts_from start commands (client + 1) more)) fault old new
    (of_text client before (generated_of start client commands) (Err fault) is)

-- the script of the first client was added, and then the others were gone over
pub made_more : (start commands client more before count : ℕ) (script : Vec Command Global)
    (result : Result (Unit {0}) Fault) (old middle : List (Vec Command Global))
    (new : List (List Command)) → count ≡ length script.items → 1 ≤ more
    → middle ≡ old ++ script ∷ []
    → Decides (Ok script) (script_in client before (generated_of start client commands))
    → DecidesFrom (client + 1) (before + count)
    (map Some (texts_from start commands (client + 1) (more - 1))) result (lists_of middle) new
    → DecidesFrom client before (map Some (texts_from start commands client more)) result
    (lists_of old) new
made_more start commands client zero before count script result old middle new counted some pushed
    is others = absurd (omega (arith, some))
made_more start commands client (suc more) before count script result old middle new counted some
    pushed is others =
    let less : suc more - 1 ≡ more = omega arith in
    next_decided client before (Some (generated_of start client commands))
    (map Some (texts_from start commands (client + 1) more)) script.items result (lists_of old) new
    (of_text client before (generated_of start client commands) (Ok script) is)
    (subst (λ list. DecidesFrom (client + 1) (before + length script.items)
    (map Some (texts_from start commands (client + 1) more)) result list new)
    (ap lists_of pushed ∙ map-append (λ s. s.items) old (script ∷ []))
    (subst (λ n. DecidesFrom (client + 1) (before + n)
    (map Some (texts_from start commands (client + 1) more)) result (lists_of middle) new) counted
    (subst (λ n. DecidesFrom (client + 1) (before + count)
    (map Some (texts_from start commands (client + 1) n)) result (lists_of middle) new) less
    others)))

-- where every file tells what it holds, that is what was read
all_told : (texts contents : List (List ℕ)) → Agree (map Some texts) contents
    → contents ≡ texts
all_told [] [] are = refl
all_told [] (bytes ∷ contents) are = absurd are
all_told (text ∷ texts) [] are = absurd are
all_told (text ∷ texts) (bytes ∷ contents) are =
    ap₂ (λ b c. b ∷ c) are.0 (all_told texts contents are.1)

-- the scripts of the texts
of_texts : (texts : List (List ℕ)) (outcome : Result (List (List Command)) Fault)
    → AreScriptsFrom 1 0 (map Some texts) outcome → scripts_from 1 0 texts ≡ outcome
of_texts texts outcome are =
    ap (scripts_from 1 0) (sym (all_told texts are.0 are.1)) ∙ are.2

-- all scripts were made
pub made_all : (start clients commands : ℕ) (scripts : Vec (Vec Command Global) Global)
    (old : List (List Command)) → old ≡ []
    → DecidesFrom 1 0 (map Some (texts_from start commands 1 clients)) (Ok tt) old
    (lists_of scripts.items) → DecidesMade start clients commands (Ok scripts)
made_all start clients commands scripts old none is =
    let same : lists_of scripts.items ≡ is.0 = is.1 ∙ ap (λ front. front ++ is.0) none in
    of_texts (texts_from start commands 1 clients) (Ok (lists_of scripts.items))
    (subst (λ s. AreScriptsFrom 1 0 (map Some (texts_from start commands 1 clients)) (Ok s))
    (sym same) is.2)

-- no text of the generator is refused
never : (start clients commands : ℕ) (fault : Fault) → start ≤ 2147483647 → clients ≤ 64
    → commands ≤ 10000 → clients * commands ≤ MOST_COMMANDS
    → AreScriptsFrom 1 0 (map Some (texts_from start commands 1 clients)) (Err fault) → ⊥
never start clients commands fault low few short all are =
    let made = made_scripts start clients commands low few short all in
    let same : Ok made.0 ≡ Err fault =
    sym made.1 ∙ of_texts (texts_from start commands 1 clients) (Err fault) are in
    cc

-- memory ran out
pub made_not : (start clients commands : ℕ) (fault : Fault) (old new : List (List Command))
    → start ≤ 2147483647 → clients ≤ 64 → commands ≤ 10000
    → clients * commands ≤ MOST_COMMANDS
    → ((file : ℕ) → fault ≡ ReadFault file → ⊥)
    → DecidesFrom 1 0 (map Some (texts_from start commands 1 clients)) (Err fault) old new
    → DecidesMade start clients commands (Err fault)
made_not start clients commands fault old new low few short all read is =
    is_memory fault (refused_wanting OfScripts (sort_of fault) _ _
    (never start clients commands fault low few short all)
    (λ e. let one = is_reading fault e in read one.0 one.1) is)

pub ruleset adding = (made_none, made_more)
