-- The bytes that were read decide a script, or a replay, as the whole file does.
--
-- One byte more than the largest file is read at most. A file within its size was read whole; of a
-- longer one so much was read that it is too large as well.
use Rattle.std.proofs.Common.{◌≡◌, ℕ, ◌<◌, ◌≤◌, List, Option, None, Some, Result, Ok, Err, true}
use Rattle.std.proofs.Common.{false}
use Rattle.std.proofs.Common.{◌+◌, length, take, min, refl, sym, ap, subst, ◌∙◌, arith}
use Rattle.std.specs.Prelude.{nat_lt, if◌then◌else◌, IfSome, Vec}
use Rattle.std.proofs.lemmas.List.{length-take, take_all}
use Rattle.std.proofs.lemmas.Bool.{lt-ltb, ltb-true, ltb-false}
use Rattle.outside.specs.Pieces.{IsFrontOf}
use Rattle.script_files.proofs.Sorting.{refused_as}
use Rattle.script_files.specs.InTurn.{AddsFile, AddsList, Parse, list_in}
use Rattle.script_files.specs.Sorts.{Grammar, OfDumps, OfSchedules, sort_of}
use Rattle.script_files.specs.declared.fault.Fault.{Fault}
use Rattle.script_files.specs.declared.fault.Fault.TheVariants.{TooLarge}
use Rattle.script_files.specs.InTurn.{within_size}
use Rattle.script_files.specs.Loaded.{IsDumpFile, Loads, LoadsFile, after_dump, contents_by}
use Rattle.script_files.specs.Replayed.{after_schedule, steps_of, IsReading, Replays, ReplaysFile}
use Rattle.dump_text.specs.Contents.{contents_of}
use Rattle.dump_text.specs.declared.loader.Loaded.{Loaded}
use Rattle.core_replay.specs.Schedule.{schedule_of}
use Rattle.core_replay.specs.ScheduleValue.{ScheduleValue}
use Rattle.std.specs.declared.alloc.Global.{Global}

longer : (n : ℕ) → 1048576 < n → 1048576 < min 1048577 n
longer n long = omega arith

within_long : {A : Type 0} (file : ℕ) (reading : List ℕ → Result A Fault) (bytes : List ℕ)
    → 1048576 < length bytes → within_size file reading bytes ≡ Err (TooLarge file)
within_long file reading bytes long = rw (lt-ltb 1048576 (length bytes) long)

within_front : {A : Type 0} (file : ℕ) (reading : List ℕ → Result A Fault) (all : List ℕ)
    → within_size file reading all ≡ within_size file reading (take 1048577 all)
within_front file reading all =
    elim (nat_lt 1048576 (length all)) as (λ b. nat_lt 1048576 (length all) ≡ b
    → within_size file reading all ≡ within_size file reading (take 1048577 all)) [
      | true ↦ λ e.
          let long : 1048576 < length all = ltb-true 1048576 (length all) e in
          within_long file reading all long
          ∙ sym (within_long file reading (take 1048577 all)
          (rw (length-take 1048577 all) (longer (length all) long)))
      | false ↦ λ e.
          let short : length all ≤ 1048576 = ltb-false 1048576 (length all) e in
          ap (within_size file reading) (sym (take_all 1048577 all (omega arith)))
    ] refl

-- what the bytes that were read give is what the file gives
of_file : {A : Type 0} (file : ℕ) (reading : List ℕ → Result A Fault) (told : Option (List ℕ))
    (front : List ℕ) (outcome : Result A Fault) → IsFrontOf told 1048577 front
    → within_size file reading front ≡ outcome
    → (bytes : List ℕ) × IfSome told (λ all. bytes ≡ all)
    × (within_size file reading bytes ≡ outcome)
of_file file reading None front outcome read is = (front, tt, is)
of_file file reading (Some all) front outcome read is =
    (all, refl, within_front file reading all ∙ ap (within_size file reading) (sym read) ∙ is)

reading_of_file : (told : Option (List ℕ)) (front : List ℕ) (outcome : Result ScheduleValue Fault)
    → IsFrontOf told 1048577 front → steps_of front ≡ outcome → IsReading told outcome
reading_of_file told front outcome read is =
    of_file 1 (λ schedule. after_schedule (schedule_of schedule)) told front outcome read is

-- a file that was read as something is no longer than what was read of it
sized : {A : Type 0} (file : ℕ) (reading : List ℕ → Result A Fault) (bytes : List ℕ) (read : A)
    → within_size file reading bytes ≡ Ok read → length bytes ≤ 1048576
sized file reading bytes read =
    elim (nat_lt 1048576 (length bytes)) as (λ b. nat_lt 1048576 (length bytes) ≡ b
    → (if b then Err (TooLarge file) else reading bytes) ≡ Ok read
    → length bytes ≤ 1048576) [
      | true ↦ λ e is. absurd (cc)
      | false ↦ λ e is. ltb-false 1048576 (length bytes) e
    ] refl

pub all_read : (n : ℕ) (all : List ℕ) → length (take (n + 1) all) ≤ n → take (n + 1) all ≡ all
all_read n all short =
    let few : length all ≤ n + 1 = omega (arith, length-take (n + 1) all) in
    take_all (n + 1) all few

-- what was added of the bytes that were read is what the file holds
pub added_file : {A N : Type 0} (grammar : Grammar) (parse : Parse A) (note : List ℕ → N)
    (file before : ℕ) (told : Option (List ℕ)) (front : List ℕ) (answer : Result ℕ Fault)
    (old new : List (List A)) (old_notes new_notes : List N) → IsFrontOf told 1048577 front
    → AddsList grammar (list_in parse file before front) (note front) answer old new old_notes
    new_notes
    → AddsFile grammar parse note file before told answer old new old_notes new_notes
added_file grammar parse note file before None front (Ok count) old new old_notes new_notes read
    is =
    (front, tt, is)
added_file grammar parse note file before (Some all) front (Ok count) old new old_notes new_notes
    read is =
    let short = sized file (λ bytes. parse file before bytes) front is.0 is.1 in
    let whole : take 1048577 all ≡ all =
    all_read 1048576 all (subst (λ (f : List ℕ). length f ≤ 1048576) read short) in
    (front, read ∙ whole, is)
added_file grammar parse note file before told front (Err fault) old new old_notes new_notes read
    is =
    refused_as grammar (sort_of fault) _ _ _ _
    (of_file file (λ bytes. parse file before bytes) told front (Err fault) read)
    (λ never. absurd never) is

pub replayed_file : (told : Option (List ℕ)) (front : List ℕ)
    (answer : Result (Vec ℕ Global) Fault) → IsFrontOf told 1048577 front
    → Replays answer (steps_of front) → ReplaysFile answer told
replayed_file told front (Ok text) read is =
    (is.0, reading_of_file told front (Ok is.0) read is.1, is.2)
replayed_file told front (Err fault) read is =
    refused_as OfSchedules (sort_of fault) _ _ _ _
    (reading_of_file told front (Err fault) read) (λ never. absurd never) is

-- a file within its size was read whole
whole_read : (all front : List ℕ) → front ≡ take 1048577 all → length all ≤ 1048576
    → front ≡ all
whole_read all front read short = read ∙ take_all 1048577 all (omega (arith, short))

-- where what was read is no dump, the file is none
no_dump_file : (told : Option (List ℕ)) (front : List ℕ) → IsFrontOf told 1048577 front
    → (IsDumpFile front → ⊥) → IfSome told (λ bytes. IsDumpFile bytes → ⊥)
no_dump_file None front read none = tt
no_dump_file (Some all) front read none =
    λ good. none (subst IsDumpFile (sym (whole_read all front read good.0)) good)

pub loaded_file : (told : Option (List ℕ)) (front : List ℕ) (answer : Result Loaded Fault)
    → IsFrontOf told 1048577 front → Loads answer front → LoadsFile answer told
loaded_file None front (Ok loaded) read is = ((front, tt, is.0), (front, tt, is.1))
loaded_file (Some all) front (Ok loaded) read is =
    let short = sized 1 (λ dump. after_dump (contents_of dump)) front
    (contents_by loaded.version loaded.tree) is.0 in
    let whole : take 1048577 all ≡ all =
    all_read 1048576 all (subst (λ (f : List ℕ). length f ≤ 1048576) read short) in
    ((front, read ∙ whole, is.0), (front, read ∙ whole, is.1))
loaded_file told front (Err fault) read is =
    refused_as OfDumps (sort_of fault) _ _ _ _
    (λ both. (
      of_file 1 (λ dump. after_dump (contents_of dump)) told front (Err fault) read both.0,
      no_dump_file told front read both.1,
    ))
    (λ never. absurd never) is
