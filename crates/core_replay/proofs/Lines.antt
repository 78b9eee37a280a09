-- What the loop over the lines of a schedule keeps: the steps read so far, followed by those of the
-- lines that are left, are those of the whole schedule.
use Rattle.std.proofs.Common.{append-nil, ◌≡◌, ℕ, ◌+◌, ◌<◌, ◌≤◌, List, [], ◌∷◌, ◌++◌, length, drop}
use Rattle.std.proofs.Common.{get_or, subst, Option, Some, None, Result, Ok, Err, refl, sym, ap}
use Rattle.std.proofs.Common.{◌∙◌, arith, append_assoc, add-one}
use Rattle.std.proofs.Math.Seq.{drop-cons}
use Rattle.std.proofs.lemmas.List.{drop_all, length_push}
use Rattle.core_replay.specs.Lines.{reading_of}
use Rattle.core_replay.specs.Schedule.{with_step, with_line, ended, schedule_from}
use Rattle.core_replay.specs.ScheduleValue.{ScheduleValue}
use Rattle.core_replay.specs.declared.fault.ScheduleFault.{ScheduleFault}
use Rattle.core_replay.specs.declared.fault.ScheduleKind.{ScheduleKind}
use Rattle.core_replay.specs.declared.fault.ScheduleKind.TheVariants.{NoStart}
use Rattle.core_replay.specs.declared.line.Numbered.{Numbered}
use Rattle.core_replay.specs.declared.line.Reading.{Reading}
use Rattle.core_replay.specs.declared.line.Reading.TheVariants.{Nothing, Start, Next}
use Rattle.core_replay.specs.declared.start.Sizes.{Sizes}
use Rattle.core_replay.specs.declared.step.Step.{Step}

-- a schedule whose first steps are read already
abbrev pub with_front : List Numbered → Result ScheduleValue ScheduleFault
    → Result ScheduleValue ScheduleFault
with_front front (Ok later) = Ok (record { sizes = later.sizes; steps = front ++ later.steps })
with_front front (Err fault) = Err fault

-- the lines after the first n, read from there on
abbrev pub left_after : ℕ → List (List ℕ) → Option Sizes → Result ScheduleValue ScheduleFault
left_after n lines sizes = schedule_from (n + 1) (drop n lines) sizes

left_after-next : (n : ℕ) (lines : List (List ℕ)) (line : List ℕ) (sizes : Option Sizes)
    → n < length lines → line ≡ get_or lines n line
    → left_after n lines sizes
    ≡ with_line (n + 1) sizes (reading_of sizes line) (left_after (n + 1) lines)
left_after-next n lines line sizes more is =
    ap (λ ls. schedule_from (n + 1) ls sizes) (drop-cons lines n line more)
    ∙ rw (← is, add-one) refl

with_front-more : (front : List Numbered) (step : Numbered)
    (later : Result ScheduleValue ScheduleFault) → with_front front (with_step step later)
    ≡ with_front (front ++ step ∷ []) later
with_front-more front step (Ok later) =
    ap (λ steps. Ok (record { sizes = later.sizes; steps = steps }))
    (sym (append_assoc front (step ∷ []) later.steps))
with_front-more front step (Err fault) = refl

-- a line turns what was left into what its reading makes of what is left then
turns : (n : ℕ) (lines : List (List ℕ)) (line : List ℕ) (sizes : Option Sizes)
    (front : List Numbered) (whole : Result ScheduleValue ScheduleFault)
    (reading : Result Reading ScheduleKind)
    → n < length lines → line ≡ get_or lines n line → reading_of sizes line ≡ reading
    → with_front front (left_after n lines sizes) ≡ whole
    → with_front front (with_line (n + 1) sizes reading (left_after (n + 1) lines)) ≡ whole
turns n lines line sizes front whole reading more is reads so_far =
    let next = left_after-next n lines line sizes more is in
    let with = ap (λ r. with_line (n + 1) sizes r (left_after (n + 1) lines)) reads in
    ap (with_front front) (sym (next ∙ with)) ∙ so_far

-- a line that does not count
pub goes_past : (n : ℕ) (lines : List (List ℕ)) (line : List ℕ) (sizes : Option Sizes)
    (front : List Numbered) (whole : Result ScheduleValue ScheduleFault)
    → n < length lines → line ≡ get_or lines n line → reading_of sizes line ≡ Ok Nothing
    → with_front front (left_after n lines sizes) ≡ whole
    → with_front front (left_after (n + 1) lines sizes) ≡ whole
goes_past n lines line sizes front whole more is reads so_far =
    turns n lines line sizes front whole (Ok Nothing) more is reads so_far

-- the line of the sizes
pub starts : (n : ℕ) (lines : List (List ℕ)) (line : List ℕ) (sizes : Option Sizes)
    (front : List Numbered) (whole : Result ScheduleValue ScheduleFault) (found : Sizes)
    → n < length lines → line ≡ get_or lines n line → reading_of sizes line ≡ Ok (Start found)
    → with_front front (left_after n lines sizes) ≡ whole
    → with_front front (left_after (n + 1) lines (Some found)) ≡ whole
starts n lines line sizes front whole found more is reads so_far =
    turns n lines line sizes front whole (Ok (Start found)) more is reads so_far

-- a line with a step
pub goes_on : (n : ℕ) (lines : List (List ℕ)) (line : List ℕ) (sizes : Option Sizes)
    (front : List Numbered) (whole : Result ScheduleValue ScheduleFault) (step : Step) (number : ℕ)
    → number ≡ n → n < length lines → line ≡ get_or lines n line
    → reading_of sizes line ≡ Ok (Next step)
    → with_front front (left_after n lines sizes) ≡ whole
    → with_front (front ++ record { line = number + 1; step = step } ∷ [])
    (left_after (n + 1) lines sizes) ≡ whole
goes_on n lines line sizes front whole step number same more is reads so_far =
    ap (λ m. with_front (front ++ record { line = m + 1; step = step } ∷ [])
    (left_after (n + 1) lines sizes)) same
    ∙ sym (with_front-more front (record { line = n + 1; step = step })
    (left_after (n + 1) lines sizes))
    ∙ turns n lines line sizes front whole (Ok (Next step)) more is reads so_far

-- a faulty line
pub stops : (n : ℕ) (lines : List (List ℕ)) (line : List ℕ) (sizes : Option Sizes)
    (front : List Numbered) (whole : Result ScheduleValue ScheduleFault) (kind : ScheduleKind)
    (number : ℕ)
    → number ≡ n → n < length lines → line ≡ get_or lines n line → reading_of sizes line ≡ Err kind
    → with_front front (left_after n lines sizes) ≡ whole
    → whole ≡ Err (record { line = number + 1; kind = kind })
stops n lines line sizes front whole kind number same more is reads so_far =
    sym (turns n lines line sizes front whole (Err kind) more is reads so_far)
    ∙ sym (ap (λ m. Err (record { line = m + 1; kind = kind })) same)

-- the end
ends : (n : ℕ) (lines : List (List ℕ)) (sizes : Option Sizes) (front : List Numbered)
    (whole : Result ScheduleValue ScheduleFault)
    → n ≡ length lines → with_front front (left_after n lines sizes) ≡ whole
    → whole ≡ with_front front (ended sizes)
ends n lines sizes front whole all so_far =
    let none : drop n lines ≡ [] = drop_all n lines (omega arith) in
    sym so_far ∙ ap (λ ls. with_front front (schedule_from (n + 1) ls sizes)) none

-- the end, where the sizes are known
pub ends_started : (n : ℕ) (lines : List (List ℕ)) (sizes : Option Sizes) (found : Sizes)
    (front : List Numbered) (whole : Result ScheduleValue ScheduleFault)
    → n ≡ length lines → sizes ≡ Some found → with_front front (left_after n lines sizes) ≡ whole
    → whole ≡ Ok (record { sizes = found; steps = front })
ends_started n lines sizes found front whole all known so_far =
    ends n lines sizes front whole all so_far
    ∙ ap (λ o. with_front front (ended o)) known
    ∙ ap (λ steps. Ok (record { sizes = found; steps = steps })) (append-nil front)

-- the end, where no line counted
pub ends_unstarted : (n : ℕ) (lines : List (List ℕ)) (sizes : Option Sizes) (front : List Numbered)
    (whole : Result ScheduleValue ScheduleFault)
    → n ≡ length lines → sizes ≡ None → with_front front (left_after n lines sizes) ≡ whole
    → whole ≡ Err (record { line = 1; kind = NoStart })
ends_unstarted n lines sizes front whole all unknown so_far =
    ends n lines sizes front whole all so_far ∙ ap (λ o. with_front front (ended o)) unknown

-- what holds of the sizes that an option has holds of those that it has
pub of_same : (P : Sizes → Type 0) (found sizes : Sizes) → Some found ≡ Some sizes → P found
    → P sizes
of_same P found sizes same holds = let is : found ≡ sizes = cc in subst P is holds

-- no more steps than lines
pub few_still : {m n : ℕ} → m ≤ n → m ≤ n + 1
few_still few = omega arith

pub few_more : (steps : List Numbered) (step : Numbered) (n : ℕ) → length steps ≤ n
    → length (steps ++ step ∷ []) ≤ n + 1
few_more steps step n few = omega (arith, length_push steps step)
