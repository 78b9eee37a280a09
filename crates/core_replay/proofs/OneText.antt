-- A schedule has at most one replay text: each step leads to one outcome.
use Rattle.std.proofs.Common.{◌≡◌, ℕ, List, [], ◌∷◌, ◌++◌, sym, ap, subst, ◌∙◌}
use Rattle.core_replay.specs.Replay.{IsReplayText, Leads, Writes, WritesOn}
use Rattle.core_replay.specs.ReplayText.{ending_of}
use Rattle.core_replay.specs.Standing.{Standing, opened}
use Rattle.core_replay.specs.Turns.{Outcome, Went, Stopped, PlainLeads, ends, goes_on}
use Rattle.core_replay.specs.ScheduleValue.{ScheduleValue}
use Rattle.core_replay.specs.declared.line.Numbered.{Numbered}
use Rattle.core_replay.specs.declared.step.Step.{Step}
use Rattle.core_replay.specs.declared.step.Step.TheVariants.{Take, Plain, Show}

one_end : (one other : Outcome) (p : Standing) → PlainLeads one p → PlainLeads other p → one ≡ other
one_end one other p (ends is) (ends also) = cc
one_end one other p (ends is) (goes_on q also later) = absurd cc
one_end one other p (goes_on q is later) (ends also) = absurd cc
one_end one other p (goes_on q is later) (goes_on r also further) =
    let same : r ≡ q = cc in
    one_end one other q later (subst (λ x. PlainLeads other x) same further)

one_lead : (p : Standing) (step : Step) (one other : Outcome) → Leads p step one
    → Leads p step other → one ≡ other
one_lead p (Take e) one other is also = is ∙ sym also
one_lead p Plain one other is also = one_end one other p is also
one_lead p (Show c) one other is also = is ∙ sym also

-- and so one text is written from an outcome on, if it is so for the steps after it
one_on : (line : ℕ) (outcome : Outcome) (Later : Standing → List ℕ → Standing → Type 0)
    (one other : List ℕ) (last end : Standing)
    → ((p : Standing) (rest more : List ℕ) → Later p rest last → Later p more end → (rest ≡ more)
    × (last ≡ end))
    → WritesOn line outcome (λ p rest. Later p rest last) one last
    → WritesOn line outcome (λ p rest. Later p rest end) other end → (one ≡ other) × (last ≡ end)
one_on line (Stopped p) Later one other last end same is
    also = (is.0 ∙ sym also.0, is.1 ∙ sym also.1)
one_on line (Went written p) Later one other last end same is also =
    let rests = same p is.0 also.0 is.2 also.2 in
    (is.1 ∙ ap (λ rest. written ++ rest) rests.0 ∙ sym also.1, rests.1)

one_writing : (p : Standing) (steps : List Numbered) (one other : List ℕ) (last end : Standing)
    → Writes p steps one last
    → Writes p steps other end → (one ≡ other) × (last ≡ end)
one_writing p [] one other last end is also = (is.0 ∙ sym also.0, is.1 ∙ sym also.1)
one_writing p (step ∷ later) one other last end is also =
    let same = one_lead p step.step is.0 also.0 is.1 also.1 in
    let moved = subst (λ o. WritesOn step.line o (λ q rest. Writes q later rest end) other end)
    (sym same) also.2 in
    one_on step.line is.0 (λ q rest behind. Writes q later rest behind) one other last end
    (λ q rest more. one_writing q later rest more last end) is.2 moved

pub one_text : (schedule : ScheduleValue) (one other : List ℕ) → IsReplayText schedule one
    → IsReplayText schedule other → one ≡ other
one_text schedule one other is also =
    let same = one_writing
    (opened schedule.sizes) schedule.steps is.1 also.1 is.0 also.0 is.2 also.2 in
    is.3 ∙ ap (λ lines. lines ++ ending_of is.0) same.0
    ∙ ap (λ last. also.1 ++ ending_of last) same.1 ∙ sym also.3
