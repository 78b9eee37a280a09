-- A schedule with sizes that a core can have has a replay text: turns leave less to do, so they
-- end.
use Rattle.std.proofs.Common.{if◌then◌else◌, ◌≡◌, ◌<◌, ◌+◌, ℕ, zero, suc, Bool, true, false}
use Rattle.std.proofs.Common.{nat_lt, List, [], ◌∷◌, ◌++◌, Option, Some}
use Rattle.std.proofs.Common.{None, Ok, IsTrue, refl, sym, subst, arith}
use Rattle.core_machine.specs.Next.{next}
use Rattle.core_machine.specs.State.{State}
use Rattle.core_machine.specs.declared.events.Event.{Event}
use Rattle.core_replay.specs.Replay.{IsReplayText, Leads, Writes, WritesOn, after_event, shown}
use Rattle.core_replay.specs.ReplayText.{cell_line_of, ending_of, not_now_line}
use Rattle.core_replay.specs.Standing.{HasFallen, IsReplayed, Standing, counted, opened, taken_by}
use Rattle.core_replay.specs.Turns.{Outcome, Went, Stopped, Turn, Ends, GoesOn, PlainLeads, ends}
use Rattle.core_replay.specs.Turns.{goes_on, is_post, looked, turn_of, turned}
use Rattle.core_replay.specs.ScheduleValue.{ScheduleValue, are_sizes}
use Rattle.core_replay.specs.declared.line.Numbered.{Numbered}
use Rattle.core_replay.specs.declared.step.Step.{Step}
use Rattle.core_replay.specs.declared.step.Step.TheVariants.{Take, Plain, Show}
use Rattle.core_replay.proofs.Kept.{takes_replayed}
use Rattle.core_replay.proofs.Opened.{opened_kept}
use Rattle.core_replay.proofs.Turning.{turn_falls, turn_refused, turn_taken, turn_unlooked}
use Rattle.core_replay.proofs.Turning.{turn_without}
use Rattle.dlg_core.specs.Left.{left}
use Rattle.dlg_core.specs.Plain.{next_plain_of}
use Rattle.dlg_core.specs.PlainCycle.{look_before}

-- What is kept of a core stays so.

counted_some : (taken : ℕ) (o : Option State) (q : Standing) → counted taken o ≡ Some q
    → o ≡ Some q.core
counted_some taken None q is = absurd cc
counted_some taken (Some s) q is =
    let same : record { core = s; taken = taken + 1 } ≡ q = cc in
    subst (λ (x : Standing). Some s ≡ Some x.core) same refl

taken_kept : (p q : Standing) (e : Event) → IsReplayed p.core → taken_by p e ≡ Some q
    → IsReplayed q.core
taken_kept p q e kept is =
    takes_replayed {U = ℕ} {E = ℕ} (Ok 0) p.core q.core e kept
    (counted_some p.taken (next p.core e) q is)

looked_kept : (p q : Standing) (look : Option Event) → IsReplayed p.core → looked p look ≡ Some q
    → IsReplayed q.core
looked_kept p q None kept is = let same : p
    ≡ q = cc in subst (λ (x : Standing). IsReplayed x.core) same kept
looked_kept p q (Some e) kept is = taken_kept p q e kept is

abbrev EndKept : Outcome → Type 0
EndKept (Went text p) = IsReplayed p.core
EndKept (Stopped p) = IsReplayed p.core

-- what a turn leads to from here
abbrev Ahead : Standing → Turn → Type 0
Ahead p (Ends outcome) = EndKept outcome
Ahead p (GoesOn q) = HasFallen p q × IsReplayed q.core

ahead_taken : (p q r : Standing) (e : Event) (posts : Bool) → IsReplayed p.core
    → next_plain_of p.core ≡ Some e
    → looked p (look_before e) ≡ Some q → taken_by q e ≡ Some r → is_post e ≡ posts
    → Ahead p (turned posts q (Some r))
ahead_taken p q r e true kept plain look take is = taken_kept q r e
    (looked_kept p q (look_before e) kept look) take
ahead_taken p q r e false kept plain look take is = (
  turn_falls p q r e kept plain look take is,
  taken_kept q r e
      (looked_kept p q (look_before e) kept look) take,
)

ahead_looked : (p q : Standing) (e : Event) (next : Option Standing) → IsReplayed p.core
    → next_plain_of p.core ≡ Some e
    → looked p (look_before e) ≡ Some q → taken_by q e ≡ next → Ahead p (turn_of p)
ahead_looked p q e None kept plain look take =
    subst (Ahead p) (sym (turn_refused p q e plain look take))
    (looked_kept p q (look_before e) kept look)
ahead_looked p q e (Some r) kept plain look take =
    subst (Ahead p) (sym (turn_taken p q r e plain look take))
    (ahead_taken p q r e (is_post e) kept plain look take refl)

ahead_plain : (p : Standing) (e : Event) (look : Option Standing) → IsReplayed p.core
    → next_plain_of p.core ≡ Some e
    → looked p (look_before e) ≡ look → Ahead p (turn_of p)
ahead_plain p e None kept plain is = subst (Ahead p) (sym (turn_unlooked p e plain is)) kept
ahead_plain p e (Some q) kept plain is = ahead_looked p q e (taken_by q e) kept plain is refl

ahead_with : (p : Standing) (plain : Option Event) → IsReplayed p.core
    → next_plain_of p.core ≡ plain → Ahead p (turn_of p)
ahead_with p None kept is = subst (Ahead p) (sym (turn_without p is)) kept
ahead_with p (Some e) kept is = ahead_plain p e (looked p (look_before e)) kept is refl

-- The turns end.

abbrev SomeEnd : Standing → Type 0
SomeEnd p = (outcome : Outcome) × PlainLeads outcome p × EndKept outcome

by_turn : (p : Standing) (turn : Turn) → turn_of p ≡ turn → Ahead p turn
    → ((q : Standing) → left q.core < left p.core → IsReplayed q.core → SomeEnd q) → SomeEnd p
by_turn p (Ends outcome) is kept later = (outcome, ends is, kept)
by_turn p (GoesOn q) is next later =
    let rest = later q next.0.0 next.1 in
    (rest.0, goes_on q is rest.1, rest.2)

some_end : (n : ℕ) (p : Standing) → left p.core < n → IsReplayed p.core → SomeEnd p
some_end zero p below kept = absurd (omega arith)
some_end (suc n) p below kept =
    by_turn p (turn_of p) refl (ahead_with p (next_plain_of p.core) kept refl)
    (λ q less so. some_end n q (omega arith) so)

-- Steps.

after_kept : (p : Standing) (next : Option Standing) → IsReplayed p.core
    → ((q : Standing) → next ≡ Some q → IsReplayed q.core)
    → EndKept (after_event p next)
after_kept p None kept on = kept
after_kept p (Some q) kept on = on q refl

shown_kept : (p : Standing) (there : Bool) (line : List ℕ) → IsReplayed p.core
    → EndKept (if there then Went line p else Stopped p)
shown_kept p true line kept = kept
shown_kept p false line kept = kept

some_lead : (p : Standing) (step : Step) → IsReplayed p.core
    → (outcome : Outcome) × Leads p step outcome × EndKept outcome
some_lead p (Take e) kept = (
  after_event p (taken_by p e),
  refl,
  after_kept p (taken_by p e) kept
      (λ q is. taken_kept p q e kept is),
)
some_lead p Plain kept = some_end (left p.core + 1) p (omega arith) kept
some_lead p (Show c)
    kept = (shown p c, refl, shown_kept p (nat_lt c p.core.cells) (cell_line_of p.core c) kept)

some_on : (line : ℕ) (outcome : Outcome) (Later : Standing → List ℕ → Standing → Type 0)
    → EndKept outcome
    → ((q : Standing) → IsReplayed q.core → (rest : List ℕ) × (last : Standing) × Later q rest last)
    → (text : List ℕ) × (last : Standing)
    × WritesOn line outcome (λ q rest. Later q rest last) text last
some_on line (Stopped p) Later kept on = (not_now_line line, p, (refl, refl))
some_on line (Went written p) Later kept on =
    let rest = on p kept in
    (written ++ rest.0, rest.1, (rest.0, refl, rest.2))

some_writing : (p : Standing) (steps : List Numbered) → IsReplayed p.core
    → (text : List ℕ) × (last : Standing) × Writes p steps text last
some_writing p [] kept = ([], p, (refl, refl))
some_writing p (step ∷ later) kept =
    let lead = some_lead p step.step kept in
    let on = some_on step.line lead.0 (λ q rest last. Writes q later rest last) lead.2
    (λ q so. some_writing q later so) in
    (on.0, on.1, (lead.0, lead.1, on.2))

-- The start.

pub some_text : (schedule : ScheduleValue) → IsTrue (are_sizes schedule.sizes)
    → (text : List ℕ) × IsReplayText schedule text
some_text schedule allowed =
    let writes = some_writing (opened schedule.sizes) schedule.steps
    (opened_kept schedule.sizes allowed) in
    (writes.0 ++ ending_of writes.1, (writes.1, writes.0, writes.2, refl))
