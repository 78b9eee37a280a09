-- A turn of the plain collector that is possible leaves less, by as many events as it has, on the
-- way of a cycle or not: the work of a stage, and the handshakes.
use Rattle.std.proofs.Common.{if◌then◌else◌, ◌≡◌, ℕ, suc, ◌+◌, ◌*◌, ◌<◌, ◌≤◌, Bool, true, false}
use Rattle.std.proofs.Common.{not, ◌&&◌, List, [], ◌∷◌, length, get_or, Option, Some, None, refl}
use Rattle.std.proofs.Common.{sym, ap, subst, arith}
use Rattle.std.proofs.lemmas.Bool.{and_from}
use Rattle.cell_words.specs.Modes.{requested_of, next_status_of}
use Rattle.cell_words.specs.declared.controls.Stage.{Stage}
use Rattle.cell_words.specs.declared.controls.Stage.TheVariants as stage
use Rattle.cell_words.specs.declared.presences.Presence.{Presence}
use Rattle.cell_words.specs.declared.presences.Status.{Status}
use Rattle.cell_words.specs.declared.presences.Status.TheVariants as status
use Rattle.core_machine.specs.declared.events.Event.{Event}
use Rattle.core_machine.specs.declared.events.Event.TheVariants as event
use Rattle.core_machine.specs.Collector.{answered_by}
use Rattle.core_machine.specs.Handshakes.{wanted_of}
use Rattle.core_machine.specs.Next.{after, can}
use Rattle.core_machine.specs.State.{State, presence_of}
use Rattle.core_machine.specs.Words.{is_handshake, may_answer_out, same_flag, same_status}
use Rattle.dlg_core.specs.Facts.{all_in, status_fits}
use Rattle.dlg_core.specs.Kept.{IsKept}
use Rattle.dlg_core.specs.Left.{anchor_left, cells_left, left, left_behind, stage_left, trace_left}
use Rattle.dlg_core.specs.Left.{whole_clear, whole_sweep, whole_trace}
use Rattle.dlg_core.specs.Plain.{first_unanswered, least_unanswered, next_plain_of, plain_at}
use Rattle.dlg_core.specs.Plain.{plain_waiting, plain_work}
use Rattle.dlg_core.specs.PlainCycle.{behind_look, ends_cycle, look_before, turn_with}
use Rattle.dlg_core.proofs.Finishing.Falls.{Lessens, left_at, works_less}
use Rattle.dlg_core.proofs.Finishing.Less.{answered_less}

-- the look before the event leaves all as it is
abbrev pub LeavesAll : State → Option Event → Type 0
LeavesAll s None = Unit {0}
LeavesAll s (Some look) = after s look ≡ s

-- A turn whose event is possible leaves less, by as many as it has.
pub record FallsBy (s : State) (e : Event) : Type 0 where
  pub look : LeavesAll s (look_before e)
  pub less : can s e ≡ true
      → left_behind (ends_cycle e) (after s e) + length (turn_with e) ≤ left s

pub alone_falls : (s : State) (e : Event) → Lessens s e → FallsBy s e
alone_falls s e lessens = record {
  look = subst (LeavesAll s) (sym lessens.no_look) tt;
  less = subst (λ look. can s e ≡ true
      → left_behind (ends_cycle e) (after s e) + length (behind_look look e) ≤ left s)
      (sym lessens.no_look) lessens.less;
}

-- Handshakes.

-- the least mutator that has not answered is one
least_is : (k : ℕ) (answered : List Bool) (i : ℕ) → least_unanswered k answered ≡ Some i
    → (j : ℕ) × (i ≡ k + j) × (j < length answered) × (get_or answered j true ≡ false)
least_is k [] i is = absurd cc
least_is k (true ∷ answered) i is =
    let later = least_is (k + 1) answered i is in
    (suc later.0, omega arith, omega arith, later.3)
least_is k (false ∷ answered) i is = let same : k ≡ i = cc in (0, omega arith, omega arith, refl)

-- where there is none, all have answered
pub none_is : (k : ℕ) (answered : List Bool) → least_unanswered k answered ≡ None
    → all_in answered ≡ true
none_is k [] is = refl
none_is k (true ∷ answered) is = none_is (k + 1) answered is
none_is k (false ∷ answered) is = absurd cc

-- a mutator that has not answered
pub record IsOwed (s : State) (i : ℕ) : Type 0 where
  pub within : i < length s.collector.answered
  pub not_yet : get_or s.collector.answered i true ≡ false

pub first_is_owed : (s : State) (i : ℕ) → first_unanswered s.collector ≡ Some i → IsOwed s i
first_is_owed s i is =
    let least = least_is 0 s.collector.answered i is in
    let same : least.0 ≡ i = omega arith in
    record {
      within = subst (λ n. n < length s.collector.answered) same least.2;
      not_yet = subst (λ n. get_or s.collector.answered n true ≡ false) same least.3;
    }

-- mutator i has answered
abbrev pub noted : State → List Presence → ℕ → State
noted s presences i = record s {
  presences = presences;
  collector = answered_by s.collector i true;
}

fewer : (u v rest : ℕ) → u + 1 ≡ v → 2 * u + rest + 2 ≤ 2 * v + rest
fewer u v rest one = omega arith

noted_at : (s : State) (presences : List Presence) (i : ℕ) (x : Stage) → IsOwed s i
    → is_handshake x ≡ true
    → stage_left (noted s presences i) x + 2 ≤ stage_left s x
noted_at s presences i stage.Idle owed asks = absurd cc
noted_at s presences i stage.Sync1 owed asks =
    let less = answered_less s.collector.answered i owed.within owed.not_yet in
    let all = fewer _ _ (1 + whole_clear s.cells s.mutators) less in
    omega arith
noted_at s presences i stage.Clear owed asks = absurd cc
noted_at s presences i stage.Sync2 owed asks =
    let less = answered_less s.collector.answered i owed.within owed.not_yet in
    let all = fewer _ _ (anchor_left s.collector.anchor_marked + 1
    + whole_trace s.cells s.mutators) less in
    omega arith
noted_at s presences i stage.Trace owed asks =
    let less = answered_less s.collector.answered i owed.within owed.not_yet in
    let all = fewer _ _ (trace_left s.cells (cells_left s.colours) s.collector.clean
    s.collector.cursor s.collector.scan + 1 + whole_sweep s.cells) less in
    omega arith
noted_at s presences i stage.Sweep owed asks = absurd cc

-- an answer leaves two events less
noted_less : (s : State) (presences : List Presence) (i : ℕ) → IsOwed s i
    → is_handshake s.control.stage ≡ true
    → left (noted s presences i) + 2 ≤ left s
noted_less s presences i owed asks =
    let old = left_at s s.control.stage refl in
    let new = left_at (noted s presences i) s.control.stage refl in
    let less = noted_at s presences i s.control.stage owed asks in
    omega arith

-- a look at a mutator that has the status
pub polled : (s : State) (i : ℕ) → same_status (presence_of s i).status (wanted_of s) ≡ true
    → after s (event.Poll i) ≡ noted s s.presences i
polled s i has = ap (λ b. record s { collector = answered_by s.collector i b }) has

pub polls_fall : (s : State) (i : ℕ) → IsOwed s i → is_handshake s.control.stage ≡ true
    → same_status (presence_of s i).status (wanted_of s) ≡ true → FallsBy s (event.Poll i)
polls_fall s i owed asks has = record {
  look = tt;
  less = (λ happens. subst (λ t. left t + 1 ≤ left s) (sym (polled s i has))
      (let less = noted_less s s.presences i owed asks in omega arith));
}

-- in a handshake a status that is not the requested one is the one before it
next_wanted : (now : Stage) (own : Status) → is_handshake now ≡ true → status_fits now own ≡ true
    → same_status own (requested_of now) ≡ false
    → same_status (next_status_of own) (requested_of now) ≡ true
next_wanted stage.Idle own asks fits other = absurd cc
next_wanted stage.Clear own asks fits other = absurd cc
next_wanted stage.Sweep own asks fits other = absurd cc
next_wanted stage.Sync1 status.Async asks fits other = refl
next_wanted stage.Sync1 status.Sync1 asks fits other = absurd cc
next_wanted stage.Sync1 status.Sync2 asks fits other = absurd cc
next_wanted stage.Sync2 status.Async asks fits other = absurd cc
next_wanted stage.Sync2 status.Sync1 asks fits other = refl
next_wanted stage.Sync2 status.Sync2 asks fits other = absurd cc
next_wanted stage.Trace status.Async asks fits other = absurd cc
next_wanted stage.Trace status.Sync1 asks fits other = absurd cc
next_wanted stage.Trace status.Sync2 asks fits other = refl

same_flag_self : (b : Bool) → same_flag b b ≡ true
same_flag_self true = refl
same_flag_self false = refl

pub there : (s : State) (i : ℕ) → IsKept s → IsOwed s i → i < s.mutators
there s i k owed = subst (λ n. i < n) k.range.shape.mutators_fit.answered_fit owed.within

-- a mutator that the collector may answer for: it has not answered, is out, and has not the status
pub record IsOut (s : State) (i : ℕ) : Type 0 where
  pub owed : IsOwed s i
  pub asks : is_handshake s.control.stage ≡ true
  pub outside : (presence_of s i).inside ≡ false
  pub other : same_status (presence_of s i).status (wanted_of s) ≡ false

may_answer : (s : State) (i : ℕ) → IsKept s → IsOut s i
    → may_answer_out (wanted_of s) (presence_of s i).over (presence_of s i) ≡ true
may_answer s i k out =
    let found = presence_of s i in
    let fits = k.consistent.mutators.statuses i (there s i k out.owed) in
    let next = next_wanted s.control.stage found.status out.asks fits out.other in
    and_from (not found.inside && same_flag found.over found.over) _
    (and_from (not found.inside) _ (ap not out.outside) (same_flag_self found.over)) next

pub answered : (s : State) (i : ℕ) → IsKept s → IsOut s i
    → after s (event.AnswerOut i (presence_of s i).over)
    ≡ noted s (after s (event.AnswerOut i (presence_of s i).over)).presences i
answered s i k out =
    let t = after s (event.AnswerOut i (presence_of s i).over) in
    ap (λ b. record s { presences = t.presences; collector = answered_by s.collector i b })
    (may_answer s i k out)

-- an answer for a mutator that is out, and the look before it, which leaves all as it was
pub answers_fall : (s : State) (i : ℕ) → IsKept s → IsOut s i
    → FallsBy s (event.AnswerOut i (presence_of s i).over)
answers_fall s i k out =
    let t = after s (event.AnswerOut i (presence_of s i).over) in
    record {
      look = ap (λ b. record s { collector = answered_by s.collector i b }) out.other;
      less = (λ happens. subst (λ t. left t + 2 ≤ left s) (sym (answered s i k out))
          (noted_less s t.presences i out.owed out.asks));
    }

-- What the plain collector takes.

falls_same : (s : State) (e other : Event) → Some e ≡ Some other → FallsBy s e → FallsBy s other
falls_same s e other is falls = let same : e ≡ other = cc in subst (FallsBy s) same falls

of_handshake : (s : State) (i : ℕ) (e : Event) (has_it is_in : Bool) → IsKept s → IsOwed s i
    → is_handshake s.control.stage ≡ true
    → same_status (presence_of s i).status (wanted_of s) ≡ has_it → (presence_of s i).inside ≡ is_in
    → (if has_it then Some (event.Poll i) else
    (if is_in then None else Some (event.AnswerOut i (presence_of s i).over))) ≡ Some e
    → FallsBy s e
of_handshake s i e true is_in k owed asks has inside is = falls_same s (event.Poll i) e is
    (polls_fall s i owed asks has)
of_handshake s i e false true k owed asks has inside is = absurd cc
of_handshake s i e false false k owed asks has inside is =
    falls_same s (event.AnswerOut i (presence_of s i).over) e is
    (answers_fall s i k record { owed = owed; asks = asks; outside = inside; other = has })

at_work : (s : State) (e : Event) (x : Stage) → IsKept s → s.control.stage ≡ x
    → Some (plain_work s x) ≡ Some e
    → FallsBy s e
at_work s e x k now is = falls_same s (plain_work s x) e is
    (alone_falls s (plain_work s x) (works_less s x k now))

of_waiting : (s : State) (e : Event) (first : Option ℕ) → IsKept s
    → is_handshake s.control.stage ≡ true
    → first_unanswered s.collector ≡ first → plain_waiting s first ≡ Some e → FallsBy s e
of_waiting s e None k asks first is = at_work s e s.control.stage k refl is
of_waiting s e (Some i) k asks first is =
    of_handshake s i e _ _ k (first_is_owed s i first) asks refl refl is

of_stage : (s : State) (e : Event) (x : Stage) → IsKept s → s.control.stage ≡ x
    → plain_at s x ≡ Some e → FallsBy s e
of_stage s e stage.Idle k now is = at_work s e stage.Idle k now is
of_stage s e stage.Sync1 k now is = of_waiting s e (first_unanswered s.collector) k
    (ap is_handshake now) refl is
of_stage s e stage.Clear k now is = at_work s e stage.Clear k now is
of_stage s e stage.Sync2 k now is = of_waiting s e (first_unanswered s.collector) k
    (ap is_handshake now) refl is
of_stage s e stage.Trace k now is = of_waiting s e (first_unanswered s.collector) k
    (ap is_handshake now) refl is
of_stage s e stage.Sweep k now is = at_work s e stage.Sweep k now is

pub plain_falls : (s : State) (e : Event) → IsKept s → next_plain_of s ≡ Some e → FallsBy s e
plain_falls s e k is = of_stage s e s.control.stage k refl is
