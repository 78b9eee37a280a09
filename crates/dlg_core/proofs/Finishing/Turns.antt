-- On the way of a cycle the plain collector has a next event, and it makes a turn: it is possible
-- after the look before it, and the way goes on after it.
use Rattle.std.proofs.Common.{if◌then◌else◌, ◌≡◌, ℕ, ◌+◌, ◌≤◌, Bool, true, false, not, ◌&&◌, nat_lt}
use Rattle.std.proofs.Common.{List, length, Option, Some, None, refl, sym, ap, subst, ◌∙◌}
use Rattle.std.proofs.lemmas.Bool.{and_from, lt-ltb}
use Rattle.cell_words.specs.declared.controls.Stage.{Stage}
use Rattle.cell_words.specs.declared.controls.Stage.TheVariants as stage
use Rattle.cell_words.specs.declared.presences.Presence.{Presence}
use Rattle.core_machine.specs.declared.events.Event.{Event}
use Rattle.core_machine.specs.declared.events.Event.TheVariants as event
use Rattle.core_machine.specs.Handshakes.{wanted_of}
use Rattle.core_machine.specs.Next.{after, can, maker}
use Rattle.core_machine.specs.State.{State, all_answered, presence_of}
use Rattle.core_machine.specs.Words.{is_handshake, same_status}
use Rattle.core_machine.proofs.Frames.{collector_framed}
use Rattle.dlg_core.specs.Kept.{IsKept}
use Rattle.dlg_core.specs.Left.{AreOut, CursorFits, IsOnItsWay, MayBegin, left, left_behind}
use Rattle.dlg_core.specs.Plain.{first_unanswered, next_plain_of, plain_at, plain_waiting}
use Rattle.dlg_core.specs.Plain.{plain_work}
use Rattle.dlg_core.specs.PlainCycle.{ends_cycle, look_before, turn_with}
use Rattle.dlg_core.proofs.Finishing.Events.{GoesOn, Stays, works}
use Rattle.dlg_core.proofs.Finishing.Falls.{Lessens, works_less}
use Rattle.dlg_core.proofs.Finishing.Handshakes.{IsOut, IsOwed, alone_falls, answered, answers_fall}
use Rattle.dlg_core.proofs.Finishing.Handshakes.{first_is_owed, none_is, noted, polled, polls_fall}
use Rattle.dlg_core.proofs.Finishing.Handshakes.{there}

-- the look before the event is possible, and leaves all as it is
abbrev pub LooksFirst : State → Option Event → Type 0
LooksFirst s None = Unit {0}
LooksFirst s (Some look) = (can s look ≡ true) × (after s look ≡ s)

pub record TurnOf (s : State) (e : Event) : Type 0 where
  pub looks_first : LooksFirst s (look_before e)
  pub happens : can s e ≡ true
  pub less : left_behind (ends_cycle e) (after s e) + length (turn_with e) ≤ left s
  pub stays : ends_cycle e ≡ false → IsOnItsWay (after s e)

-- no event of the collector brings anybody in
out_after : (s : State) (e : Event) → maker e ≡ None → AreOut s.presences
    → AreOut (after s e).presences
out_after s e made out i =
    let mine = presence_of s i in
    let knows = (collector_framed s e made).presences mine i
    (record { inside = refl; over = refl; status = (λ inside. refl) }) in
    sym knows.inside ∙ out i

way_after : (s : State) (e : Event) → maker e ≡ None → AreOut s.presences → Stays (after s e)
    → IsOnItsWay (after s e)
way_after s e made out stays =
    let t = after s e in
    record {
      out = out_after s e made out;
      cursor = subst (λ x. CursorFits x t.collector.cursor t.cells) (sym stays.now) stays.cursor;
      begins = subst (λ x. MayBegin x t.control.cycles) (sym stays.now) stays.begins;
    }

alone : (s : State) (e : Event) → IsOnItsWay s → Lessens s e → GoesOn s e → TurnOf s e
alone s e way lessens on = record {
  looks_first = subst (LooksFirst s) (sym lessens.no_look) tt;
  happens = on.happens;
  less = (alone_falls s e lessens).less on.happens;
  stays = (λ other. way_after s e on.collects way.out (on.stays other));
}

-- Handshakes.

noted_stays : (s : State) (presences : List Presence) (i : ℕ) → IsOnItsWay s
    → Stays (noted s presences i)
noted_stays s presences i way = record {
  at = s.control.stage;
  now = refl;
  cursor = way.cursor;
  begins = way.begins;
}

polls_can : (s : State) (i : ℕ) → IsKept s → IsOwed s i → is_handshake s.control.stage ≡ true
    → can s (event.Poll i) ≡ true
polls_can s i k owed asks =
    and_from (is_handshake s.control.stage) _ asks (lt-ltb i s.mutators (there s i k owed))

-- a look at a mutator that has the status
polls : (s : State) (i : ℕ) → IsKept s → IsOnItsWay s → IsOwed s i
    → is_handshake s.control.stage ≡ true
    → same_status (presence_of s i).status (wanted_of s) ≡ true → TurnOf s (event.Poll i)
polls s i k way owed asks has =
    let happens = polls_can s i k owed asks in
    record {
      looks_first = tt;
      happens = happens;
      less = (polls_fall s i owed asks has).less happens;
      stays = (λ other. way_after s (event.Poll i) refl way.out
          (subst Stays (sym (polled s i has)) (noted_stays s s.presences i way)));
    }

-- an answer for a mutator that is out
answers : (s : State) (i : ℕ) → IsKept s → IsOnItsWay s → IsOut s i
    → TurnOf s (event.AnswerOut i (presence_of s i).over)
answers s i k way out =
    let e = event.AnswerOut i (presence_of s i).over in
    let looks = polls_can s i k out.owed out.asks in
    let happens : can s e ≡ true
    = and_from (is_handshake s.control.stage && nat_lt i s.mutators) _ looks
    (ap not out.owed.not_yet) in
    let falls = answers_fall s i k out in
    record {
      looks_first = (looks, falls.look);
      happens = happens;
      less = falls.less happens;
      stays = (λ other. way_after s e refl way.out
          (subst Stays (sym (answered s i k out))
          (noted_stays s (after s e).presences i way)));
    }

-- What the plain collector takes.

-- there is an event, and it makes a turn
abbrev pub Plans : State → Option Event → Type 0
Plans s next = (e : Event) × (next ≡ Some e) × TurnOf s e

of_handshake : (s : State) (i : ℕ) (has_it is_in : Bool) → IsKept s → IsOnItsWay s → IsOwed s i
    → is_handshake s.control.stage ≡ true
    → same_status (presence_of s i).status (wanted_of s) ≡ has_it → is_in ≡ false
    → Plans s (if has_it then Some (event.Poll i) else
    (if is_in then None else Some (event.AnswerOut i (presence_of s i).over)))
of_handshake s i true is_in k way owed asks has out =
    (event.Poll i, refl, polls s i k way owed asks has)
of_handshake s i false true k way owed asks has out = absurd cc
of_handshake s i false false k way owed asks has out = (
  event.AnswerOut i (presence_of s i).over,
  refl,
  answers s i k way (record { owed = owed; asks = asks; outside = way.out i; other = has }),
)

at_work : (s : State) (x : Stage) → IsKept s → IsOnItsWay s
    → (is_handshake x ≡ true → all_answered s ≡ true)
    → s.control.stage ≡ x → Plans s (Some (plain_work s x))
at_work s x k way all now = (
  plain_work s x,
  refl,
  alone s (plain_work s x) way (works_less s x k now) (works s x k way all now),
)

of_waiting : (s : State) (first : Option ℕ) → IsKept s → IsOnItsWay s
    → is_handshake s.control.stage ≡ true
    → first_unanswered s.collector ≡ first → Plans s (plain_waiting s first)
of_waiting s None k way asks first =
    at_work s s.control.stage k way (λ h. none_is 0 s.collector.answered first) refl
of_waiting s (Some i) k way asks first =
    of_handshake s i (same_status (presence_of s i).status (wanted_of s)) (presence_of s i).inside
    k way (first_is_owed s i first) asks refl (way.out i)

of_stage : (s : State) (x : Stage) → IsKept s → IsOnItsWay s → s.control.stage ≡ x
    → Plans s (plain_at s x)
of_stage s stage.Idle k way now = at_work s stage.Idle k way (λ h. absurd cc) now
of_stage s stage.Sync1 k way now =
    of_waiting s (first_unanswered s.collector) k way (ap is_handshake now) refl
of_stage s stage.Clear k way now = at_work s stage.Clear k way (λ h. absurd cc) now
of_stage s stage.Sync2 k way now =
    of_waiting s (first_unanswered s.collector) k way (ap is_handshake now) refl
of_stage s stage.Trace k way now =
    of_waiting s (first_unanswered s.collector) k way (ap is_handshake now) refl
of_stage s stage.Sweep k way now = at_work s stage.Sweep k way (λ h. absurd cc) now

pub plan : (s : State) → IsKept s → IsOnItsWay s → Plans s (next_plain_of s)
plan s k way = of_stage s s.control.stage k way refl

-- the next event makes a turn
pub planned : (s : State) (e : Event) → IsKept s → IsOnItsWay s → next_plain_of s ≡ Some e
    → TurnOf s e
planned s e k way is =
    let p = plan s k way in
    let both : Some p.0 ≡ Some e = sym p.1 ∙ is in
    let same : p.0 ≡ e = cc in
    subst (TurnOf s) same p.2
