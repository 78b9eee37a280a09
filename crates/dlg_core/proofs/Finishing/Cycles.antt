-- A whole cycle of the plain collector, turn by turn: what the loop keeps on its way, and that it
-- ends with no more events than were left at the start.
use Rattle.std.proofs.Common.{◌≡◌, ℕ, ◌+◌, ◌^◌, ◌<◌, ◌≤◌, Bool, true, false, not, ◌&&◌, nat_lt}
use Rattle.std.proofs.Common.{List, [], ◌∷◌, ◌++◌, length, Option, Some, None, Result, Ok, Err, is_ok}
use Rattle.std.proofs.Common.{zero, suc, refl, sym, ap, subst, ◌∙◌, arith}
use Rattle.std.proofs.Common.{length-append}
use Rattle.std.specs.List.{list_all}
use Rattle.std.proofs.lemmas.Bool.{and_parts, ltb-true}
use Rattle.std.proofs.lemmas.Nat.{mul-le}
use Rattle.cell_words.specs.declared.controls.Stage.{Stage}
use Rattle.cell_words.specs.declared.controls.Stage.TheVariants as stage
use Rattle.cell_words.specs.declared.presences.Presence.{Presence}
use Rattle.core_machine.specs.declared.events.Event.{Event}
use Rattle.core_machine.specs.Handshakes.{at_stage}
use Rattle.core_machine.specs.Next.{after, can, next, when}
use Rattle.core_machine.specs.Run.{last}
use Rattle.core_machine.specs.State.{State, greatest_cells, greatest_cycles}
use Rattle.core_machine.specs.Takes.{Takes}
use Rattle.core_machine.specs.Words.{same_stage}
use Rattle.core_machine.proofs.Ranges.Events.{when_some}
use Rattle.dlg_core.specs.Kept.{IsKept}
use Rattle.dlg_core.specs.Left.{AreOut, CursorFits, IsOnItsWay, MayBegin, left, left_behind}
use Rattle.dlg_core.specs.Left.{whole_cycle}
use Rattle.dlg_core.specs.Plain.{next_plain_of}
use Rattle.dlg_core.specs.PlainCycle.{HasFinished, PlainCycle, behind_look, ends, goes_on}
use Rattle.dlg_core.specs.PlainCycle.{ends_cycle, is_out, look_before, may_finish, most_events}
use Rattle.dlg_core.specs.PlainCycle.{turn_with}
use Rattle.dlg_core.specs.Runs.{LeadsTo}
use Rattle.dlg_core.proofs.Finishing.Falls.{left_at}
use Rattle.dlg_core.proofs.Finishing.Turns.{LooksFirst, planned}

-- Runs.

-- one run after another
leads_both : (s : State) (first rest : List Event) (q t : State) → LeadsTo s first q
    → LeadsTo q rest t
    → LeadsTo s (first ++ rest) t
leads_both s [] rest q t one two = subst (λ x. LeadsTo x rest t) (sym one.ends) two
leads_both s (e ∷ first) rest q t one two =
    let behind = leads_both (after s e) first rest q t
    (record { runs = one.runs.2; ends = one.ends }) two in
    record { runs = (one.runs.0, one.runs.1, behind.runs); ends = behind.ends }

-- the events of a cycle are a run
pub plain_leads : (t s : State) (events : List Event) → PlainCycle t s events → LeadsTo s events t
plain_leads t s events (ends e next last leads are) =
    subst (λ es. LeadsTo s es t) (sym are) leads
plain_leads t s events (goes_on e q rest next other leads later are) =
    subst (λ es. LeadsTo s es t) (sym are)
    (leads_both s (turn_with e) rest q t leads (plain_leads t q rest later))

turn_runs : (s : State) (look : Option Event) (e : Event) → LooksFirst s look → can s e ≡ true
    → LeadsTo s (behind_look look e) (after s e)
turn_runs s None e first happens = record { runs = (happens, refl, tt); ends = refl }
turn_runs s (Some look) e first happens = record {
  runs = (first.0, refl, (subst (λ q. can q e ≡ true) (sym first.1) happens, refl, tt));
  ends = ap (λ q. after q e) first.1;
}

-- what a turn takes is a run
pub turn_leads : (s t : State) (e : Event) → IsKept s → IsOnItsWay s → next_plain_of s ≡ Some e
    → next s e ≡ Some t → LeadsTo s (turn_with e) t
turn_leads s t e k way is taken =
    let turn = planned s e k way is in
    let leads = turn_runs s (look_before e) e turn.looks_first turn.happens in
    subst (LeadsTo s (turn_with e)) (when_some (can s e) (after s e) t taken).1 leads

-- it is the only one
turn_ends : (s t : State) (e : Event) → IsKept s → IsOnItsWay s → next_plain_of s ≡ Some e
    → LeadsTo s (turn_with e) t → after s e ≡ t
turn_ends s t e k way is leads =
    let turn = planned s e k way is in
    sym (turn_runs s (look_before e) e turn.looks_first turn.happens).ends ∙ leads.ends

-- the look before the turn
pub looks_at : (s : State) (e look : Event) → IsKept s → IsOnItsWay s → next_plain_of s ≡ Some e
    → look_before e ≡ Some look
    → LooksFirst s (Some look)
looks_at s e look k way is before = subst (LooksFirst s) before (planned s e k way is).looks_first

-- Calls that take one event: the event can happen, so they do.

pub takes_ok : {U E : Type 0} (result : Result U E) (s t : State) (e : Event)
    → Takes result s (next s e) t
    → can s e ≡ true → is_ok result ≡ true
takes_ok (Ok done) s t e is happens = refl
takes_ok (Err refusal) s t e is happens =
    let none : when true (after s e) ≡ None
    = subst (λ b. when b (after s e) ≡ None) happens is.0 in
    absurd cc

pub takes_next : {U E : Type 0} (result : Result U E) (s t : State) (e : Event)
    → Takes result s (next s e) t
    → can s e ≡ true → next s e ≡ Some t
takes_next (Ok done) s t e is happens = is
takes_next (Err refusal) s t e is happens =
    let none : when true (after s e) ≡ None
    = subst (λ b. when b (after s e) ≡ None) happens is.0 in
    absurd cc

-- where a cycle begins

out_each : (presences : List Presence) → list_all is_out presences ≡ true → AreOut presences
out_each [] all i = refl
out_each (p ∷ presences) all zero = not_inside p.inside (and_parts (is_out p) _ all).0
  where
    not_inside : (b : Bool) → not b ≡ true → b ≡ false
    not_inside true h = absurd cc
    not_inside false h = refl
out_each (p ∷ presences) all (suc i) =
    out_each presences (and_parts (is_out p) (list_all is_out presences) all).1 i

is_idle : (x : Stage) → same_stage x stage.Idle ≡ true → x ≡ stage.Idle
is_idle stage.Idle h = refl
is_idle stage.Sync1 h = absurd cc
is_idle stage.Clear h = absurd cc
is_idle stage.Sync2 h = absurd cc
is_idle stage.Trace h = absurd cc
is_idle stage.Sweep h = absurd cc

pub record IsBegun (s : State) : Type 0 where
  pub way : IsOnItsWay s
  pub now : s.control.stage ≡ stage.Idle

pub begun : (s : State) → may_finish s ≡ true → IsBegun s
begun s may =
    let parts = and_parts (at_stage s stage.Idle && nat_lt s.control.cycles greatest_cycles) _
    may in
    let first = and_parts (at_stage s stage.Idle) _ parts.0 in
    let now = is_idle s.control.stage first.0 in
    record {
      way = record {
        out = out_each s.presences parts.1;
        cursor = subst (λ x. CursorFits x s.collector.cursor s.cells) (sym now) tt;
        begins = subst (λ x. MayBegin x s.control.cycles) (sym now)
            (ltb-true s.control.cycles greatest_cycles first.1);
      };
      now = now;
    }

-- The loop: so many events have led from s to q, and the cycle is still on its way.
pub record IsSoFar (s : State) (taken : ℕ) (q : State) : Type 0 where
  pub way : IsOnItsWay q
  pub less : taken + left q ≤ left s
  -- the end of a cycle from q on is that of one from s on
  pub later : (t : State) (rest : List Event) → PlainCycle t q rest
      → (events : List Event) × PlainCycle t s events × (length events ≡ taken + length rest)

pub so_far_none : (s : State) → may_finish s ≡ true → IsSoFar s 0 s
so_far_none s may = record {
  way = (begun s may).way;
  less = omega arith;
  later = (λ t rest plain. (rest, plain, omega arith));
}

pub so_far_more : (s q r : State) (taken more : ℕ) (e : Event) → IsSoFar s taken q → IsKept q
    → next_plain_of q ≡ Some e
    → LeadsTo q (turn_with e) r → more ≡ length (turn_with e) → ends_cycle e ≡ false
    → IsSoFar s (taken + more) r
so_far_more s q r taken more e far k is leads many other =
    let turn = planned q e k far.way is in
    let same = turn_ends q r e k far.way is leads in
    let less : left r + length (turn_with e) ≤ left q
    = subst (λ x. left x + length (turn_with e) ≤ left q) same
    (subst (λ b. left_behind b (after q e) + length (turn_with e) ≤ left q) other turn.less) in
    let before = far.less in
    record {
      way = subst IsOnItsWay same (turn.stays other);
      less = omega arith;
      later = (λ t rest plain.
          let on = goes_on e r rest is other leads plain refl in
          let whole = far.later t (turn_with e ++ rest) on in (
            whole.0,
            whole.1,
            (let long = length-append (turn_with e) rest in
                let all = whole.2 in
                omega arith),
          ));
    }

-- it falls
pub less_left : (q r : State) (e : Event) → IsKept q → IsOnItsWay q → next_plain_of q ≡ Some e
    → LeadsTo q (turn_with e) r
    → ends_cycle e ≡ false → left r < left q
less_left q r e k way is leads other =
    let turn = planned q e k way is in
    let less : left r + length (turn_with e) ≤ left q
    = subst (λ x. left x + length (turn_with e) ≤ left q) (turn_ends q r e k way is leads)
    (subst (λ b. left_behind b (after q e) + length (turn_with e) ≤ left q) other turn.less) in
    let some = turn_some e in
    omega arith
  where
    behind_some : (look : Option Event) (e : Event) → 0 < length (behind_look look e)
    behind_some None e = omega arith
    behind_some (Some look) e = omega arith

    turn_some : (e : Event) → 0 < length (turn_with e)
    turn_some e = behind_some (look_before e) e

-- so many events can a turn still have
few_more : (s q : State) (taken : ℕ) (e : Event) → IsSoFar s taken q → IsKept q
    → next_plain_of q ≡ Some e
    → taken + length (turn_with e) ≤ left s
few_more s q taken e far k is =
    let less = (planned q e k far.way is).less in
    let before = far.less in
    omega arith

left_most : (s : State) → may_finish s ≡ true → left s ≡ most_events s.cells s.mutators
left_most s may = left_at s stage.Idle (begun s may).now ∙ whole_is s.cells s.mutators
  where
    whole_is : (cells mutators : ℕ) → whole_cycle cells mutators ≡ most_events cells mutators
    whole_is cells mutators = omega arith

-- and their number has room
pub room_left : (s q : State) (taken more : ℕ) (e : Event) → may_finish s ≡ true
    → IsSoFar s taken q → IsKept q
    → next_plain_of q ≡ Some e → more ≡ length (turn_with e) → s.cells ≤ greatest_cells
    → s.mutators < 2 ^ 32 → taken + more < 2 ^ 64
room_left s q taken more e may far k is many cells mutators =
    let few = few_more s q taken e far k is in
    let most = left_most s may in
    let square = mul-le s.cells s.cells greatest_cells greatest_cells cells cells in
    omega arith

-- the cycle is over
pub finished : (s q t : State) (taken more : ℕ) (e : Event) → may_finish s ≡ true
    → IsSoFar s taken q → IsKept q
    → next_plain_of q ≡ Some e → LeadsTo q (turn_with e) t → more ≡ length (turn_with e)
    → ends_cycle e ≡ true → HasFinished s (taken + more) t
finished s q t taken more e may far k is leads many last =
    let whole = far.later t (turn_with e) (ends e is last leads refl) in
    let few = few_more s q taken e far k is in
    let most = left_most s may in
    let all = whole.2 in
    record {
      events = whole.0;
      plain = whole.1;
      leads = plain_leads t s whole.0 whole.1;
      many = omega arith;
      few = omega arith;
    }
