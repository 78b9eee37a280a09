-- Parts of a call that answers in time: one after the other, and one event each.
use Rattle.std.proofs.Common.{◌≡◌, ◌≤◌, ◌+◌, ℕ, Bool, true, false, List, [], ◌∷◌, ◌++◌}
use Rattle.std.proofs.Common.{refl, sym, ◌∙◌, ap, subst, arith, if◌then◌else◌}
use Rattle.std.proofs.lemmas.Bool.{and_parts}
use Rattle.std.proofs.lemmas.List.{append-nil, append_assoc}
use Rattle.std.specs.List.{list_all}
use Rattle.cell_words.specs.Modes.{next_status_of}
use Rattle.cell_words.specs.declared.controls.Control.{Control}
use Rattle.cell_words.specs.declared.presences.Status.{Status}
use Rattle.cell_words.specs.declared.presences.Status.TheVariants as status
use Rattle.core_machine.specs.declared.events.Event.{Event}
use Rattle.core_machine.specs.declared.events.Event.TheVariants as event
use Rattle.core_machine.specs.declared.events.Found.{Found}
use Rattle.core_machine.specs.declared.events.Found.TheVariants as finds
use Rattle.core_machine.specs.declared.events.Taken.{Taken}
use Rattle.heap_rule.specs.Rule.{took}
use Rattle.trails.specs.Claims.{look_of}
use Rattle.mutator_seat.specs.Bound.{Bound, takes}
use Rattle.mutator_seat.specs.Claims.{Tried}
use Rattle.mutator_seat.specs.Pacing.{IsPrompt, Leads, Paces, Prompt, asks, status_on}
use Rattle.mutator_seat.specs.Pacing.{steps_on}
use Rattle.mutator_seat.specs.Stretches.{AnsweringIf, AreBefore, Calm, LookAndAnswer, answer_of}
use Rattle.mutator_seat.specs.Stretches.{are_marks, asks_next, is_mark, status_behind}
use Rattle.mutator_seat.proofs.Calm.{trail_all}

-- Fewer steps before.

either_less : (b : Bool) (m n : ℕ) → m ≤ n → (if b then m + 1 else 0) ≤ (if b then n + 1 else 0)
either_less true m n le = omega (arith, le)
either_less false m n le = omega arith

steps_less : (own : Status) (e : Event) (found : Found) (m n : ℕ) → m ≤ n
    → steps_on own m e found ≤ steps_on own n e found
steps_less own (event.Look i) found m n le = either_less (asks own found) m n le
steps_less own (event.Answer i) found m n le = omega arith
steps_less own (event.Claim i cell) found m n le = omega (arith, le)
steps_less own e found m n le = le

pub prompt_less : (es : List Taken) (own : Status) (m n : ℕ) → m ≤ n → IsPrompt own n es
    → IsPrompt own m es
prompt_less [] own m n le is =
    let few : n ≤ 66 = is in
    omega (arith, le, few)
prompt_less (t ∷ ts) own m n le is =
    let few : n ≤ 66 = is.0 in (
      omega (arith, le, few),
      prompt_less ts (status_on own t.event) (steps_on own m t.event t.found)
          (steps_on own n t.event t.found) (steps_less own t.event t.found m n le) is.1,
    )

-- Events.

mark_steps : (own : Status) (n : ℕ) (e : Event) (found : Found) → is_mark e ≡ true
    → steps_on own n e found ≡ n
mark_steps own n (event.Mark i place) found is = refl
mark_steps own n e found is = absurd cc

mark_status : (own : Status) (e : Event) → is_mark e ≡ true → status_on own e ≡ own
mark_status own (event.Mark i place) is = refl
mark_status own e is = absurd cc

marks_lead : (own : Status) (n : ℕ) (es : List Taken) → n ≤ 66 → are_marks es → Leads own n own n es
marks_lead own n [] few are rest is = is
marks_lead own n (t ∷ ts) few are rest is =
    let parts = and_parts (is_mark t.event) (list_all (λ (u : Taken). is_mark u.event) ts) are in (
      few,
      subst (λ (s : Status). IsPrompt s (steps_on own n t.event t.found) (ts ++ rest))
          (sym (mark_status own t.event parts.0))
          (subst (λ (k : ℕ). IsPrompt own k (ts ++ rest))
          (sym (mark_steps own n t.event t.found parts.0))
          (marks_lead own n ts few parts.1 rest is)),
    )

before_lead : (own next : Status) (n : ℕ) (es : List Taken) → n ≤ 66 → AreBefore next es
    → Leads own n own n es
before_lead own status.Async n es few are = marks_lead own n es few are
before_lead own status.Sync1 n es few none =
    subst (Leads own n own n) (sym none) (λ rest is. is)
before_lead own status.Sync2 n es few none =
    subst (Leads own n own n) (sym none) (λ rest is. is)

leads_then : (a b c : Status) (n m k : ℕ) (xs ys : List Taken) → Leads a n b m xs
    → Leads b m c k ys → Leads a n c k (xs ++ ys)
leads_then a b c n m k xs ys first second = λ rest is.
    subst (λ (es : List Taken). IsPrompt a n es) (sym (append_assoc xs ys rest))
    (first (ys ++ rest) (second rest is))

-- the answer that a look asked for
rest_lead : (answered : Bool) (number : ℕ) (own : Status) (es : List Taken)
    → AnsweringIf answered number own es
    → Leads own (if answered then 66 else 0) (status_behind answered own) 0 es
rest_lead true number own es answer =
    subst (λ (ts : List Taken). Leads own 66 (next_status_of own) 0 ts) (sym answer.split)
    (leads_then own own (next_status_of own) 66 66 0 answer.marks (answer_of number ∷ [])
    (before_lead own (next_status_of own) 66 answer.marks (omega arith) answer.marks_are)
    (λ rest is. (omega arith, is)))
rest_lead false number own es none =
    subst (λ (ts : List Taken). Leads own 0 own 0 ts) (sym none) (λ rest is. is)

answer_leads : (number : ℕ) (own : Status) (answered : Bool) (es : List Taken)
    → LookAndAnswer number own answered es → Leads own 65 (status_behind answered own) 0 es
answer_leads number own answered es both =
    subst (λ (ts : List Taken). Leads own 65 (status_behind answered own) 0 ts) (sym both.split)
    (λ rest is. (
      omega arith,
      subst (λ (b : Bool). IsPrompt own (if b then 66 else 0) (both.rest ++ rest)) both.asked
          (rest_lead answered number own both.rest both.answer rest is),
    ))

module _ {P : Type 0} where
  -- Parts.

  pub paces_none : (a : Bound P) (n m : ℕ) → n ≤ m → Paces n m a a
  paces_none a n m le = record {
    added = [];
    trail = sym (append-nil a.seat.me.trail);
    fact = λ rest is. prompt_less rest a.seat.me.presence.status n m le is;
  }

  pub paces_then : (a b c : Bound P) (n m k : ℕ) → Paces n m a b → Paces m k b c → Paces n k a c
  paces_then a b c n m k first second = record {
    added = first.added ++ second.added;
    trail = second.trail ∙ ap (λ (ts : List Taken). ts ++ second.added) first.trail
        ∙ append_assoc a.seat.me.trail first.added second.added;
    fact = leads_then a.seat.me.presence.status b.seat.me.presence.status
        c.seat.me.presence.status n m k first.added second.added first.fact second.fact;
  }

  pub paces_within : (a b : Bound P) (n m k j : ℕ) → k ≤ n → m ≤ j → Paces n m a b → Paces k j a b
  paces_within a b n m k j before behind part = record {
    added = part.added;
    trail = part.trail;
    fact = λ rest is. prompt_less (part.added ++ rest) a.seat.me.presence.status k n before
        (part.fact rest (prompt_less rest b.seat.me.presence.status m j behind is));
  }

  pub paces_prompt : (a b : Bound P) → Paces 0 65 a b → Prompt a b
  paces_prompt a b part = record {
    added = part.added;
    trail = part.trail;
    fact = subst (λ (es : List Taken). IsPrompt a.seat.me.presence.status 0 es)
        (append-nil part.added) (part.fact [] (omega arith));
  }

  -- One event, and a handshake.

  pub paces_look : (a b : Bound P) (control : Control) (n : ℕ) → n ≤ 65
      → b ≡ takes a (event.Look a.seat.me.number) (finds.Control control) → Paces n (n + 1) a b
  paces_look a b control n few told =
      let own = a.seat.me.presence.status in record {
        added = look_of a.seat.me.number control ∷ [];
        trail = ap (λ (m : Bound P). m.seat.me.trail) told;
        fact = λ rest is. (
          omega (arith, few),
          either (asks_next control own) rest
              (subst (λ (s : Status). IsPrompt s (n + 1) rest)
              (ap (λ (m : Bound P). m.seat.me.presence.status) told) is),
        );
      }
    where
      either : (b : Bool) (rest : List Taken)
          → IsPrompt a.seat.me.presence.status (n + 1) rest
          → IsPrompt a.seat.me.presence.status (if b then n + 1 else 0) rest
      either true rest is = is
      either false rest is =
          prompt_less rest a.seat.me.presence.status 0 (n + 1) (omega arith) is

  pub paces_try : (a b : Bound P) (cell n : ℕ) → n ≤ 65 → Tried cell a b → Paces n (n + 1) a b
  paces_try a b cell n few tried = record {
    added = took (event.Claim a.seat.me.number cell) (finds.Colour tried.0) ∷ [];
    trail = ap (λ (m : Bound P). m.seat.me.trail) tried.1;
    fact = λ rest is. (
      omega (arith, few),
      subst (λ (s : Status). IsPrompt s (n + 1) rest)
          (ap (λ (m : Bound P). m.seat.me.presence.status) tried.1) is,
    );
  }

  pub paces_answer : (a b : Bound P) (answered : Bool)
      → Calm (LookAndAnswer a.seat.me.number a.seat.me.presence.status answered) a b
      → b.seat.me.presence.status ≡ status_behind answered a.seat.me.presence.status
      → Paces 65 0 a b
  paces_answer a b answered calm status = record {
    added = calm.added;
    trail = ap (λ (m : Bound P). m.seat.me.trail) calm.told ∙ trail_all a calm.added;
    fact = λ rest is. answer_leads a.seat.me.number a.seat.me.presence.status answered calm.added
        calm.fact rest (subst (λ (s : Status). IsPrompt s 0 rest) status is);
  }
