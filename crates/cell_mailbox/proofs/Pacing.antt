-- Parts of a call that answers in time: one after the other, and what each event adds.
use Rattle.std.proofs.Common.{◌≡◌, ◌≤◌, ◌+◌, ℕ, Bool, true, false, List, [], ◌∷◌, ◌++◌}
use Rattle.std.proofs.Common.{refl, sym, ◌∙◌, ap, subst, arith, if◌then◌else◌, ◌&&◌}
use Rattle.std.proofs.Common.{Result, Ok, Err, IfErr}
use Rattle.std.specs.Prelude.{OnOk}
use Rattle.std.proofs.lemmas.Bool.{and_parts}
use Rattle.std.proofs.lemmas.List.{append-nil, append_assoc}
use Rattle.std.specs.List.{list_all}
use Rattle.cell_words.specs.Modes.{barrier_of, next_status_of}
use Rattle.cell_words.specs.declared.fields.Field.{Field}
use Rattle.cell_words.specs.declared.presences.Status.{Status}
use Rattle.cell_words.specs.declared.presences.Status.TheVariants as status
use Rattle.core_machine.specs.declared.events.Event.{Event}
use Rattle.core_machine.specs.declared.events.Event.TheVariants as event
use Rattle.core_machine.specs.declared.events.Found.{Found}
use Rattle.core_machine.specs.declared.events.Found.TheVariants as finds
use Rattle.core_machine.specs.declared.events.Taken.{Taken}
use Rattle.heap_rule.specs.declared.known.Learned.{Learned}
use Rattle.heap_rule.specs.declared.view.View.{View}
use Rattle.heap_rule.specs.Rule.{took}
use Rattle.heap_rule.specs.Steps.{same_pass}
use Rattle.mail_rule.specs.Mail.{HoldsMail, is_fixed}
use Rattle.mail_rule.specs.declared.mail_pass.MailPass.{MailPass}
use Rattle.core_machine.specs.Words.{same_field}
use Rattle.mutator_events.specs.Events.{AtEvent}
use Rattle.mutator_events.specs.declared.values.Moved.{Moved}
use Rattle.mutator_events.specs.declared.values.Value.{Value}
use Rattle.mutator_seat.specs.Bound.{Bound, takes}
use Rattle.mutator_seat.specs.Pacing.{asks, status_on}
use Rattle.mutator_seat.specs.Stretches.{AnsweringIf, AreBefore, Calm, LookAndAnswer, MarksOf}
use Rattle.mutator_seat.specs.Stretches.{answer_of, are_marks, asks_next, is_mark, status_behind}
use Rattle.mutator_seat.specs.Stretches.{takes_all}
use Rattle.mutator_seat.specs.Writes.{LookAndMarks, Updated, wanted_by, write_of}
use Rattle.held_places.proofs.Going.{calm_trail}
use Rattle.cell_mailbox.specs.Pacing.{AnswersInTime, Leads, Paces, Prompt, ReadsTimes, reads_on}

-- Fewer reads before.

either_less : (b : Bool) (m n : ℕ) → m ≤ n → (if b then m else 0) ≤ (if b then n else 0)
either_less true m n le = le
either_less false m n le = omega arith

reads_less : (own : Status) (e : Event) (found : Found) (m n : ℕ) → m ≤ n
    → reads_on own m e found ≤ reads_on own n e found
reads_less own (event.Look i) found m n le = either_less (asks own found) m n le
reads_less own (event.Answer i) found m n le = omega arith
reads_less own (event.Read i place f) found m n le = omega (arith, le)
reads_less own e found m n le = le

in_time_less : (es : List Taken) (own : Status) (m n : ℕ) → m ≤ n → AnswersInTime own n es
    → AnswersInTime own m es
in_time_less [] own m n le is = let few : n ≤ 5 = is in omega (arith, le, few)
in_time_less (t ∷ ts) own m n le is =
    let few : n ≤ 5 = is.0 in (
      omega (arith, le, few),
      in_time_less ts (status_on own t.event) (reads_on own m t.event t.found)
          (reads_on own n t.event t.found) (reads_less own t.event t.found m n le) is.1,
    )

-- Events.

mark_reads : (own : Status) (n : ℕ) (e : Event) (found : Found) → is_mark e ≡ true
    → reads_on own n e found ≡ n
mark_reads own n (event.Mark i place) found is = refl
mark_reads own n e found is = absurd cc

mark_status : (own : Status) (e : Event) → is_mark e ≡ true → status_on own e ≡ own
mark_status own (event.Mark i place) is = refl
mark_status own e is = absurd cc

marks_lead : (own : Status) (n : ℕ) (es : List Taken) → n ≤ 5 → are_marks es → Leads own n own n es
marks_lead own n [] few are rest is = is
marks_lead own n (t ∷ ts) few are rest is =
    let parts = and_parts (is_mark t.event) (list_all (λ (u : Taken). is_mark u.event) ts) are in (
      few,
      subst (λ (s : Status). AnswersInTime s (reads_on own n t.event t.found) (ts ++ rest))
          (sym (mark_status own t.event parts.0))
          (subst (λ (k : ℕ). AnswersInTime own k (ts ++ rest))
          (sym (mark_reads own n t.event t.found parts.0))
          (marks_lead own n ts few parts.1 rest is)),
    )

before_lead : (own next : Status) (n : ℕ) (es : List Taken) → n ≤ 5 → AreBefore next es
    → Leads own n own n es
before_lead own status.Async n es few are = marks_lead own n es few are
before_lead own status.Sync1 n es few none =
    subst (Leads own n own n) (sym none) (λ rest is. is)
before_lead own status.Sync2 n es few none =
    subst (Leads own n own n) (sym none) (λ rest is. is)

leads_then : (a b c : Status) (n m k : ℕ) (xs ys : List Taken) → Leads a n b m xs
    → Leads b m c k ys → Leads a n c k (xs ++ ys)
leads_then a b c n m k xs ys first second = λ rest is.
    subst (λ (es : List Taken). AnswersInTime a n es) (sym (append_assoc xs ys rest))
    (first (ys ++ rest) (second rest is))

-- the answer that a look asked for
rest_lead : (answered : Bool) (number : ℕ) (own : Status) (es : List Taken)
    → AnsweringIf answered number own es
    → Leads own (if answered then 5 else 0) (status_behind answered own) 0 es
rest_lead true number own es answer =
    subst (λ (ts : List Taken). Leads own 5 (next_status_of own) 0 ts) (sym answer.split)
    (leads_then own own (next_status_of own) 5 5 0 answer.marks (answer_of number ∷ [])
    (before_lead own (next_status_of own) 5 answer.marks (omega arith) answer.marks_are)
    (λ rest is. (omega arith, is)))
rest_lead false number own es none =
    subst (λ (ts : List Taken). Leads own 0 own 0 ts) (sym none) (λ rest is. is)

answer_leads : (number : ℕ) (own : Status) (answered : Bool) (es : List Taken)
    → LookAndAnswer number own answered es → Leads own 5 (status_behind answered own) 0 es
answer_leads number own answered es both =
    subst (λ (ts : List Taken). Leads own 5 (status_behind answered own) 0 ts) (sym both.split)
    (λ rest is. (
      omega arith,
      subst (λ (b : Bool). AnswersInTime own (if b then 5 else 0) (both.rest ++ rest)) both.asked
          (rest_lead answered number own both.rest both.answer rest is),
    ))

-- the marks of a write
places_marked : (number : ℕ) (places : List ℕ) (es : List Taken) → MarksOf number places es
    → are_marks es
places_marked number [] [] are = refl
places_marked number [] (t ∷ ts) are = absurd cc
places_marked number (p ∷ ps) [] are = absurd cc
places_marked number (p ∷ ps) (t ∷ ts) are =
    let first : t.event ≡ event.Mark number p = cc in
    let others : MarksOf number ps ts = cc in
    ap (λ (e : Event). is_mark e && list_all (λ (u : Taken). is_mark u.event) ts) first
    ∙ places_marked number ps ts others

-- Parts.

pub paces_none : (a : Bound MailPass) → Paces 0 5 a a
paces_none a = record {
  added = [];
  trail = sym (append-nil a.seat.me.trail);
  fact = λ rest is. in_time_less rest a.seat.me.presence.status 0 5 (omega arith) is;
}

pub paces_then : (a b c : Bound MailPass) (n m k : ℕ) → Paces n m a b → Paces m k b c
    → Paces n k a c
paces_then a b c n m k first second = record {
  added = first.added ++ second.added;
  trail = second.trail ∙ ap (λ (ts : List Taken). ts ++ second.added) first.trail
      ∙ append_assoc a.seat.me.trail first.added second.added;
  fact = leads_then a.seat.me.presence.status b.seat.me.presence.status
      c.seat.me.presence.status n m k first.added second.added first.fact second.fact;
}

pub paces_within : (a b : Bound MailPass) (n m k j : ℕ) → k ≤ n → m ≤ j → Paces n m a b
    → Paces k j a b
paces_within a b n m k j before behind part = record {
  added = part.added;
  trail = part.trail;
  fact = λ rest is. in_time_less (part.added ++ rest) a.seat.me.presence.status k n before
      (part.fact rest (in_time_less rest b.seat.me.presence.status m j behind is));
}

pub paces_prompt : (a b : Bound MailPass) → Paces 0 5 a b → Prompt a b
paces_prompt a b part = record {
  added = part.added;
  trail = part.trail;
  fact = subst (λ (es : List Taken). AnswersInTime a.seat.me.presence.status 0 es)
      (append-nil part.added) (part.fact [] (omega arith));
}

-- One read, a handshake, a cut, and a write.

pub paces_read : (a b : Bound MailPass) (place f : ℕ) (found : Field)
    → AtEvent HoldsMail is_fixed a.seat.me (event.Read a.seat.me.number place f) same_pass
    (finds.Field found) b.seat.me
    → ReadsTimes 1 a b
paces_read a b place f found step n few = record {
  added = took (event.Read a.seat.me.number place f) (finds.Field found) ∷ [];
  trail = ap (λ (v : View MailPass). v.trail) step.new;
  fact = λ rest is. (
    omega (arith, few),
    subst (λ (s : Status). AnswersInTime s (n + 1) rest)
        (ap (λ (v : View MailPass). v.presence.status) step.new) is,
  );
}

-- three of them
pub paces_three : (a b c d : Bound MailPass) → ReadsTimes 1 a b → ReadsTimes 1 b c
    → ReadsTimes 1 c d → ReadsTimes 3 a d
paces_three a b c d first second third n few =
    let three : Paces n (((n + 1) + 1) + 1) a d =
    paces_then a b d n (n + 1) (((n + 1) + 1) + 1) (first n (omega (arith, few)))
    (paces_then b c d (n + 1) ((n + 1) + 1) (((n + 1) + 1) + 1)
    (second (n + 1) (omega (arith, few)))
    (third ((n + 1) + 1) (omega (arith, few)))) in
    paces_within a d n (((n + 1) + 1) + 1) n (n + 3) (omega arith) (omega arith) three

pub paces_answer : (a b : Bound MailPass) (answered : Bool)
    → Calm (LookAndAnswer a.seat.me.number a.seat.me.presence.status answered) a b
    → b.seat.me.presence.status ≡ status_behind answered a.seat.me.presence.status
    → Paces 5 0 a b
paces_answer a b answered calm status = record {
  added = calm.added;
  trail = calm_trail (LookAndAnswer a.seat.me.number a.seat.me.presence.status answered) a b calm;
  fact = λ rest is. answer_leads a.seat.me.number a.seat.me.presence.status answered calm.added
      calm.fact rest (subst (λ (s : Status). AnswersInTime s 0 rest) status is);
}

pub paces_keep : (a b : Bound MailPass) (count from copies n : ℕ) (p : Found) → n ≤ 5
    → b ≡ takes a (event.Keep a.seat.me.number count from copies) p → Paces n n a b
paces_keep a b count from copies n p few told = record {
  added = took (event.Keep a.seat.me.number count from copies) p ∷ [];
  trail = ap (λ (m : Bound MailPass). m.seat.me.trail) told;
  fact = λ rest is. (
    few,
    subst (λ (s : Status). AnswersInTime s n rest)
        (ap (λ (m : Bound MailPass). m.seat.me.presence.status) told) is,
  );
}

mark_presence : (a : Bound MailPass) (e : Event) (found : Found) → is_mark e ≡ true
    → (takes a e found).seat.me.presence ≡ a.seat.me.presence
mark_presence a (event.Mark i place) found is = refl
mark_presence a e found is = absurd cc

marks_presence : (a : Bound MailPass) (es : List Taken) → are_marks es
    → (takes_all a es).seat.me.presence ≡ a.seat.me.presence
marks_presence a [] are = refl
marks_presence a (t ∷ ts) are =
    let parts = and_parts (is_mark t.event) (list_all (λ (u : Taken). is_mark u.event) ts) are in
    marks_presence (takes a t.event t.found) ts parts.1
    ∙ mark_presence a t.event t.found parts.0

either_few : (b : Bool) (own : Status) (es : List Taken) → AnswersInTime own 5 es
    → AnswersInTime own (if b then 5 else 0) es
either_few true own es is = is
either_few false own es is = in_time_less es own 0 5 (omega arith) is

module _ (a b : Bound MailPass) (old new : Value)
    (calm : Calm (LookAndMarks a.seat.me.number a.seat.me.presence.status old new) a b) where
  abbrev own : Status
  own = a.seat.me.presence.status

  are : are_marks calm.fact.marks
  are = places_marked a.seat.me.number (wanted_by (barrier_of own calm.fact.control) old new)
      calm.fact.marks calm.fact.marks_are

  barrier_leads : Leads own 5 own 5 calm.added
  barrier_leads =
      subst (λ (ts : List Taken). Leads own 5 own 5 ts) (sym calm.fact.split)
      (λ rest is. (
        omega arith,
        either_few (asks_next calm.fact.control own) own (calm.fact.marks ++ rest)
            (marks_lead own 5 calm.fact.marks (omega arith) are rest is),
      ))

  same_presence : b.seat.me.presence ≡ a.seat.me.presence
  same_presence =
      ap (λ (m : Bound MailPass). m.seat.me.presence) calm.told
      ∙ ap (λ (ts : List Taken). (takes_all a ts).seat.me.presence) calm.fact.split
      ∙ marks_presence (takes a (event.Look a.seat.me.number)
      (finds.Control calm.fact.control)) calm.fact.marks are

pub paces_update : (next : Learned → Found → MailPass → MailPass) (a b : Bound MailPass)
    (place f : ℕ) (old new : Value) (found : Field)
    → Updated HoldsMail is_fixed next a place f old new found b → Paces 5 5 a b
paces_update next a b place f old new found wrote =
    let own = a.seat.me.presence.status in
    let calm = wrote.calm in
    let at = wrote.at in
    let last = took (write_of at place f old new) (finds.Field found) ∷ [] in
    let same = ap (λ p. p.status) (same_presence a at old new calm) in
    let behind = ap (λ (v : View MailPass). v.presence.status) wrote.event.new in
    record {
      added = calm.added ++ last;
      trail = ap (λ (v : View MailPass). v.trail) wrote.event.new
          ∙ ap (λ (ts : List Taken). ts ++ last)
          (calm_trail (LookAndMarks a.seat.me.number own old new) a at calm)
          ∙ append_assoc a.seat.me.trail calm.added last;
      fact = leads_then own own b.seat.me.presence.status 5 5 5 calm.added last
          (barrier_leads a at old new calm)
          (λ rest is. (
            omega arith,
            subst (λ (s : Status). AnswersInTime s 5 rest) (behind ∙ same) is,
          ));
    }

-- made or not
pub paces_either : {T : Type 0} (next : Learned → Found → MailPass → MailPass)
    (a b : Bound MailPass) (place f : ℕ) (old new : Value) (was : Field) (r : Result T Moved)
    → OnOk r (Updated HoldsMail is_fixed next a place f old new was b)
    → IfErr r (λ moved. (same_field moved.found was ≡ false)
    × Updated HoldsMail is_fixed next a place f old new moved.found b) → Paces 5 5 a b
paces_either next a b place f old new was (Ok u) made moved =
    paces_update next a b place f old new was made
paces_either next a b place f old new was (Err e) made moved =
    paces_update next a b place f old new e.found moved.1

-- A try of a take.

pub paces_try : (a b c d e : Bound MailPass) → ReadsTimes 1 a b → ReadsTimes 1 b c
    → ReadsTimes 3 c d → Paces 5 5 d e → Paces 0 5 a e
paces_try a b c d e first second third last =
    paces_then a b e 0 1 5 (first 0 (omega arith))
    (paces_then b c e 1 2 5 (second 1 (omega arith))
    (paces_then c d e 2 5 5 (third 2 (omega arith)) last))

pub paces_two : (a b c : Bound MailPass) → ReadsTimes 1 a b → ReadsTimes 1 b c → Paces 0 5 a c
paces_two a b c first second =
    paces_within a c 0 2 0 5 (omega arith) (omega arith)
    (paces_then a b c 0 1 2 (first 0 (omega arith)) (second 1 (omega arith)))

-- an answer, a try and a cut
pub paces_turn : (a b c d e : Bound MailPass) → Paces 0 5 a b → Paces 5 0 b c → Paces 0 5 c d
    → Paces 5 5 d e → Paces 0 5 a e
paces_turn a b c d e so_far answer try cut =
    paces_then a b e 0 5 5 so_far
    (paces_then b c e 5 0 5 answer (paces_then c d e 0 5 5 try cut))

-- only an answer
pub paces_on : (a b c : Bound MailPass) → Paces 0 5 a b → Paces 5 0 b c → Paces 0 5 a c
paces_on a b c so_far answer =
    paces_within a c 0 0 0 5 (omega arith) (omega arith) (paces_then a b c 0 5 0 so_far answer)

-- The walk: its first read, a step, and its end.

pub paces_first : (a b : Bound MailPass) → ReadsTimes 1 a b → Paces 0 5 a b
paces_first a b first =
    paces_within a b 0 1 0 5 (omega arith) (omega arith) (first 0 (omega arith))

pub paces_step : (a b c d e : Bound MailPass) → Paces 0 5 a b → Paces 5 0 b c → ReadsTimes 1 c d
    → Paces 1 1 d e → Paces 0 5 a e
paces_step a b c d e so_far answer read keep =
    paces_within a e 0 1 0 5 (omega arith) (omega arith)
    (paces_then a b e 0 5 1 so_far
    (paces_then b c e 5 0 1 answer (paces_then c d e 0 1 1 (read 0 (omega arith)) keep)))

pub paces_end : (a b c d e : Bound MailPass) → Paces 0 5 a b → Paces 5 0 b c → ReadsTimes 1 c d
    → ReadsTimes 1 d e → Prompt a e
paces_end a b c d e so_far answer read last =
    paces_prompt a e
    (paces_then a b e 0 5 5 so_far (paces_then b c e 5 0 5 answer (paces_two c d e read last)))
