-- Counts of events: of one event, and of some that follow others.
use Rattle.std.proofs.Common.{◌≡◌, ◌≤◌, ◌+◌, ◌&&◌, ℕ, Bool, true, false, not, cond}
use Rattle.std.proofs.Common.{List, [], ◌∷◌, ◌++◌, refl, sym, ◌∙◌, ap, subst, arith}
use Rattle.std.proofs.Common.{add_assoc, zero-add}
use Rattle.std.proofs.lemmas.Bool.{false≢true}
use Rattle.std.proofs.lemmas.List.Folds.{list_all-append}
use Rattle.std.proofs.lemmas.List.Sums.{sum_by-append}
use Rattle.std.specs.List.{count_by, list_all}
use Rattle.cell_words.specs.declared.controls.Control.{Control}
use Rattle.cell_words.specs.declared.controls.Stage.{Stage}
use Rattle.cell_words.specs.declared.controls.Stage.TheVariants as stage
use Rattle.core_machine.specs.Collector.{Collector, control_after, posted_control}
use Rattle.core_machine.specs.declared.events.Event.{Event}
use Rattle.core_machine.specs.declared.events.Event.TheVariants as event
use Rattle.core_machine.specs.declared.events.Found.{Found}
use Rattle.core_machine.specs.declared.events.Found.TheVariants as finds
use Rattle.core_machine.specs.declared.events.Taken.{Taken}
use Rattle.heap_rule.specs.Rule.{took}
use Rattle.collector.specs.Answering.{AnswersNext, AnswersWhoIsOut, BeginWith, stage_after}
use Rattle.collector.specs.Counting.{Comes, Counts, TracesAtMost, goes_on, is_blacken, is_free}
use Rattle.collector.specs.Counting.{nothing, passes_one, plus, shades_one}
use Rattle.collector.specs.Replay.{Work, count_along, ends_pass, is_shade, spills, stack_after}
use Rattle.collector.specs.Replay.{stacks, strays, work_after, work_after_all}
use Rattle.collector.specs.Stack.{Stack, has_room}
use Rattle.collector.specs.declared.report.CycleReport.{CycleReport}

-- Reports.

pub none_plus : (r : CycleReport) → plus nothing r ≡ r
none_plus r =
    ap (λ (n : ℕ). record (plus nothing r) { passes = n }) (none r.passes)
    ∙ ap (λ (n : ℕ). record (plus nothing r) { passes = r.passes; scanned = n }) (none r.scanned)
    ∙ ap (λ (n : ℕ). record r { freed = n; stacked = 0 + r.stacked; spilled = 0 + r.spilled })
    (none r.freed)
    ∙ ap (λ (n : ℕ). record r { stacked = n; spilled = 0 + r.spilled }) (none r.stacked)
    ∙ ap (λ (n : ℕ). record r { spilled = n }) (none r.spilled)
  where
    none : (n : ℕ) → 0 + n ≡ n
    none n = omega arith

pub plus_none : (r : CycleReport) → plus r nothing ≡ r
plus_none r =
    ap (λ (n : ℕ). record (plus r nothing) { passes = n }) (none r.passes)
    ∙ ap (λ (n : ℕ). record (plus r nothing) { passes = r.passes; scanned = n }) (none r.scanned)
    ∙ ap (λ (n : ℕ). record r { freed = n; stacked = r.stacked + 0; spilled = r.spilled + 0 })
    (none r.freed)
    ∙ ap (λ (n : ℕ). record r { stacked = n; spilled = r.spilled + 0 }) (none r.stacked)
    ∙ ap (λ (n : ℕ). record r { spilled = n }) (none r.spilled)
  where
    none : (n : ℕ) → n + 0 ≡ n
    none n = omega arith

pub none_few : (n : ℕ) → TracesAtMost n nothing
none_few n = record {
  passes = omega arith;
  scanned = omega arith;
  stacked = omega arith;
  spilled = omega arith;
  freed = refl;
}

pub at_most_more : (m n k : ℕ) (r q : CycleReport) → TracesAtMost m r → TracesAtMost n q
    → m + n ≤ k → TracesAtMost k (plus r q)
at_most_more m n k r q first second le = record {
  passes = omega (arith, first.passes, second.passes, le);
  scanned = omega (arith, first.scanned, second.scanned, le);
  stacked = omega (arith, first.stacked, second.stacked, le);
  spilled = omega (arith, first.spilled, second.spilled, le);
  freed = omega (arith, first.freed, second.freed);
}

-- one of a kind, or none

pub passes_few : (ends : Bool) → TracesAtMost 6 (passes_one ends)
passes_few true = record {
  passes = omega arith;
  scanned = omega arith;
  stacked = omega arith;
  spilled = omega arith;
  freed = refl;
}
passes_few false = none_few 6

pub shades_few : (pushed : Bool) → TracesAtMost 1 (shades_one pushed)
shades_few true = record {
  passes = omega arith;
  scanned = omega arith;
  stacked = omega arith;
  spilled = omega arith;
  freed = refl;
}
shades_few false = record {
  passes = omega arith;
  scanned = omega arith;
  stacked = omega arith;
  spilled = omega arith;
  freed = refl;
}

pub at_most_of : (m n : ℕ) (r : CycleReport) → m ≤ n → TracesAtMost m r → TracesAtMost n r
at_most_of m n r le few = record {
  passes = omega (arith, few.passes, le);
  scanned = omega (arith, few.scanned, le);
  stacked = omega (arith, few.stacked, le);
  spilled = omega (arith, few.spilled, le);
  freed = few.freed;
}

-- Events that follow others.

pub count_append : (test : Taken → Bool) (xs ys : List Taken)
    → count_by test (xs ++ ys) ≡ count_by test xs + count_by test ys
count_append test xs ys = sum_by-append (λ t. cond (test t) 1 0) xs ys

pub counted : (test : Taken → Bool) (xs ys : List Taken) (m n : ℕ) → count_by test xs ≡ m
    → count_by test ys ≡ n → count_by test (xs ++ ys) ≡ m + n
counted test xs ys m n first second =
    count_append test xs ys ∙ ap (λ k. k + count_by test ys) first ∙ ap (λ k. m + k) second

pub work_append : (w : Work) (xs ys : List Taken)
    → work_after_all w (xs ++ ys) ≡ work_after_all (work_after_all w xs) ys
work_append w [] ys = refl
work_append w (x ∷ xs) ys = work_append (work_after w x) xs ys

along_append : (test : Work → Taken → Bool) (w : Work) (xs ys : List Taken)
    → count_along test w (xs ++ ys)
    ≡ count_along test w xs + count_along test (work_after_all w xs) ys
along_append test w [] ys = sym (zero-add (count_along test w ys))
along_append test w (x ∷ xs) ys =
    ap (λ (k : ℕ). cond (test w x) 1 0 + k) (along_append test (work_after w x) xs ys)
    ∙ sym (add_assoc (cond (test w x) 1 0) (count_along test (work_after w x) xs)
    (count_along test (work_after_all (work_after w x) xs) ys))

pub counted_along : (test : Work → Taken → Bool) (a b : Work) (xs ys : List Taken) (m n : ℕ)
    → work_after_all a xs ≡ b → count_along test a xs ≡ m → count_along test b ys ≡ n
    → count_along test a (xs ++ ys) ≡ m + n
counted_along test a b xs ys m n leads first second =
    along_append test a xs ys
    ∙ ap (λ (w : Work). count_along test a xs + count_along test w ys) leads
    ∙ ap (λ (k : ℕ). k + count_along test b ys) first
    ∙ ap (λ (k : ℕ). m + k) second

pub comes_join : (a b c : Work) (r q : CycleReport) (xs ys : List Taken) → Comes a b r xs
    → Comes b c q ys → Comes a c (plus r q) (xs ++ ys)
comes_join a b c r q xs ys first second = record {
  leads = work_append a xs ys
      ∙ ap (λ (w : Work). work_after_all w ys) first.leads
      ∙ second.leads;
  passes_are = counted_along ends_pass a b xs ys r.passes q.passes first.leads first.passes_are
      second.passes_are;
  scanned_are = counted (λ (t : Taken). is_blacken t.event) xs ys r.scanned q.scanned
      first.scanned_are second.scanned_are;
  freed_are = counted (λ (t : Taken). is_free t.event) xs ys r.freed q.freed
      first.freed_are second.freed_are;
  stacked_are = counted_along stacks a b xs ys r.stacked q.stacked first.leads first.stacked_are
      second.stacked_are;
  spilled_are = counted_along spills a b xs ys r.spilled q.spilled first.leads first.spilled_are
      second.spilled_are;
  straight = counted_along strays a b xs ys 0 0 first.leads first.straight second.straight;
}

begins_on : (e : Event) (xs ys : List Taken) → BeginWith e xs → BeginWith e (xs ++ ys)
begins_on e [] ys begins = absurd begins
begins_on e (x ∷ xs) ys begins = begins

next_on : (at : Stage) (e : Event) (found : Found) (xs ys : List Taken)
    → AnswersNext at e found xs → AnswersNext at e found (xs ++ ys)
next_on at (event.Poll i) (finds.Presence found) xs ys next =
    λ calls. begins_on (event.AnswerOut i found.over) xs ys (next calls)
next_on at _ found xs ys next = next

stage_is : (control : Control) (e : Event) → (control_after control e).stage
    ≡ stage_after control.stage e
stage_is control (event.Post target) = posted_stage control target
  where
    posted_stage : (c : Control) (s : Stage) → (posted_control c s).stage ≡ s
    posted_stage c stage.Idle = refl
    posted_stage c stage.Sync1 = refl
    posted_stage c stage.Clear = refl
    posted_stage c stage.Sync2 = refl
    posted_stage c stage.Trace = refl
    posted_stage c stage.Sweep = refl
stage_is control _ = refl

pub answers_on : (w : Work) (xs ys : List Taken) → AnswersWhoIsOut w.control.stage xs
    → AnswersWhoIsOut (work_after_all w xs).control.stage ys
    → AnswersWhoIsOut w.control.stage (xs ++ ys)
answers_on w [] ys first second = second
answers_on w (x ∷ xs) ys first second =
    let same = stage_is w.control x.event in (
      next_on w.control.stage x.event x.found xs ys first.0,
      subst (λ (s : Stage). AnswersWhoIsOut s (xs ++ ys)) same
          (answers_on (work_after w x) xs ys
          (subst (λ (s : Stage). AnswersWhoIsOut s xs) (sym same) first.1) second),
    )

pub counts_join : (a b c : Work) (r q : CycleReport) (xs ys : List Taken) → Counts a b r xs
    → Counts b c q ys → Counts a c (plus r q) (xs ++ ys)
counts_join a b c r q xs ys first second = record {
  on = list_all-append (λ (t : Taken). goes_on t.event) xs ys
      ∙ ap (λ (x : Bool). x && list_all (λ (t : Taken). goes_on t.event) ys) first.on
      ∙ second.on;
  answers = answers_on a xs ys first.answers
      (subst (λ (w : Work). AnswersWhoIsOut w.control.stage ys) (sym first.comes.leads)
      second.answers);
  comes = comes_join a b c r q xs ys first.comes second.comes;
}

pub counts_none : (w : Work) → Counts w w nothing []
counts_none w = record {
  on = refl;
  answers = tt;
  comes = record {
    leads = refl;
    passes_are = refl;
    scanned_are = refl;
    freed_are = refl;
    stacked_are = refl;
    spilled_are = refl;
    straight = refl;
  };
}

-- One event.

-- it counts for nothing, leaves the stack, and calls for no answer
abbrev pub is_still : Event → Bool
is_still (event.Poll i) = false
is_still (event.See c) = false
is_still event.Shade = false
is_still event.Blacken = false
is_still event.Free = false
is_still _ = true

pub still_stack : (s : Stack) (part : Collector) (e : Event) → is_still e ≡ true
    → stack_after s part e ≡ s
still_stack s part (event.See c) still = absurd (false≢true still)
still_stack s part event.Shade still = absurd (false≢true still)
still_stack s part _ still = refl

pub still_comes : (w : Work) (e : Event) (found : Found) → is_still e ≡ true
    → Comes w (work_after w (took e found)) nothing (took e found ∷ [])
still_comes w (event.Poll i) found still = absurd (false≢true still)
still_comes w (event.See c) found still = absurd (false≢true still)
still_comes w event.Shade found still = absurd (false≢true still)
still_comes w event.Blacken found still = absurd (false≢true still)
still_comes w event.Free found still = absurd (false≢true still)
still_comes w _ found still = record {
  leads = refl;
  passes_are = refl;
  scanned_are = refl;
  freed_are = refl;
  stacked_are = refl;
  spilled_are = refl;
  straight = refl;
}

-- a look at a presence, which may call for an answer
pub poll_comes : (w : Work) (i : ℕ) (found : Found)
    → Comes w (work_after w (took (event.Poll i) found)) nothing (took (event.Poll i) found ∷ [])
poll_comes w i found = record {
  leads = refl;
  passes_are = refl;
  scanned_are = refl;
  freed_are = refl;
  stacked_are = refl;
  spilled_are = refl;
  straight = refl;
}

still_answers : (at : Stage) (e : Event) (found : Found) → is_still e ≡ true
    → AnswersNext at e found []
still_answers at (event.Poll i) found still = absurd (false≢true still)
still_answers at _ found still = tt

pub still_counts : (w : Work) (e : Event) (found : Found) → goes_on e ≡ true → is_still e ≡ true
    → Counts w (work_after w (took e found)) nothing (took e found ∷ [])
still_counts w e found on still = record {
  on = ap (λ (x : Bool). x && true) on;
  answers = (still_answers w.control.stage e found still, tt);
  comes = still_comes w e found still;
}

room_step : (b : Bool) (c : ℕ) (s : Stack) → (cond b (record s { cells = c ∷ s.cells }) s).room
    ≡ s.room
room_step true c s = refl
room_step false c s = refl

pub room_after : (s : Stack) (part : Collector) (e : Event)
    → (stack_after s part e).room ≡ s.room
room_after s part event.Shade =
    room_step (has_room s) _ s
room_after s part _ = refl

-- Each shaded child was pushed or found the stack full.
one_shade : (b x : Bool) → cond b 1 0 ≡ cond {A = ℕ} (b && x) 1 0 + cond (b && not x) 1 0
one_shade true true = refl
one_shade true false = refl
one_shade false x = refl

pub all_shaded : (w : Work) (events : List Taken)
    → count_by (λ (t : Taken). is_shade t.event) events
    ≡ count_along stacks w events + count_along spills w events
all_shaded w [] = refl
all_shaded w (t ∷ ts) =
    count_append (λ (u : Taken). is_shade u.event) (t ∷ []) ts
    ∙ regroup (cond (is_shade t.event) 1 0) (count_by (λ (u : Taken). is_shade u.event) ts)
    (cond (stacks w t) 1 0) (cond (spills w t) 1 0)
    (count_along stacks (work_after w t) ts) (count_along spills (work_after w t) ts)
    (one_shade (is_shade t.event) (has_room w.stack))
    (all_shaded (work_after w t) ts)
  where
    regroup : (a b x y m n : ℕ) → a ≡ x + y → b ≡ m + n → 0 + a + b ≡ (x + m) + (y + n)
    regroup a b x y m n first second = omega arith
