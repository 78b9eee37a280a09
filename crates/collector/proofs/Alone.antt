-- Where the first handshake of a cycle found every mutator over, the collector knows the state from
-- then on, and the rest of the cycle is a run of it.
use Rattle.std.proofs.Common.{◌≡◌, ◌<◌, ◌&&◌, ◌==◌, ◌⊎◌, inl, inr, ℕ}
use Rattle.std.proofs.Common.{suc, Bool, true}
use Rattle.std.proofs.Common.{false, List, [], ◌∷◌, length, Option, Some, None, is_some, refl, sym}
use Rattle.std.proofs.Common.{◌∙◌, ap, arith, slice_set, slice_index_or}
use Rattle.std.proofs.lemmas.Bool.{and_parts, cases_eq, eqb-true, false≢true, or_cases}
use Rattle.std.proofs.lemmas.List.{get_or-set_other, get_or-set_same}
use Rattle.std.specs.List.{list_all}
use Rattle.cell_heap.specs.Telling.{FindsKnown, says_over}
use Rattle.cell_words.specs.declared.controls.Control.{Control}
use Rattle.cell_words.specs.declared.controls.Stage.TheVariants as stage
use Rattle.core_machine.specs.Next.{after, maker}
use Rattle.core_machine.specs.Run.{Runs, last}
use Rattle.core_machine.specs.State.{State}
use Rattle.core_machine.specs.declared.events.Event.{Event}
use Rattle.core_machine.specs.declared.events.Event.TheVariants as event
use Rattle.core_machine.specs.declared.events.Found.{Found}
use Rattle.core_machine.specs.declared.events.Found.TheVariants as finds
use Rattle.core_machine.specs.declared.events.Taken.{Taken}
use Rattle.dlg_core.specs.Collects.{AreOver}
use Rattle.dlg_core.proofs.Collects.Quiet.{nobody_makes, over_after, over_idle}
use Rattle.heap_rule.specs.Rule.{alone_after, over_by, over_found, over_met}
use Rattle.heap_rule.proofs.Alone.{over_found_long}
use Rattle.heap_table.specs.Seats.{SeatView}
use Rattle.collector.specs.Bound.{Bound, control_of, tells_at}
use Rattle.collector.specs.Counting.{Counts}
use Rattle.collector.specs.Over.{AllOver, finds_over, was_over}
use Rattle.collector.specs.Replay.{Work, count_along, ends_pass, spills, stack_after, strays}
use Rattle.collector.specs.Replay.{work_after_all, work_of}
use Rattle.collector.specs.Stack.{Stack}
use Rattle.collector.specs.Stretches.{Took}
use Rattle.collector.specs.declared.report.CycleReport.{CycleReport}
use Rattle.collector.proofs.TwoPasses.{two_passes, work_at, work_goes}

-- Flags: who was found over.

abbrev flag : List Bool → ℕ → Bool
flag over m = slice_index_or over m false

all_flags : (xs : List Bool) → ((m : ℕ) → m < length xs → flag xs m ≡ true)
    → list_all (λ found. found) xs ≡ true
all_flags [] each = refl
all_flags (x ∷ xs) each =
    ap (λ (b : Bool). b && list_all (λ found. found) xs) (each 0 (omega arith))
    ∙ all_flags xs (λ m lt. each (suc m) (omega (arith, lt)))

set_flag : (over : List Bool) (i m : ℕ) → m < length over → (flag over m ≡ true) ⊎ (i ≡ m)
    → flag (slice_set over i true) m ≡ true
set_flag over i m lt (inr here) =
    ap (λ (k : ℕ). flag (slice_set over k true) m) here ∙ get_or-set_same over m true false lt
set_flag over i m lt (inl old) = elim (cases_eq m i) [
  | inl here ↦
      ap (λ (k : ℕ). flag (slice_set over k true) m) (sym here)
      ∙ get_or-set_same over m true false lt
  | inr other ↦ get_or-set_other over i m true false other ∙ old
]

met_flag : (over : List Bool) (i m : ℕ) (b : Bool) → m < length over
    → (flag over m ≡ true) ⊎ ((i ≡ m) × (b ≡ true)) → flag (over_met over i b) m ≡ true
met_flag over i m true lt (inl old) = set_flag over i m lt (inl old)
met_flag over i m true lt (inr new) = set_flag over i m lt (inr new.0)
met_flag over i m false lt (inl old) = old
met_flag over i m false lt (inr new) = absurd (false≢true new.1)

abbrev Flagged : List Bool → ℕ → Event → Found → Type 0
Flagged over m e found = flag (over_found over e found) m ≡ true

by_flag : (over : List Bool) (i m : ℕ) (found : Found) → m < length over
    → (flag over m ≡ true) ⊎ (((i == m) && says_over found) ≡ true)
    → flag (over_by over i found) m ≡ true
by_flag over i m (finds.Presence found) lt (inl old) = met_flag over i m found.over lt (inl old)
by_flag over i m (finds.Presence found) lt (inr new) =
    let parts = and_parts (i == m) found.over new in
    met_flag over i m found.over lt (inr (eqb-true i m parts.0, parts.1))
by_flag over i m _ lt (inl old) = old
by_flag over i m _ lt (inr new) = absurd (false≢true (and_parts (i == m) false new).1)

found_flag : (over : List Bool) (m : ℕ) (e : Event) (found : Found) → m < length over
    → (flag over m ≡ true) ⊎ (finds_over m e found ≡ true) → Flagged over m e found
found_flag over m (event.Poll i) found lt so = by_flag over i m found lt so
found_flag over m (event.AnswerOut i b) found lt so = by_flag over i m found lt so
found_flag over m _ found lt (inl old) = old
found_flag over m _ found lt (inr new) = absurd (false≢true new)

alone_goes : (alone : Option State) (over : List Bool) (e : Event) (now s : State)
    → alone ≡ Some s → alone_after alone over e now ≡ Some (after s e)
alone_goes alone over (event.Poll i) now s is =
    ap (λ (a : Option State). alone_after a over (event.Poll i) now) is
alone_goes alone over (event.AnswerOut i b) now s is =
    ap (λ (a : Option State). alone_after a over (event.AnswerOut i b) now) is
alone_goes alone over e now s is = ap (λ (a : Option State). alone_after a over e now) is

some_is : (alone : Option State) → is_some alone ≡ true → (s : State) × (alone ≡ Some s)
some_is None h = absurd (false≢true h)
some_is (Some s) h = (s, refl)

control_goes : (s : State) (ts : List Taken) (st : Stack) → AreOver s → Runs s ts
    → (work_after_all (work_at s st) ts).control ≡ (last s ts).control
control_goes s [] st over runs = refl
control_goes s (t ∷ ts) st over runs =
    let made : maker t.event ≡ None =
    nobody_makes (maker t.event) (λ i. over_idle s t.event i (over i) runs.0) in
    ap (λ (w : Work). (work_after_all w ts).control) (work_goes s st t made runs.1)
    ∙ control_goes (after s t.event) ts (stack_after st s.collector t.event)
    (λ i. over_after s t.event i (λ by. let no = sym made ∙ by in absurd cc) (over i)) runs.2

module _ {P : Type 0} where
  over_long : (v w : SeatView P) (ts : List Taken) → Took v ts w
      → length w.me.over ≡ length v.me.over
  over_long v w [] took = ap (λ (x : SeatView P). length x.me.over) took
  over_long v w (t ∷ ts) took =
      over_long (tells_at v t.event t.found took.0) w ts took.2
      ∙ over_found_long v.me.over t.event t.found

  flags_on : (v w : SeatView P) (ts : List Taken) (m : ℕ) → Took v ts w → m < length v.me.over
      → (flag v.me.over m ≡ true) ⊎ (was_over m ts ≡ true) → flag w.me.over m ≡ true
  flags_on v w [] m took lt (inl old) =
      ap (λ (x : SeatView P). flag x.me.over m) took ∙ old
  flags_on v w [] m took lt (inr new) = absurd (false≢true new)
  flags_on v w (t ∷ ts) m took lt so =
      flags_on (tells_at v t.event t.found took.0) w ts m took.2
      (let long = over_found_long v.me.over t.event t.found in omega (arith, lt, long))
      (elim so [
        | inl old ↦ inl (found_flag v.me.over m t.event t.found lt (inl old))
        | inr new ↦ elim (or_cases (finds_over m t.event t.found) (was_over m ts) new) [
          | inl here ↦ inl (found_flag v.me.over m t.event t.found lt (inr here))
          | inr later ↦ inr later
        ]
      ])

  took_runs : (v w : SeatView P) (ts : List Taken) (s : State) → Took v ts w
      → v.me.alone ≡ Some s → Runs s ts
  took_runs v w [] s took alone = tt
  took_runs v w (t ∷ ts) s took alone =
      let known = took.1.known s alone in (
        known.happens,
        sym known.found_is,
        took_runs (tells_at v t.event t.found took.0) w ts (after s t.event) took.2
            (alone_goes v.me.alone (over_found v.me.over t.event t.found) t.event took.0 s alone),
      )

  pub two_heard : (n : ℕ) (r : CycleReport) (a b d : Bound P) (asked rest : List Taken)
      → Took a.seat asked b.seat → Took b.seat rest d.seat
      → length b.seat.me.over ≡ n
      → (0 < n → list_all (λ found. found) b.seat.me.over ≡ true
      → is_some b.seat.me.alone ≡ true)
      → FindsKnown b.seat.me (event.Post stage.Clear) finds.Stored
      → Counts (work_of b) (work_of d) r rest → (control_of b).stage ≡ stage.Sync1
      → (control_of d).stage ≡ stage.Sweep
      → 0 < n → AllOver 0 n asked → r.spilled ≡ 0 → r.passes ≡ 2
  two_heard n r a b d asked rest first second long knows known counts sync1 sweep some over none =
      let all : list_all (λ found. found) b.seat.me.over ≡ true =
      all_flags b.seat.me.over (λ m lt. flags_on a.seat b.seat asked m first
      (let same = over_long a.seat b.seat asked first in omega (arith, lt, same))
      (inr (over m (omega arith) (omega (arith, lt, long))))) in
      let state = some_is b.seat.me.alone (knows some all) in
      let s = state.0 in
      let so = known.known s state.1 in
      let runs = took_runs b.seat d.seat rest s second state.1 in
      let here : work_of b ≡ work_at s b.stack =
      (λ j. record {
        cells = sym so.cells j;
        control = sym so.control j;
        part = sym so.part j;
        stack = b.stack;
      }) in
      sym counts.comes.passes_are
      ∙ ap (λ (w : Work). count_along ends_pass w rest) here
      ∙ two_passes s rest b.stack so.shaped so.consistent so.over runs counts.on
      (sym (ap (λ (w : Work). count_along strays w rest) here) ∙ counts.comes.straight)
      (sym (ap (λ (w : Work). count_along spills w rest) here) ∙ counts.comes.spilled_are ∙ none)
      (ap (λ (x : Control). x.stage) so.control ∙ sync1)
      (ap (λ (x : Control). x.stage) (sym (control_goes s rest b.stack so.over runs)
      ∙ sym (ap (λ (w : Work). (work_after_all w rest).control) here)
      ∙ ap (λ (w : Work). w.control) counts.comes.leads) ∙ sweep)
