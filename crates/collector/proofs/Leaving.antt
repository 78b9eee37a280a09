-- Where two whole cycles began after every mutator was found over, no garbage is left.
--
-- Who was found over is so from that event on, and makes none any more. So from where the last one
-- was found over, the run is the collector's trail, and the two cycles stand in it with nothing
-- between.
use Rattle.std.proofs.Common.{◌≡◌, ◌≢◌, ◌<◌, ◌++◌, ◌||◌, ◌&&◌, ◌==◌, ℕ, Bool, true, false}
use Rattle.std.proofs.Common.{if◌then◌else◌}
use Rattle.std.proofs.Common.{List, [], ◌∷◌, length, Option, None, inl, inr, refl, sym, ◌∙◌}
use Rattle.std.proofs.Common.{ap, subst, arith}
use Rattle.std.proofs.lemmas.Bool.{and_parts, cases_lt, eqb-true, false≢true}
use Rattle.std.proofs.lemmas.List.{append_assoc, append-nil, get_or_past}
use Rattle.std.proofs.lemmas.List.Elements.{All-cons, All-nil}
use Rattle.std.specs.List.{All, list_all}
use Rattle.cell_words.specs.declared.controls.Stage.TheVariants as stage
use Rattle.cell_words.specs.declared.presences.Presence.{Presence}
use Rattle.core_machine.specs.declared.events.Event.{Event}
use Rattle.core_machine.specs.declared.events.Event.TheVariants as event
use Rattle.core_machine.specs.declared.events.Found.{Found}
use Rattle.core_machine.specs.declared.events.Found.TheVariants as finds
use Rattle.core_machine.specs.declared.events.Taken.{Taken}
use Rattle.core_machine.specs.InRange.{HasWords, IsShaped}
use Rattle.core_machine.specs.Next.{after, found_by, maker}
use Rattle.core_machine.specs.Run.{Runs, last}
use Rattle.core_machine.specs.State.{State, no_presence, presence_of}
use Rattle.core_machine.specs.Trail.{same_maker, trail_of}
use Rattle.core_machine.proofs.Frames.{as_large}
use Rattle.core_machine.proofs.HasWords.{words_after}
use Rattle.core_machine.proofs.Runs.{last_append, runs_shaped}
use Rattle.dlg_core.specs.Collects.{AreOver, AreTwoCycles, IsCycle, IsOver, IsTidy}
use Rattle.dlg_core.specs.Consistent.{IsConsistent}
use Rattle.dlg_core.specs.Runs.{events_of}
use Rattle.dlg_core.proofs.Along.{every_run_has_words, runs_consistent, runs_lead}
use Rattle.dlg_core.proofs.Collects.Quiet.{nobody_makes, over_after, over_along, over_idle}
use Rattle.dlg_core.proofs.Collects.Quiet.{over_leaves_no_garbage}
use Rattle.dlg_core.proofs.Starts.{opening_consistent}
use Rattle.dlg_core.proofs.Throughout.{rows_shaped}
use Rattle.heap_rule.specs.Boxes.{Map}
use Rattle.heap_rule.specs.Laws.{Ended}
use Rattle.heap_rule.specs.Shape.{IsSound, Shape, start}
use Rattle.heap_rule.specs.declared.view.View.{View}
use Rattle.heap_rule.proofs.Alone.{presence_over}
use Rattle.cell_heap.specs.Telling.{says_over}
use Rattle.collector.specs.Counting.{goes_on}
use Rattle.collector.specs.Cycles.{AfterOver, AreWhole, IsWhole, MadeCycles, Wholes}
use Rattle.collector.specs.Cycles.{joined}
use Rattle.collector.specs.Over.{finds_over, was_over}
use Rattle.collector.proofs.Hearing.{over_late}

-- A run, parted where the collector's trail is.
record Parted (run xs ys : List Taken) : Type 0 where
  before : List Taken
  behind : List Taken
  split : run ≡ before ++ behind
  first : trail_of None before ≡ xs
  rest : trail_of None behind ≡ ys

abbrev on_trail : Taken → Bool → List Taken → List Taken
on_trail t mine ts = if mine then t ∷ ts else ts

parted_on : (t : Taken) (ts : List Taken) (x : Taken) (xs ys : List Taken) (mine : Bool)
    → same_maker None (maker t.event) ≡ mine
    → trail_of None (t ∷ ts) ≡ x ∷ (xs ++ ys)
    → ((us : List Taken) → trail_of None ts ≡ us ++ ys → Parted ts us ys)
    → Parted (t ∷ ts) (x ∷ xs) ys
parted_on t ts x xs ys true mine is rest =
    let here : t ∷ trail_of None ts ≡ x ∷ (xs ++ ys) =
    sym (ap (λ (b : Bool). on_trail t b (trail_of None ts)) mine) ∙ is in
    let head : t ≡ x = cc in
    let tail : trail_of None ts ≡ xs ++ ys = cc in
    let r = rest xs tail in
    record {
      before = t ∷ r.before;
      behind = r.behind;
      split = ap (λ (us : List Taken). t ∷ us) r.split;
      first = ap (λ (b : Bool). on_trail t b (trail_of None r.before)) mine
          ∙ (λ j. head j ∷ r.first j);
      rest = r.rest;
    }
parted_on t ts x xs ys false mine is rest =
    let r = rest (x ∷ xs)
    (sym (ap (λ (b : Bool). on_trail t b (trail_of None ts)) mine) ∙ is) in
    record {
      before = t ∷ r.before;
      behind = r.behind;
      split = ap (λ (us : List Taken). t ∷ us) r.split;
      first = ap (λ (b : Bool). on_trail t b (trail_of None r.before)) mine ∙ r.first;
      rest = r.rest;
    }

parted : (run xs ys : List Taken) → trail_of None run ≡ xs ++ ys → Parted run xs ys
parted run [] ys is = record { before = []; behind = run; split = refl; first = refl; rest = is }
parted [] (x ∷ xs) ys is = absurd cc
parted (t ∷ ts) (x ∷ xs) ys is =
    parted_on t ts x xs ys (same_maker None (maker t.event)) refl is
    (λ us here. parted ts us ys here)

-- Who was found over is over.

met_so : (s : State) (i : ℕ) (found : Found) (m : ℕ) → HasWords s
    → found ≡ finds.Presence (presence_of s i) → ((i == m) && says_over found) ≡ true → IsOver s m
met_so s i found m words is h =
    let parts = and_parts (i == m) (says_over found) h in
    subst (IsOver s) (eqb-true i m parts.0)
    (presence_over s words i (sym (ap says_over is) ∙ parts.1))

finds_so : (s : State) (e : Event) (found : Found) (m : ℕ) → HasWords s → found ≡ found_by s e
    → finds_over m e found ≡ true → IsOver s m
finds_so s (event.Poll i) found m words is here = met_so s i found m words is here
finds_so s (event.AnswerOut i over) found m words is here = met_so s i found m words is here
finds_so s _ found m words is here = absurd (false≢true here)

over_from : (s : State) (run : List Taken) (m : ℕ) → Runs s run → IsOver s m
    → IsOver (last s run) m
over_from s run m runs over = (over_along s (events_of run) m over (last s run)
    (runs_lead s run runs)).1

met_by : (s : State) (t : Taken) (ts : List Taken) (m : ℕ) (b : Bool) → HasWords s
    → Runs s (t ∷ ts) → finds_over m t.event t.found ≡ b
    → (b || was_over m (trail_of None ts)) ≡ true
    → (was_over m (trail_of None ts) ≡ true → IsOver (last s (t ∷ ts)) m)
    → IsOver (last s (t ∷ ts)) m
met_by s t ts m true words runs here is later =
    over_from s (t ∷ ts) m runs (finds_so s t.event t.found m words runs.1 here)
met_by s t ts m false words runs here is later = later is

met_on : (s : State) (t : Taken) (ts : List Taken) (m : ℕ) (mine : Bool) → HasWords s
    → Runs s (t ∷ ts) → same_maker None (maker t.event) ≡ mine
    → was_over m (trail_of None (t ∷ ts)) ≡ true
    → (was_over m (trail_of None ts) ≡ true → IsOver (last s (t ∷ ts)) m)
    → IsOver (last s (t ∷ ts)) m
met_on s t ts m true words runs mine is later =
    met_by s t ts m (finds_over m t.event t.found) words runs refl
    (sym (ap (λ (b : Bool). was_over m (on_trail t b (trail_of None ts))) mine) ∙ is) later
met_on s t ts m false words runs mine is later =
    later (sym (ap (λ (b : Bool). was_over m (on_trail t b (trail_of None ts))) mine) ∙ is)

over_met : (s : State) (run : List Taken) (m : ℕ) → HasWords s → Runs s run
    → was_over m (trail_of None run) ≡ true → IsOver (last s run) m
over_met s [] m words runs is = absurd (false≢true is)
over_met s (t ∷ ts) m words runs is =
    met_on s t ts m (same_maker None (maker t.event)) words runs refl is
    (λ later. over_met (after s t.event) ts m (words_after s t.event runs.0 words) runs.2 later)

all_over : (s : State) (n : ℕ) → s.mutators ≡ n → IsShaped s
    → ((m : ℕ) → m < n → IsOver s m) → AreOver s
all_over s n many shaped over i = elim (cases_lt i n) [
  | inl below ↦ over i below
  | inr past ↦
      let none : presence_of s i ≡ no_presence = get_or_past s.presences i no_presence
      (let fit = shaped.mutators_fit.presences_fit in omega (arith, past, fit, many)) in
      (ap (λ (p : Presence). p.inside) none, ap (λ (p : Presence). p.over) none)
]

-- From then on the run is the collector's.
alone_from : (s : State) (run : List Taken) → AreOver s → Runs s run → trail_of None run ≡ run
alone_from s [] over runs = refl
alone_from s (t ∷ ts) over runs =
    let made : maker t.event ≡ None =
    nobody_makes (maker t.event) (λ i. over_idle s t.event i (over i) runs.0) in
    ap (λ (who : Option ℕ). on_trail t (same_maker None who) (trail_of None ts)) made
    ∙ ap (λ (us : List Taken). t ∷ us)
    (alone_from (after s t.event) ts
    (λ i. over_after s t.event i (λ by. let no = sym made ∙ by in absurd cc) (over i)) runs.2)

-- Whole cycles, as the core speaks of them.

events_append : (xs ys : List Taken) → events_of (xs ++ ys) ≡ events_of xs ++ events_of ys
events_append [] ys = refl
events_append (x ∷ xs) ys = ap (λ (es : List Event). x.event ∷ es) (events_append xs ys)

none_ends : (xs : List Taken) → list_all (λ (t : Taken). goes_on t.event) xs ≡ true
    → All (λ e. e ≢ event.Post stage.Idle) (events_of xs)
none_ends [] on = All-nil (λ e. e ≢ event.Post stage.Idle)
none_ends (x ∷ xs) on =
    let parts = and_parts (goes_on x.event) (list_all (λ (t : Taken). goes_on t.event) xs) on in
    All-cons (λ e. e ≢ event.Post stage.Idle) x.event (events_of xs)
    (λ is. false≢true (sym (ap goes_on is) ∙ parts.0)) (none_ends xs parts.1)

is_cycle : (xs : List Taken) → IsWhole xs → IsCycle (events_of xs)
is_cycle xs whole = record {
  between = events_of whole.between;
  whole = ap events_of whole.whole
      ∙ ap (λ (es : List Event). event.Post stage.Sync1 ∷ es) (events_append whole.between _);
  one = none_ends whole.between whole.one;
}

record TwoCycles (events : List Event) : Type 0 where
  first : List Event
  next : List Event
  split : events ≡ first ++ next
  are : AreTwoCycles first [] next

two_cycles : (xs : List Taken) → Wholes 2 xs → TwoCycles (events_of xs)
two_cycles xs so = by_cycles so.cycles so.split so.whole so.many
  where
    by_cycles : (cycles : List (List Taken)) → xs ≡ joined cycles → AreWhole cycles
        → length cycles ≡ 2 → TwoCycles (events_of xs)
    by_cycles [] split whole many = absurd (omega (arith, many))
    by_cycles (a ∷ []) split whole many = absurd (omega (arith, many))
    by_cycles (a ∷ b ∷ []) split whole many = record {
      first = events_of a;
      next = events_of b;
      split = ap events_of (split ∙ ap (λ (zs : List Taken). a ++ zs) (append-nil b))
          ∙ events_append a b;
      are = record {
        one = is_cycle a whole.0;
        apart = All-nil (λ e. e ≢ event.Post stage.Sync1);
        other = is_cycle b whole.1.0;
      };
    }
    by_cycles (a ∷ b ∷ c ∷ more) split whole many = absurd (omega (arith, many))

runs_parted : (s : State) (ts us : List Taken) → Runs s (ts ++ us)
    → Runs s ts × Runs (last s ts) us
runs_parted s [] us runs = (tt, runs)
runs_parted s (t ∷ ts) us runs =
    let rest = runs_parted (after s t.event) ts us runs.2 in
    ((runs.0, runs.1, rest.0), rest.1)

as_many : (s : State) (ts : List Taken) → (last s ts).mutators ≡ s.mutators
as_many s [] = refl
as_many s (t ∷ ts) = as_many (after s t.event) ts ∙ (as_large s t.event).mutators

-- The law, on a run from a state with the invariant.
pub tidy_behind : (s : State) (run old made later : List Taken) (n count : ℕ) → IsShaped s
    → IsConsistent s → HasWords s → Runs s run → (last s run).mutators ≡ n
    → trail_of None run ≡ old ++ (made ++ later) → AfterOver 2 n count made
    → IsTidy (last s run)
tidy_behind s run old made later n count shaped consistent words runs many is so =
    let p = parted run (old ++ so.before) (so.after ++ later)
    (is ∙ ap (λ (xs : List Taken). old ++ xs)
    (ap (λ (xs : List Taken). xs ++ later) so.split
    ∙ append_assoc so.before so.after later)
    ∙ sym (append_assoc old so.before (so.after ++ later))) in
    let parts = runs_parted s p.before p.behind (subst (Runs s) p.split runs) in
    let t : State = last s p.before in
    let there : IsShaped t = runs_shaped s p.before shaped parts.0 in
    let over : AreOver t = all_over t n
    (as_many s p.before ∙ sym (as_many s run) ∙ many) there
    (λ m lt. over_met s p.before m words parts.0
    (ap (λ (xs : List Taken). was_over m xs) p.first
    ∙ over_late 0 n old so.before so.over m (omega arith) lt)) in
    let mine : p.behind ≡ so.after ++ later =
    sym (alone_from t p.behind over parts.1) ∙ p.rest in
    let two = two_cycles so.after so.later_whole in
    let split : events_of p.behind ≡ two.first ++ (two.next ++ events_of later) =
    ap events_of mine ∙ events_append so.after later
    ∙ ap (λ (es : List Event). es ++ events_of later) two.split
    ∙ append_assoc two.first two.next (events_of later) in
    subst IsTidy (sym (ap (last s) p.split ∙ last_append s p.before p.behind))
    (over_leaves_no_garbage t (events_of p.behind) there
    (runs_consistent s p.before shaped consistent parts.0) over two.first [] two.next
    (events_of later) (last t p.behind) split two.are (runs_lead t p.behind parts.1))

module _ {P : Type 0} {opens : ℕ → ℕ → P} {holding : Map → List P → Type 0} {fixed : ℕ → Bool}
    {S : Type 0} where
  pub tidy_at_close : (h : Shape) (words : List ℕ) (v : View P) (most count freed : ℕ)
      (old made later : List Taken) → IsSound h → (ended : Ended opens holding fixed h S words v)
      → v.trail ≡ old ++ (made ++ later) → MadeCycles h.mutators most count freed made
      → count < most → IsTidy ended.shows.core
  tidy_at_close h words v most count freed old made later sound ended is cycles fewer =
      let shows = ended.shows in
      let from = start h shows.core.rooms in
      let rows = rows_shaped h.cells shows.core.rooms h.first sound.rows sound.first sound.fit in
      elim cycles.why [
        | inl all ↦ absurd (omega (arith, all, fewer))
        | inr so ↦ subst IsTidy shows.last_of.ends
            (tidy_behind from shows.run old made later h.mutators count rows
            (opening_consistent h.cells shows.core.rooms h.first sound.fit sound.first)
            (every_run_has_words h.cells shows.core.rooms h.first [] sound.first tt)
            shows.last_of.legal
            (ap (λ (s : State). s.mutators) shows.last_of.ends ∙ shows.last_of.mutators)
            (ended.collector.trail ∙ is) so)
      ]
