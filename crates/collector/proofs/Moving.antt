-- Moves: what holds after each, from what its events leave.
use Rattle.std.proofs.Common.{◌≡◌, ◌≤◌, ◌<◌, ◌+◌, ◌-◌, ◌++◌, ℕ, Bool, true, false, List, [], ◌∷◌}
use Rattle.std.proofs.Common.{Option, None, IfSome, replicate, slice_set, sym}
use Rattle.std.proofs.Common.{◌∙◌, ap, subst, arith}
use Rattle.std.proofs.lemmas.List.{append-nil}
use Rattle.cell_words.specs.declared.controls.Stage.{Stage}
use Rattle.cell_words.specs.declared.controls.Stage.TheVariants as stage
use Rattle.core_machine.specs.Collector.{Collector, answered_by}
use Rattle.core_machine.specs.declared.events.Event.TheVariants as event
use Rattle.core_machine.specs.declared.events.Found.TheVariants as finds
use Rattle.heap_rule.specs.Rule.{took}
use Rattle.heap_rule.specs.Shape.{Shape}
use Rattle.collector.specs.Bound.{Bound, HaveAnswered, cells_of, control_of, mutators_of, part_of}
use Rattle.collector.specs.Bound.{takes}
use Rattle.collector.specs.Counting.{Counts, Does}
use Rattle.collector.specs.Offering.{freed_since}
use Rattle.collector.specs.Replay.{work_of}
use Rattle.collector.specs.Stepping.{IsAsking, Moved, Steps, StepsAt, Told, freed_in}
use Rattle.collector.specs.Stretches.{Kept}
use Rattle.collector.specs.Underway.{Begins, Ends, Leads}
use Rattle.collector.specs.declared.report.CycleReport.{CycleReport}
use Rattle.collector.specs.declared.stepping.Step.{Step}
use Rattle.collector.proofs.Answered.{answers_more}
use Rattle.collector.proofs.Cycling.{answered_all}
use Rattle.collector.proofs.Offered.{freed_by, freed_none, freed_then}

all_have : (n m : ℕ) → m ≤ n → n ≤ m → replicate m true ++ replicate (n - m) false
    ≡ replicate n true
all_have n m le ge =
    ap (λ (k : ℕ). replicate m true ++ replicate k false) none
    ∙ append-nil (replicate m true)
    ∙ ap (λ (k : ℕ). replicate k true) is
  where
    none : n - m ≡ 0
    none = omega (arith, ge)

    is : m ≡ n
    is = omega (arith, le, ge)

module _ {P : Type 0} where
  -- at the stage that the control shows
  pub steps_at : (s : Stage) (heard : ℕ) (c : Bound P) → (control_of c).stage ≡ s
      → StepsAt s heard c → Steps heard c
  steps_at s heard c is so = subst (λ (x : Stage). StepsAt x heard c) (sym is) so

  pub steps_from : (s : Stage) (heard : ℕ) (c : Bound P) → (control_of c).stage ≡ s
      → Steps heard c → StepsAt s heard c
  steps_from s heard c is so = subst (λ (x : Stage). StepsAt x heard c) is so

  -- at rest any collector may be moved on
  pub rest_steps : (heard : ℕ) (c : Bound P) → (control_of c).stage ≡ stage.Idle → Steps heard c
  rest_steps heard c is = steps_at stage.Idle heard c is tt

  pub moved_at : (s t : Stage) (step : Step) (a b : Bound P) → t ≡ s → Moved s step a b
      → Moved t step a b
  moved_at s t step a b is moved = subst (λ (x : Stage). Moved x step a b) (sym is) moved

  -- What stays.

  pub same_cells : (a b : Bound P) → Kept a b → cells_of b ≡ cells_of a
  same_cells a b kept = ap (λ (h : Shape). h.cells) kept.shape

  pub same_mutators : (a b : Bound P) → Kept a b → mutators_of b ≡ mutators_of a
  same_mutators a b kept = ap (λ (h : Shape). h.mutators) kept.shape

  pub freed_nothing : (r : CycleReport) (a b : Bound P) → r.freed ≡ 0 → Does r a b
      → freed_since a b ≡ []
  freed_nothing r a b none does =
      freed_by a b does.added does.trail
      ∙ freed_none (control_of a) does.added (does.fact.comes.freed_are ∙ none)

  -- a move that frees nothing
  pub moved_quiet : (s : Stage) (step : Step) (r : CycleReport) (a b : Bound P)
      → step.freed ≡ None → r.freed ≡ 0 → Steps step.heard b → Told s step.went step.came a b
      → Leads s step.went step.came a b → Does r a b → Moved s step a b
  moved_quiet s step r a b none zero steps told leads does = record {
    steps = steps;
    told = told;
    leads = leads;
    kept = does.kept;
    freed = freed_nothing r a b zero does ∙ sym (ap freed_in none);
    there = subst (λ (f : Option ℕ). IfSome f (λ cell. cell < cells_of a)) (sym none) tt;
  }

  -- The first move of a cycle, and the last.

  pub begins_kept : (a b : Bound P) → Begins a b → Kept a b
  begins_kept a b begins = record {
    heap = ap (λ (x : Bound P). x.heap) begins.0;
    table = ap (λ (x : Bound P). x.seat.table) begins.0;
    shape = ap (λ (x : Bound P). x.seat.me.shape) begins.0;
    places = ap (λ (x : Bound P). x.seat.me.places) begins.0;
    room = ap (λ (x : Bound P). x.stack.room) begins.0;
  }

  pub begins_free : (a b : Bound P) → Begins a b → freed_since a b ≡ []
  begins_free a b begins =
      freed_by a b (took (event.Post stage.Sync1) finds.Stored ∷ [])
      (ap (λ (x : Bound P). x.seat.me.trail) begins.0)

  pub ends_kept : (a b : Bound P) → Ends a b → Kept a b
  ends_kept a b ends = record {
    heap = ap (λ (x : Bound P). x.heap) ends.0;
    table = ap (λ (x : Bound P). x.seat.table) ends.0;
    shape = ap (λ (x : Bound P). x.seat.me.shape) ends.0;
    places = ap (λ (x : Bound P). x.seat.me.places) ends.0;
    room = ap (λ (x : Bound P). x.stack.room) ends.0;
  }

  pub ends_free : (a b : Bound P) → Ends a b → freed_since a b ≡ []
  ends_free a b ends =
      freed_by a b (took (event.Post stage.Idle) finds.Stored ∷ [])
      (ap (λ (x : Bound P). x.seat.me.trail) ends.0)

  -- Who has answered.

  pub nobody_yet : (c : Bound P) → (part_of c).answered ≡ replicate (mutators_of c) false
      → (part_of c).scan ≡ None → IsAsking 0 c
  nobody_yet c none scan = record {
    few = omega arith;
    answers = none ∙ ap (λ (k : ℕ). replicate k false) all;
    scan = scan;
  }
    where
      all : mutators_of c ≡ mutators_of c - 0
      all = omega arith

  pub one_more : (heard : ℕ) (a b : Bound P) → heard < mutators_of a
      → mutators_of b ≡ mutators_of a → part_of b ≡ answered_by (part_of a) heard true
      → IsAsking heard a → IsAsking (heard + 1) b
  one_more heard a b lt same part so = record {
    few = omega (arith, lt, same);
    answers = ap (λ (p : Collector). p.answered) part
        ∙ ap (λ (xs : List Bool). slice_set xs heard true) so.answers
        ∙ answers_more (mutators_of a) heard lt
        ∙ ap (λ (n : ℕ). replicate (heard + 1) true ++ replicate (n - (heard + 1)) false)
        (sym same);
    scan = ap (λ (p : Collector). p.scan) part ∙ so.scan;
  }

  -- none more
  pub still_asking : (heard : ℕ) (a b : Bound P) → mutators_of b ≡ mutators_of a
      → (part_of b).answered ≡ (part_of a).answered → (part_of b).scan ≡ None → IsAsking heard a
      → IsAsking heard b
  still_asking heard a b same answered scan so = record {
    few = omega (arith, so.few, same);
    answers = answered ∙ so.answers
        ∙ ap (λ (n : ℕ). replicate heard true ++ replicate (n - heard) false) (sym same);
    scan = scan;
  }

  pub all_heard : (heard : ℕ) (c : Bound P) → mutators_of c ≤ heard → IsAsking heard c
      → HaveAnswered c
  all_heard heard c all so =
      answered_all c (mutators_of c) (so.answers ∙ all_have (mutators_of c) heard so.few all)

  -- Which cells two stretches free.

  pub freed_two : (r q : CycleReport) (a b c : Bound P) → Does r a b → Does q b c
      → freed_since a c ≡ freed_since a b ++ freed_since b c
  freed_two r q a b c first second =
      freed_then (Counts (work_of a) (work_of b) r) (Counts (work_of b) (work_of c) q) a b c
      first second

  -- the first one none
  pub freed_after : (r q : CycleReport) (a b c : Bound P) → r.freed ≡ 0 → Does r a b → Does q b c
      → freed_since a c ≡ freed_since b c
  freed_after r q a b c none first second =
      freed_two r q a b c first second
      ∙ ap (λ (cells : List ℕ). cells ++ freed_since b c) (freed_nothing r a b none first)

  -- a Free is of the cell at the position
  pub free_frees : (a b : Bound P) → b ≡ takes a event.Free finds.Stored
      → freed_since a b ≡ (control_of a).position ∷ []
  free_frees a b is =
      freed_by a b (took event.Free finds.Stored ∷ [])
      (ap (λ (x : Bound P). x.seat.me.trail) is)
