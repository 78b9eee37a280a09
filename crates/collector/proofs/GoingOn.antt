-- A cycle that is made by moves: each leads it on, and with the last one it is a whole cycle.
use Rattle.std.proofs.Common.{◌≡◌, ◌<◌, ℕ, true, false, is_some, length, refl, sym, ◌∙◌, ap}
use Rattle.std.proofs.Common.{subst}
use Rattle.std.proofs.lemmas.Bool.{false≢true}
use Rattle.std.specs.List.{list_all}
use Rattle.cell_words.specs.declared.controls.Stage.{Stage}
use Rattle.cell_words.specs.declared.controls.Stage.TheVariants as stage
use Rattle.collector.specs.Bound.{Bound, control_of, mutators_of}
use Rattle.collector.specs.Counting.{Counts, Does, nothing, plus}
use Rattle.collector.specs.Cycles.{Heard, Reported}
use Rattle.collector.specs.Replay.{fresh_work_of, work_of}
use Rattle.collector.specs.Stepping.{FirstMove, Told}
use Rattle.collector.specs.Stretches.{Stretch}
use Rattle.collector.specs.Underway.{Begins, Clears, Ends, IsInFirst, IsPastFirst, IsUnderway}
use Rattle.collector.specs.Underway.{IsUnderwayAt, WentOn, is_ended}
use Rattle.collector.specs.declared.report.CycleReport.{CycleReport}
use Rattle.collector.specs.declared.stepping.Went.{Went}
use Rattle.collector.specs.declared.stepping.Went.TheVariants as wents
use Rattle.collector.proofs.Counted.{none_plus}
use Rattle.collector.proofs.Cycling.{heard_of, made_of}
use Rattle.collector.proofs.Hearing.{HearsAs}
use Rattle.collector.proofs.Joining.{does_as, does_none, does_then, stretch_as}
use Rattle.collector.proofs.Moving.{begins_kept, same_mutators}

-- nothing and nothing
none_both : (r q : CycleReport) → r ≡ nothing → q ≡ nothing → plus r q ≡ nothing
none_both r q first second =
    ap (λ (x : CycleReport). plus x q) first ∙ none_plus q ∙ second

module _ {P : Type 0} where
  -- at the stage that the control shows
  pub underway_at : (s : Stage) (r : CycleReport) (start now : Bound P)
      → (control_of now).stage ≡ s → IsUnderwayAt s r start now → IsUnderway r start now
  underway_at s r start now is so =
      subst (λ (x : Stage). IsUnderwayAt x r start now) (sym is) so

  -- a move that ends no cycle
  pub went_on : (w : Went) (r q : CycleReport) (start now : Bound P) → is_ended w ≡ false
      → IsUnderway (plus r q) start now → WentOn w r q start now
  went_on wents.More r q start now on so = so
  went_on wents.Asks r q start now on so = so
  went_on wents.Ended r q start now on so = absurd (false≢true (sym on))

  pub first_begins : (a b : Bound P) → Begins a b → IsUnderway nothing a b
  first_begins a b begins =
      underway_at stage.Sync1 nothing a b (ap (λ (x : Bound P). (control_of x).stage) begins.0)
      (record { begun = b; begins = begins; does = does_none b; none = refl })

  -- In the first handshake.
  pub first_on : (r q : CycleReport) (start a b : Bound P) → q ≡ nothing → Does q a b
      → IsInFirst r start a → IsInFirst (plus r q) start b
  first_on r q start a b none does so = record {
    begun = so.begun;
    begins = so.begins;
    does = does_then r q so.begun a b so.does does;
    none = none_both r q so.none none;
  }

  pub first_clears : (r q : CycleReport) (start a b : Bound P) → q ≡ nothing
      → (control_of a).stage ≡ stage.Sync1 → length a.seat.me.over ≡ mutators_of a
      → (0 < mutators_of a → list_all (λ found. found) a.seat.me.over ≡ true
      → is_some a.seat.me.alone ≡ true)
      → Clears a b → IsInFirst r start a → IsPastFirst (plus r q) start b
  first_clears r q start a b none at each knows clears so = record {
    begun = so.begun;
    heard = a;
    cleared = b;
    begins = so.begins;
    hears = subst (λ (x : CycleReport). Does x so.begun a) so.none so.does;
    at = at;
    each = each;
    knows = knows;
    clears = clears;
    does = does_as nothing (plus r q) b b (none_both r q so.none none) (does_none b);
  }

  -- After it.
  pub past_on : (r q : CycleReport) (start a b : Bound P) → Does q a b → IsPastFirst r start a
      → IsPastFirst (plus r q) start b
  past_on r q start a b does so = record {
    begun = so.begun;
    heard = so.heard;
    cleared = so.cleared;
    begins = so.begins;
    hears = so.hears;
    at = so.at;
    each = so.each;
    knows = so.knows;
    clears = so.clears;
    does = does_then r q so.cleared a b so.does does;
  }

  -- With the last event it is a whole cycle.
  pub ends_whole : (r : CycleReport) (start a b : Bound P) → (control_of a).stage ≡ stage.Sweep
      → Ends a b → IsPastFirst r start a
      → Stretch (Reported (fresh_work_of start) (mutators_of start) r) start b
  ends_whole r start a b sweep ends so =
      let n = mutators_of start in
      let same : mutators_of so.heard ≡ n =
      same_mutators so.begun so.heard so.hears.kept
      ∙ same_mutators start so.begun (begins_kept start so.begun so.begins) in
      let hears = stretch_as (Counts (work_of so.begun) (work_of so.heard) nothing)
      (HearsAs nothing false 0 n (work_of so.begun) (work_of so.heard)) so.begun so.heard
      (λ xs counts. (counts, λ over. absurd (false≢true over))) so.hears in
      let beside = stretch_as (Counts (work_of so.cleared) (work_of a) r)
      (HearsAs r false 0 n (work_of so.cleared) (work_of a)) so.cleared a
      (λ xs counts. (counts, λ over. absurd (false≢true over))) so.does in
      stretch_as (Heard (fresh_work_of start) n r false) (Reported (fresh_work_of start) n r)
      start b (λ xs whole. whole.reported)
      (heard_of false n r start so.begun a b so.begins.0 so.begins.1
      (made_of false false false n r so.begun so.heard so.cleared a refl hears so.clears.0
      so.clears.1 beside (so.each ∙ same)
      (λ some. so.knows (subst (λ (k : ℕ). 0 < k) (sym same) some)) so.at sweep)
      ends.0 ends.1)

  -- The first move.
  pub begun_at : (s : Stage) (w : Went) (q : CycleReport) (a b : Bound P) → s ≡ stage.Idle
      → Told s w q a b → IsUnderway nothing a b
  begun_at s w q a b idle told =
      first_moved w a b (subst (λ (x : Stage). Told x w q a b) idle told)
    where
      first_moved : (w : Went) (a b : Bound P) → FirstMove w a b → IsUnderway nothing a b
      first_moved wents.More a b begins = first_begins a b begins
      first_moved wents.Asks a b never = absurd never
      first_moved wents.Ended a b never = absurd never
