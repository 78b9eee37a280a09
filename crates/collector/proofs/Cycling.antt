-- The stages of a cycle, joined.
use Rattle.std.proofs.Common.{◌≡◌, ◌<◌, ◌+◌, ℕ, is_some, length, Bool, true, IsTrue, List, [], ◌∷◌}
use Rattle.std.proofs.Common.{◌++◌, replicate}
use Rattle.std.proofs.Common.{◌||◌, refl, sym, ◌∙◌, ap, subst}
use Rattle.std.proofs.lemmas.List.{append_assoc}
use Rattle.std.specs.List.{list_all}
use Rattle.cell_heap.specs.Telling.{FindsKnown}
use Rattle.cell_words.specs.declared.controls.Stage.{Stage}
use Rattle.cell_words.specs.declared.controls.Stage.TheVariants as stage
use Rattle.core_machine.specs.declared.events.Event.TheVariants as event
use Rattle.core_machine.specs.declared.events.Found.TheVariants as finds
use Rattle.core_machine.specs.declared.events.Taken.{Taken}
use Rattle.heap_rule.specs.Asks.{collector_state}
use Rattle.heap_rule.specs.Rule.{took}
use Rattle.heap_rule.specs.Shape.{Shape}
use Rattle.collector.specs.Answering.{AnswersWhoIsOut}
use Rattle.collector.specs.Bound.{Bound, HaveAnswered, control_of, mutators_of, part_of}
use Rattle.collector.specs.Bound.{takes}
use Rattle.collector.specs.Counting.{Comes, Counts, nothing, plus}
use Rattle.collector.specs.Cycles.{Heard, IsAsked}
use Rattle.collector.specs.Over.{AllOver, Hears, HearsBeside}
use Rattle.collector.specs.Replay.{Work, count_along, fresh_work_of, spills, work_after, work_of}
use Rattle.collector.specs.Stack.{emptied}
use Rattle.collector.specs.Stretches.{Stretch}
use Rattle.collector.specs.declared.report.CycleReport.{CycleReport}
use Rattle.collector.proofs.Answered.{all_now}
use Rattle.collector.proofs.Alone.{two_heard}
use Rattle.collector.proofs.Counted.{all_shaded, comes_join, counts_join, none_plus, plus_none}
use Rattle.collector.proofs.Counted.{still_comes, still_counts}
use Rattle.collector.proofs.Hearing.{HearsAs, over_late, over_of_two, over_on}
use Rattle.collector.proofs.Joining.{counts_to, kept_then, stretch_one, stretch_then}
use Rattle.collector.proofs.Joining.{took_append}

-- what the events of a cycle, without its first and its last one, amount to
abbrev pub MadeBy : Work → Work → CycleReport → Bool → ℕ → List Taken → Type 0
MadeBy from to report over mutators events =
    Counts from to report events × (IsTrue over → AllOver 0 mutators events)
    × IsAsked mutators report events

counts_as : (a b : Work) (r q : CycleReport) (events : List Taken) → r ≡ q
    → Counts a b r events → Counts a b q events
counts_as a b r q events is counts = subst (λ (x : CycleReport). Counts a b x events) is counts

-- The first and the last event of a cycle, with what stands between.
reported_by : (a d : Work) (x z : Taken) (ys : List Taken) (r : CycleReport)
    → Comes a (work_after a x) nothing (x ∷ []) → Comes (work_after a x) d r ys
    → Comes d (work_after d z) nothing (z ∷ [])
    → Comes a (work_after d z) r (x ∷ (ys ++ z ∷ []))
reported_by a d x z ys r first between last =
    subst (λ (q : CycleReport). Comes a (work_after d z) q (x ∷ (ys ++ z ∷ [])))
    (none_plus (plus r nothing) ∙ plus_none r)
    (comes_join a (work_after a x) (work_after d z) nothing (plus r nothing) (x ∷ [])
    (ys ++ z ∷ []) first
    (comes_join (work_after a x) d (work_after d z) r nothing ys (z ∷ []) between last))

-- what begins with this event and then amounts to this
abbrev BeginsWith : Taken → Work → Work → CycleReport → List Taken → Type 0
BeginsWith z from to r events =
    Counts from to r events × (rest : List Taken) × (events ≡ z ∷ rest)

module _ {P : Type 0} where
  pub answered_all : (c : Bound P) (n : ℕ) → (part_of c).answered ≡ replicate n true
      → HaveAnswered c
  answered_all c n is =
      ap (λ (xs : List Bool). list_all (λ (answered : Bool). answered) xs) is ∙ all_now n

  pub mutators_from : (F : List Taken → Type 0) (a b : Bound P) → Stretch F a b
      → mutators_of b ≡ mutators_of a
  mutators_from F a b stretch = ap (λ (h : Shape). h.mutators) stretch.kept.shape

  cleared_then : (r : CycleReport) (over : Bool) (n : ℕ) (b c d : Bound P)
      → c ≡ takes b (event.Post stage.Clear) finds.Stored
      → FindsKnown b.seat.me (event.Post stage.Clear) finds.Stored → HearsBeside r over 0 n c d
      → Stretch (λ xs.
      BeginsWith (took (event.Post stage.Clear) finds.Stored) (work_of b) (work_of d) r xs
      × (IsTrue over → AllOver 0 n xs)) b d
  cleared_then r over n b c d posts known rest =
      let e = event.Post stage.Clear in
      let z = took e finds.Stored in
      let now = collector_state b.seat.me in
      let seat = ap (λ (x : Bound P). x.seat) posts in
      let stack = ap (λ (x : Bound P). x.stack) posts in
      stretch_then
      (λ (xs : List Taken). Counts (work_of b) (work_of c) nothing xs × (xs ≡ z ∷ []))
      (HearsAs r over 0 n (work_of c) (work_of d))
      (λ (xs : List Taken). BeginsWith z (work_of b) (work_of d) r xs
      × (IsTrue over → AllOver 0 n xs)) b c d
      (λ xs ys first second. (
        (
          counts_as (work_of b) (work_of d) (plus nothing r) r (xs ++ ys) (none_plus r)
              (counts_join (work_of b) (work_of c) (work_of d) nothing r xs ys first.0 second.0),
          ys,
          ap (λ (zs : List Taken). zs ++ ys) first.1,
        ),
        λ so. over_late 0 n xs ys (second.1 so),
      ))
      (stretch_one (λ (xs : List Taken). Counts (work_of b) (work_of c) nothing xs × (xs ≡ z ∷ []))
      b c e finds.Stored now (ap (λ (x : Bound P). x.heap) posts) seat stack known (
        counts_to nothing b c e finds.Stored now seat stack
            (still_counts (work_of b) e finds.Stored refl refl),
        refl,
      ))
      rest

  pub made_of : (first later over : Bool) (n : ℕ) (r : CycleReport) (a b c d : Bound P)
      → over ≡ (first || later)
      → Hears first 0 n a b → c ≡ takes b (event.Post stage.Clear) finds.Stored
      → FindsKnown b.seat.me (event.Post stage.Clear) finds.Stored → HearsBeside r later 0 n c d
      → length b.seat.me.over ≡ n
      → (0 < n → list_all (λ found. found) b.seat.me.over ≡ true
      → is_some b.seat.me.alone ≡ true)
      → (control_of b).stage ≡ stage.Sync1 → (control_of d).stage ≡ stage.Sweep
      → Stretch (MadeBy (work_of a) (work_of d) r over n) a d
  made_of first later over n r a b c d either hears posts known beside long knows sync1 sweep =
      let rest = cleared_then r later n b c d posts known beside in
      record {
        added = hears.added ++ rest.added;
        told = took_append a.seat b.seat d.seat hears.added rest.added hears.told rest.told;
        trail = rest.trail
            ∙ ap (λ (xs : List Taken). xs ++ rest.added) hears.trail
            ∙ append_assoc a.seat.me.trail hears.added rest.added;
        kept = kept_then a b d hears.kept rest.kept;
        fact = (
          counts_as (work_of a) (work_of d) (plus nothing r) r (hears.added ++ rest.added)
              (none_plus r)
              (counts_join (work_of a) (work_of b) (work_of d) nothing r hears.added rest.added
              hears.fact.0 rest.fact.0.0),
          λ so. over_of_two first later n hears.added rest.added (sym either ∙ so) hears.fact.1
              rest.fact.1,
          record {
            asked = hears.added;
            rest = rest.fact.0.1;
            split = ap (λ (ys : List Taken). hears.added ++ ys) rest.fact.0.2;
            two = λ some over none. two_heard n r a b d hears.added rest.added hears.told rest.told
                long knows known rest.fact.0.0 sync1 sweep some over none;
          },
        );
      }

  pub heard_of : (over : Bool) (n : ℕ) (r : CycleReport) (a b c d : Bound P)
      → b ≡ takes (record a { stack = emptied a.stack }) (event.Post stage.Sync1) finds.Stored
      → FindsKnown a.seat.me (event.Post stage.Sync1) finds.Stored
      → Stretch (MadeBy (work_of b) (work_of c) r over n) b c
      → d ≡ takes c (event.Post stage.Idle) finds.Stored
      → FindsKnown c.seat.me (event.Post stage.Idle) finds.Stored
      → Stretch (Heard (fresh_work_of a) n r over) a d
  heard_of over n r a b c d begins first made closes last =
      let x = took (event.Post stage.Sync1) finds.Stored in
      let z = took (event.Post stage.Idle) finds.Stored in
      let ys = made.added in
      let from = fresh_work_of a in
      let to : work_of b ≡ work_after from x = ap (λ (y : Bound P). work_of y) begins in
      let between = subst (λ (w : Work). Comes w (work_of c) r ys) to made.fact.0.comes in
      let comes = reported_by from (work_of c) x z ys r
      (still_comes from (event.Post stage.Sync1) finds.Stored refl) between
      (still_comes (work_of c) (event.Post stage.Idle) finds.Stored refl) in
      record {
        added = x ∷ (ys ++ z ∷ []);
        told = took_append a.seat b.seat d.seat (x ∷ []) (ys ++ z ∷ [])
            (collector_state a.seat.me, first, ap (λ (y : Bound P). y.seat) begins)
            (took_append b.seat c.seat d.seat ys (z ∷ []) made.told
            (collector_state c.seat.me, last, ap (λ (y : Bound P). y.seat) closes));
        trail = ap (λ (y : Bound P). y.seat.me.trail) closes
            ∙ ap (λ (zs : List Taken). zs ++ z ∷ []) (made.trail
            ∙ ap (λ (zs : List Taken). zs ++ ys) (ap (λ (y : Bound P). y.seat.me.trail) begins))
            ∙ append_assoc (a.seat.me.trail ++ x ∷ []) ys (z ∷ [])
            ∙ append_assoc a.seat.me.trail (x ∷ []) (ys ++ z ∷ []);
        kept = kept_then a b d
            (record {
              heap = ap (λ (y : Bound P). y.heap) begins;
              table = ap (λ (y : Bound P). y.seat.table) begins;
              shape = ap (λ (y : Bound P). y.seat.me.shape) begins;
              places = ap (λ (y : Bound P). y.seat.me.places) begins;
              room = ap (λ (y : Bound P). y.stack.room) begins;
            })
            (kept_then b c d made.kept (record {
              heap = ap (λ (y : Bound P). y.heap) closes;
              table = ap (λ (y : Bound P). y.seat.table) closes;
              shape = ap (λ (y : Bound P). y.seat.me.shape) closes;
              places = ap (λ (y : Bound P). y.seat.me.places) closes;
              room = ap (λ (y : Bound P). y.stack.room) closes;
            }));
        fact = record {
          reported = record {
            cycle = record {
              between = ys;
              whole = refl;
              one = made.fact.0.on;
              answers = subst (λ (s : Stage). AnswersWhoIsOut s ys)
                  (ap (λ (y : Bound P). (control_of y).stage) begins) made.fact.0.answers;
            };
            first = made.fact.2;
            passes_are = comes.passes_are;
            scanned_are = comes.scanned_are;
            freed_are = comes.freed_are;
            stacked_are = comes.stacked_are;
            spilled_are = comes.spilled_are;
            straight = comes.straight;
            shaded = all_shaded from (x ∷ (ys ++ z ∷ []))
                ∙ ap (λ (k : ℕ). k + count_along spills from (x ∷ (ys ++ z ∷ [])))
                comes.stacked_are
                ∙ ap (λ (k : ℕ). r.stacked + k) comes.spilled_are;
          };
          over_so = λ so. over_late 0 n (x ∷ []) (ys ++ z ∷ [])
              (over_on 0 n ys (z ∷ []) (made.fact.1 so));
        };
      }
