-- Handshakes: what the polls found, mutator by mutator.
use Rattle.std.proofs.Common.{◌≡◌, ◌+◌, ◌&&◌, ◌||◌, ℕ, Bool, true, false, not, IsTrue}
use Rattle.std.proofs.Common.{List, [], ◌∷◌, ◌++◌, inl, inr, refl, sym, ◌∙◌, ap, subst, arith}
use Rattle.std.proofs.Common.{eq-eqb}
use Rattle.std.proofs.lemmas.Bool.{and_parts, cases_lt, false≢true, or_left, or_right}
use Rattle.std.proofs.lemmas.List.Folds.{list_any-append}
use Rattle.cell_words.specs.Modes.{next_status_of, requested_of}
use Rattle.cell_words.specs.declared.presences.Presence.{Presence}
use Rattle.cell_words.specs.declared.presences.Status.{Status}
use Rattle.cell_words.specs.declared.presences.Status.TheVariants as status
use Rattle.cell_heap.specs.Telling.{AtCollectorEvent, FindsKnown}
use Rattle.core_machine.specs.Next.{after}
use Rattle.core_machine.specs.Words.{may_answer_out, same_status}
use Rattle.core_machine.specs.declared.events.Event.{Event}
use Rattle.core_machine.specs.declared.events.Event.TheVariants as event
use Rattle.core_machine.specs.declared.events.Found.{Found}
use Rattle.core_machine.specs.declared.events.Found.TheVariants as finds
use Rattle.core_machine.specs.declared.events.Taken.{Taken}
use Rattle.atomic_table.specs.Seated.{TableId}
use Rattle.heap_rule.specs.Rule.{took}
use Rattle.heap_rule.specs.declared.view.View.{View}
use Rattle.collector.specs.Bound.{Bound, control_of, tells_at}
use Rattle.collector.specs.Counting.{Counts, Does, nothing}
use Rattle.collector.specs.Over.{AllOver, Hears, HearsBeside, finds_over, was_over}
use Rattle.collector.specs.Replay.{Work, work_after, work_of}
use Rattle.collector.specs.declared.report.CycleReport.{CycleReport}
use Rattle.collector.proofs.Counted.{counts_join, none_plus, poll_comes}
use Rattle.collector.proofs.Joining.{counts_to, stretch_as, stretch_one, stretch_then, work_is}

over_here : (m : ℕ) (found : Presence) → IsTrue found.over
    → AllOver m (m + 1) (took (event.Poll m) (finds.Presence found) ∷ [])
over_here m found over k low high =
    let same : m ≡ k = omega (arith, low, high) in
    ap (λ (b : Bool). (b && found.over) || was_over k []) (eq-eqb m k same)
    ∙ ap (λ (b : Bool). b || was_over k []) over

pub over_late : (from end : ℕ) (xs ys : List Taken) → AllOver from end ys
    → AllOver from end (xs ++ ys)
over_late from end xs ys all m low high =
    list_any-append (λ (t : Taken). finds_over m t.event t.found) xs ys
    ∙ or_right (was_over m xs) (was_over m ys) (all m low high)

pub over_on : (from end : ℕ) (xs ys : List Taken) → AllOver from end xs
    → AllOver from end (xs ++ ys)
over_on from end xs ys all m low high =
    list_any-append (λ (t : Taken). finds_over m t.event t.found) xs ys
    ∙ or_left (was_over m xs) (was_over m ys) (all m low high)

over_more : (m : ℕ) (xs ys : List Taken) → AllOver 0 m xs → AllOver m (m + 1) ys
    → AllOver 0 (m + 1) (xs ++ ys)
over_more m xs ys first second k low high =
    elim (cases_lt k m) [
      | inl below ↦ over_on 0 m xs ys first k low below
      | inr here ↦ over_late m (m + 1) xs ys second k here high
    ]

-- one of two stretches found all over
pub over_of_two : (one other : Bool) (n : ℕ) (xs ys : List Taken) → (one || other) ≡ true
    → (IsTrue one → AllOver 0 n xs) → (IsTrue other → AllOver 0 n ys) → AllOver 0 n (xs ++ ys)
over_of_two true other n xs ys so first second = over_on 0 n xs ys (first refl)
over_of_two false other n xs ys so first second = over_late 0 n xs ys (second so)

abbrev pub HearsAs : CycleReport → Bool → ℕ → ℕ → Work → Work → List Taken → Type 0
HearsAs report over from end a b events =
    Counts a b report events × (IsTrue over → AllOver from end events)

abbrev HearsBy : Bool → ℕ → ℕ → Work → Work → List Taken → Type 0
HearsBy over from end a b events = HearsAs nothing over from end a b events

module _ {P : Type 0} where
  pub hears_does : (over : Bool) (from end : ℕ) (a b : Bound P) → Hears over from end a b
      → Does nothing a b
  hears_does over from end a b hears =
      stretch_as (HearsBy over from end (work_of a) (work_of b))
      (Counts (work_of a) (work_of b) nothing) a b (λ xs both. both.0) hears

  pub beside_does : (r : CycleReport) (over : Bool) (n : ℕ) (a b : Bound P)
      → HearsBeside r over 0 n a b → Does r a b
  beside_does r over n a b hears =
      stretch_as (HearsAs r over 0 n (work_of a) (work_of b)) (Counts (work_of a) (work_of b) r)
      a b (λ xs both. both.0) hears

  -- before events that amount to something
  pub hears_before : (r : CycleReport) (over : Bool) (n : ℕ) (a b c : Bound P)
      → Hears over 0 n a b → Does r b c → HearsBeside r over 0 n a c
  hears_before r over n a b c first second =
      stretch_then (HearsBy over 0 n (work_of a) (work_of b)) (Counts (work_of b) (work_of c) r)
      (HearsAs r over 0 n (work_of a) (work_of c)) a b c
      (λ xs ys one two. (
        subst (λ (x : CycleReport). Counts (work_of a) (work_of c) x (xs ++ ys)) (none_plus r)
            (counts_join (work_of a) (work_of b) (work_of c) nothing r xs ys one.0 two),
        λ so. over_on 0 n xs ys (one.1 so),
      )) first second

  -- two handshakes one after the other, of which one found all over
  pub hears_either : (one other either : Bool) (n : ℕ) (a b c : Bound P)
      → either ≡ (one || other) → Hears one 0 n a b → Hears other 0 n b c → Hears either 0 n a c
  hears_either one other either n a b c is first second =
      stretch_then (HearsBy one 0 n (work_of a) (work_of b))
      (HearsBy other 0 n (work_of b) (work_of c)) (HearsBy either 0 n (work_of a) (work_of c)) a b c
      (λ xs ys x y. (
        counts_join (work_of a) (work_of b) (work_of c) nothing nothing xs ys x.0 y.0,
        λ so. over_of_two one other n xs ys (sym is ∙ so) x.1 y.1,
      )) first second

  -- after events that count for nothing
  pub hears_after : (over : Bool) (from end : ℕ) (a b c : Bound P) → Does nothing a b
      → Hears over from end b c → Hears over from end a c
  hears_after over from end a b c first second =
      stretch_then (Counts (work_of a) (work_of b) nothing)
      (HearsBy over from end (work_of b) (work_of c))
      (HearsBy over from end (work_of a) (work_of c)) a b c
      (λ xs ys one two. (
        counts_join (work_of a) (work_of b) (work_of c) nothing nothing xs ys one two.0,
        λ so. over_late from end xs ys (two.1 so),
      )) first second

  -- one mutator more
  pub hears_more : (all one both : Bool) (m : ℕ) (a b c : Bound P) → both ≡ (all && one)
      → Hears all 0 m a b → Hears one m (m + 1) b c → Hears both 0 (m + 1) a c
  hears_more all one both m a b c is first second =
      stretch_then (HearsBy all 0 m (work_of a) (work_of b))
      (HearsBy one m (m + 1) (work_of b) (work_of c))
      (HearsBy both 0 (m + 1) (work_of a) (work_of c)) a b c
      (λ xs ys x y. (
        counts_join (work_of a) (work_of b) (work_of c) nothing nothing xs ys x.0 y.0,
        λ so. over_more m xs ys (x.1 (and_parts all one (sym is ∙ so)).0)
            (y.1 (and_parts all one (sym is ∙ so)).1),
      )) first second

  -- A look at a presence, with the state after it.

  seat_is : (fixed : ℕ → Bool) (a b : Bound P) (e : Event) (found : Found)
      → b.seat.table ≡ a.seat.table → (told : AtCollectorEvent fixed a.seat.me e found b.seat.me)
      → b.seat ≡ tells_at a.seat e found (after told.core e)
  seat_is fixed a b e found table told =
      ap (λ (t : TableId). record b.seat { table = t }) table
      ∙ ap (λ (me : View P). record a.seat { me = me }) told.new

  -- a look that calls for no answer
  pub hears_one : (fixed : ℕ → Bool) (a b : Bound P) (m : ℕ) (found : Presence)
      → b.heap ≡ a.heap → b.seat.table ≡ a.seat.table → b.stack ≡ a.stack
      → AtCollectorEvent fixed a.seat.me (event.Poll m) (finds.Presence found) b.seat.me
      → FindsKnown a.seat.me (event.Poll m) (finds.Presence found)
      → ¬ IsTrue (may_answer_out (requested_of (control_of a).stage) found.over found)
      → Hears found.over m (m + 1) a b
  hears_one fixed a b m found heap table stack told known none =
      let e = event.Poll m in
      let now = after told.core e in
      let seat = seat_is fixed a b e (finds.Presence found) table told in
      stretch_one (HearsBy found.over m (m + 1) (work_of a) (work_of b)) a b e
      (finds.Presence found) now heap seat stack known (
        counts_to nothing a b e (finds.Presence found) now seat stack (record {
          on = refl;
          answers = (λ calls. absurd (none calls), tt);
          comes = poll_comes (work_of a) m (finds.Presence found);
        }),
        λ so. over_here m found so,
      )

  -- a look, and the answer for the mutator right after it
  pub hears_two : (fixed : ℕ → Bool) (a b c : Bound P) (m : ℕ) (found met : Presence)
      → b.heap ≡ a.heap → b.seat.table ≡ a.seat.table → b.stack ≡ a.stack
      → AtCollectorEvent fixed a.seat.me (event.Poll m) (finds.Presence found) b.seat.me
      → FindsKnown a.seat.me (event.Poll m) (finds.Presence found)
      → c.heap ≡ b.heap → c.seat.table ≡ b.seat.table → c.stack ≡ b.stack
      → AtCollectorEvent fixed b.seat.me (event.AnswerOut m found.over) (finds.Presence met)
      c.seat.me
      → FindsKnown b.seat.me (event.AnswerOut m found.over) (finds.Presence met)
      → Hears found.over m (m + 1) a c
  hears_two fixed a b c m found met heap table stack told known heap_on table_on stack_on told_on
      known_on =
      let looks = event.Poll m in
      let answers = event.AnswerOut m found.over in
      let p = took looks (finds.Presence found) in
      let q = took answers (finds.Presence met) in
      let seat = seat_is fixed a b looks (finds.Presence found) table told in
      let seat_on = seat_is fixed b c answers (finds.Presence met) table_on told_on in
      let reached = work_is a b looks (finds.Presence found) (after told.core looks) seat stack in
      let ends = work_is b c answers (finds.Presence met) (after told_on.core answers) seat_on
      stack_on in
      stretch_then (λ (xs : List Taken). xs ≡ p ∷ []) (λ (ys : List Taken). ys ≡ q ∷ [])
      (HearsBy found.over m (m + 1) (work_of a) (work_of c)) a b c
      (λ xs ys first second. subst (HearsBy found.over m (m + 1) (work_of a) (work_of c))
      (sym (ap (λ (zs : List Taken). zs ++ ys) first
      ∙ ap (λ (zs : List Taken). (p ∷ []) ++ zs) second)) (
        record {
          on = refl;
          answers = (λ calls. refl, (tt, tt));
          comes = record {
            leads = sym (ends ∙ ap (λ (w : Work). work_after w q) reached);
            passes_are = refl;
            scanned_are = refl;
            freed_are = refl;
            stacked_are = refl;
            spilled_are = refl;
            straight = refl;
          };
        },
        λ so. over_on m (m + 1) (p ∷ []) (q ∷ []) (over_here m found so),
      ))
      (stretch_one (λ (xs : List Taken). xs ≡ p ∷ []) a b looks (finds.Presence found)
      (after told.core looks) heap seat stack known refl)
      (stretch_one (λ (ys : List Taken). ys ≡ q ∷ []) b c answers (finds.Presence met)
      (after told_on.core answers) heap_on seat_on stack_on known_on refl)

-- Who has answered, and who is in, is not to be answered for.

next_is_not : (s wanted : Status) → same_status s wanted ≡ true
    → ¬ (same_status (next_status_of s) wanted ≡ true)
next_is_not status.Async status.Async is next = false≢true next
next_is_not status.Async status.Sync1 is next = false≢true is
next_is_not status.Async status.Sync2 is next = false≢true is
next_is_not status.Sync1 status.Async is next = false≢true is
next_is_not status.Sync1 status.Sync1 is next = false≢true next
next_is_not status.Sync1 status.Sync2 is next = false≢true is
next_is_not status.Sync2 status.Async is next = false≢true is
next_is_not status.Sync2 status.Sync1 is next = false≢true is
next_is_not status.Sync2 status.Sync2 is next = false≢true next

pub answered_already : (wanted : Status) (found : Presence)
    → same_status found.status wanted ≡ true
    → ¬ IsTrue (may_answer_out wanted found.over found)
answered_already wanted found is calls =
    next_is_not found.status wanted is (and_parts _ _ calls).1

pub is_inside : (wanted : Status) (found : Presence) → found.inside ≡ true
    → ¬ IsTrue (may_answer_out wanted found.over found)
is_inside wanted found is calls =
    false≢true (sym (ap not is) ∙ (and_parts _ _ (and_parts _ _ calls).0).0)
