-- The log at the close: it has what the mutators appended, in the words of the closed heap.
use Rattle.std.proofs.Common.{◌≡◌, ◌<◌, ◌∙◌, ◌+◌, ◌∷◌, ◌⊎◌, ℕ, zero, suc, List, [], inl, inr}
use Rattle.std.proofs.Common.{ap, sym, subst, refl, arith, length, map, sum}
use Rattle.std.proofs.lemmas.List.{length-map}
use Rattle.std.proofs.lemmas.List.Sums.{sum_by-cons}
use Rattle.atomic_table.proofs.Lists.{at_map}
use lib.ListN.{get_elem?}
use Rattle.beside_collector.specs.Places.{AllFrom}
use Rattle.cell_words.specs.Term.{null, num}
use Rattle.cell_words.specs.declared.fields.Field.{Field}
use Rattle.cell_words.specs.declared.fields.Field.TheVariants as word
use Rattle.core_machine.specs.State.{State, field_of, greatest_cycles}
use Rattle.heap_rule.specs.Boxes.{boxes_of, payload_of}
use Rattle.heap_rule.specs.Facts.{Facts}
use Rattle.heap_rule.specs.Lore.{Lore, Named, Plain}
use Rattle.heap_rule.specs.Shape.{Shape}
use Rattle.heap_rule.specs.declared.view.View.{View}
use Rattle.heap_rule.proofs.Entries.{same_entry}
use Rattle.heap_rule.proofs.EntryWords.{null_word, number_word}
use Rattle.heap_rule.proofs.Maps.{In, entry_names, in_map, of_map}
use Rattle.heap_table.specs.Seats.{HeapId}
use Rattle.mutator_threads.specs.Closing.{IsClosed, passes_of}
use Rattle.mutator_threads.specs.Mutators.{own_of, views_of}
use Rattle.mutator_threads.specs.declared.closing.Closed.{Closed}
use Rattle.mutator_threads.specs.declared.worker.Worker.{Worker}
use Rattle.example_log.specs.Appending.{HasAppended}
use Rattle.example_log.specs.Leaving.{Leaves, LogFrom, boxes_from, log_shape}
use Rattle.heap_rule.specs.Numbered.{HasNumber}
use Rattle.example_log.specs.Logging.{Chain, KeepsLog, entries_of, is_fixed}
use Rattle.example_log.specs.Logging.{nothing_appended, sum_of}
use Rattle.example_log.specs.declared.log.Appended.{Appended}
use Rattle.example_log.proofs.Picks.{anchor_entry}

-- The log of the rule in the words: each box of the chain has its fields there.
module _ (s : State) (l : Lore) (facts : Facts is_fixed s l) where
  module _ (cell n : ℕ) (has : HasNumber (boxes_of s l) cell n) where
    in_is : In s l cell
    in_is = of_map s l cell has.box has.there

    entry_is : (f : ℕ) → payload_of s l cell f ≡ has.box f
    entry_is f = same_entry (boxes_of s l) cell f (payload_of s l cell) has.box
        (in_map s l cell in_is) has.there

    number_at : (f k : ℕ) → has.box f ≡ Plain (num k) → field_of s cell f ≡ word.Num k
    number_at f k is = number_word is_fixed s l facts cell f k in_is.reached (entry_is f ∙ is)

    null_at : (f : ℕ) → has.box f ≡ Plain null → field_of s cell f ≡ word.Null
    null_at f is = null_word is_fixed s l facts cell f in_is.reached (entry_is f ∙ is)

    cell_at : (f c : ℕ) → has.box f ≡ Named c → field_of s cell f ≡ word.Cell c
    cell_at f c is = entry_names l.terms (field_of s cell f) c (entry_is f ∙ is)

  log_from : (cell : ℕ) (writers : List ℕ) (from : Field) → from ≡ word.Cell cell
      → Chain (boxes_of s l) cell writers → LogFrom s from writers
  log_from cell [] from is first = record {
    cell = cell;
    from_is = is;
    number_is = number_at cell 0 first.has 0 0 first.has.number_is;
    none_before = null_at cell 0 first.has 1 first.before_is;
  }
  log_from cell (writer ∷ writers) from is (entry, rest) =
      let n = length (writer ∷ writers) in (
        record {
          cell = cell;
          from_is = is;
          number_is = number_at cell n entry.has 0 n entry.has.number_is;
          writer_is = number_at cell n entry.has 2 writer entry.writer_is;
          own_is = number_at cell n entry.has 3 (entries_of writer writers) entry.own_is;
        },
        log_from entry.before writers (field_of s cell 1)
            (cell_at cell n entry.has 1 entry.before entry.before_is) rest,
      )

  pub whole_log : (passes : List Appended) (h : KeepsLog (boxes_of s l) passes)
      → LogFrom s (field_of s 0 0) h.writers
  whole_log passes h =
      log_from h.newest h.writers (field_of s 0 0)
      (entry_names l.terms (field_of s 0 0) h.newest (anchor_entry s l passes h ∙ h.names)) h.chain

-- the pass of who has appended so many
abbrev pass_with : ℕ → Appended
pass_with n = record { count = n }

-- the passes of the workers are those of their counts
passes_so : (heap : HeapId) (place : ℕ) (workers : List (Worker Appended ℕ))
    → AllFrom (HasAppended heap) place workers
    → passes_of (views_of workers) ≡ map pass_with (own_of workers)
passes_so heap place [] all = refl
passes_so heap place (w ∷ ws) all =
    let first : w.seat.me.pass ≡ pass_with w.own = all.0.pass_is in
    let more : passes_of (views_of ws) ≡ map pass_with (own_of ws) =
    passes_so heap (place + 1) ws all.1 in
    (λ i. first i ∷ more i)

sum_with : (counts : List ℕ) → sum_of (map pass_with counts) ≡ sum counts
sum_with [] = refl
sum_with (n ∷ counts) =
    let passes = sum_by-cons (λ (p : Appended). p.count) (pass_with n) (map pass_with counts) in
    let numbers = sum_by-cons (λ (k : ℕ). k) n counts in
    let more = sum_with counts in
    omega (arith, passes, numbers, more)

-- The seats of all mutators were joined, and the heap was closed.
module _ (cells : ℕ) (counts : List ℕ) (views : List (View Appended)) (closed : Closed Appended)
    (those : passes_of views ≡ map pass_with counts) where
  at_shape : IsClosed nothing_appended KeepsLog is_fixed (log_shape cells (length counts))
      greatest_cycles views closed
      → Leaves cells counts closed.freed closed.image closed.passes
  at_shape done =
      let has = done.has_closed in
      let shown = has.ended.shows in
      let log = shown.kept in
      let passes : shown.passes ≡ map pass_with counts = done.passes_are ∙ those in
      record {
        ended = has.ended;
        shows = has.shows;
        writers = log.writers;
        log = whole_log shown.core shown.lore shown.facts shown.passes log;
        many = log.many ∙ ap sum_of passes ∙ sum_with counts;
        by = λ number count at.
            sym (log.own number (pass_with count)
            (ap (λ (ps : List Appended). get_elem? ps number) passes
            ∙ at_map pass_with counts number count at));
        collected = has.collected;
      }

  leaves_so : (h : Shape) → h ≡ log_shape cells (length counts)
      → IsClosed nothing_appended KeepsLog is_fixed h greatest_cycles views closed
      → Leaves cells counts closed.freed closed.image closed.passes
  leaves_so h is =
      subst (λ (k : Shape).
      IsClosed nothing_appended KeepsLog is_fixed k greatest_cycles views closed
      → Leaves cells counts closed.freed closed.image closed.passes) (sym is) at_shape

-- of the workers, whose counts are these
pub leaves : (heap : HeapId) (cells : ℕ) (workers : List (Worker Appended ℕ))
    (counts : List ℕ) (closed : Closed Appended) → counts ≡ own_of workers
    → AllFrom (HasAppended heap) 0 workers → heap.shape ≡ log_shape cells (length workers)
    → IsClosed nothing_appended KeepsLog is_fixed heap.shape greatest_cycles
    (views_of workers) closed
    → Leaves cells counts closed.freed closed.image closed.passes
leaves heap cells workers counts closed are all is done =
    let many : length workers ≡ length counts =
    sym (ap (λ (xs : List ℕ). length xs) are
    ∙ length-map workers (λ (w : Worker Appended ℕ). w.own)) in
    leaves_so cells counts (views_of workers) closed
    (passes_so heap 0 workers all ∙ ap (map pass_with) (sym are)) heap.shape
    (is ∙ ap (λ (n : ℕ). log_shape cells n) many) done

-- A walk along the log, from its newest entry on.
module _ (s : State) where
  none_from : (most : ℕ) → boxes_from most s word.Null ≡ 0
  none_from zero = refl
  none_from (suc most) = refl

  pub boxes_are : (writers : List ℕ) (from : Field) (most : ℕ) → LogFrom s from writers
      → length writers < most → boxes_from most s from ≡ length writers + 1
  boxes_are [] from zero log lt = absurd (omega (arith, lt))
  boxes_are [] from (suc most) log lt =
      ap (boxes_from (suc most) s) log.from_is
      ∙ ap (λ (x : Field). suc (boxes_from most s x)) log.none_before ∙ ap suc (none_from most)
  boxes_are (writer ∷ writers) from zero log lt = absurd (omega (arith, lt))
  boxes_are (writer ∷ writers) from (suc most) (entry, rest) lt =
      let more = boxes_are writers (field_of s entry.cell 1) most rest (omega (arith, lt)) in
      ap (boxes_from (suc most) s) entry.from_is ∙ ap suc more
      ∙ (let e : suc (length writers + 1) ≡ length (writer ∷ writers) + 1 = omega arith in e)

  -- a step of the walk, and none where it is at the end
  pub walks_on : (left boxes more all : ℕ) (from next : Field) (c : ℕ) → from ≡ word.Cell c
      → next ≡ field_of s c 1 → more ≡ boxes + 1 → boxes + boxes_from (suc left) s from ≡ all
      → more + boxes_from left s next ≡ all
  walks_on left boxes more all from next c is on one before =
      let step : boxes_from (suc left) s from ≡ suc (boxes_from left s next) =
      ap (boxes_from (suc left) s) is
      ∙ ap (λ (x : Field). suc (boxes_from left s x)) (sym on) in
      omega (arith, step, one, before)

  num_from : (most n : ℕ) → boxes_from most s (word.Num n) ≡ 0
  num_from zero n = refl
  num_from (suc most) n = refl

  pub walk_ends : (left boxes all : ℕ) (from : Field)
      → (from ≡ word.Null) ⊎ ((n : ℕ) × (from ≡ word.Num n))
      → boxes + boxes_from (suc left) s from ≡ all → boxes + boxes_from left s from ≡ all
  walk_ends left boxes all from (inl none) before =
      let now : boxes_from left s from ≡ 0 = ap (boxes_from left s) none ∙ none_from left in
      let was : boxes_from (suc left) s from ≡ 0 =
      ap (boxes_from (suc left) s) none ∙ none_from (suc left) in
      omega (arith, now, was, before)
  walk_ends left boxes all from (inr (n, number)) before =
      let now : boxes_from left s from ≡ 0 = ap (boxes_from left s) number ∙ num_from left n in
      let was : boxes_from (suc left) s from ≡ 0 =
      ap (boxes_from (suc left) s) number ∙ num_from (suc left) n in
      omega (arith, now, was, before)
