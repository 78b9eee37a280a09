-- The counter at the close: it is the sum of what the mutators added.
use Rattle.std.proofs.Common.{◌≡◌, ◌∙◌, ◌+◌, ◌∷◌, ℕ, List, [], Bool, true, false, Option}
use Rattle.std.proofs.Common.{None, Some}
use Rattle.std.proofs.Common.{ap, sym, subst, refl, arith, length, sum_by}
use Rattle.std.proofs.lemmas.List.Sums.{sum_by-cons}
use Rattle.beside_collector.specs.Places.{AllFrom}
use Rattle.cell_words.specs.Term.{Term, num, number, part, parts}
use Rattle.cell_words.specs.declared.fields.Field.{Field}
use Rattle.cell_words.specs.declared.fields.Field.TheVariants as word
use Rattle.core_machine.specs.State.{State, field_of, greatest_cycles}
use Rattle.dlg_core.specs.Reachable.{Reachable, anchor, named}
use Rattle.heap_rule.specs.Facts.{Facts, TermFits, is_record_kind}
use Rattle.heap_rule.specs.Lore.{Entry, Lore, Plain, Terms, entry_of, five_of, named_or, term_of}
use Rattle.heap_rule.specs.NoRule.{no_field_is_fixed}
use Rattle.heap_rule.specs.Shape.{Shape}
use Rattle.heap_rule.specs.declared.view.View.{View}
use Rattle.heap_table.specs.Seats.{HeapId}
use Rattle.mutator_threads.specs.Closing.{IsClosed, passes_of}
use Rattle.mutator_threads.specs.Mutators.{own_of, views_of}
use Rattle.mutator_threads.specs.declared.closing.Closed.{Closed}
use Rattle.mutator_threads.specs.declared.worker.Worker.{Worker}
use Rattle.example_counter.specs.Adding.{HasAdded}
use Rattle.example_counter.specs.Counting.{Counts, nothing_added, number_behind, number_in}
use Rattle.example_counter.specs.Counting.{number_record, sum_of}
use Rattle.example_counter.specs.Leaving.{Leaves, counter_shape}
use Rattle.example_counter.specs.declared.counter.Added.{Added}
use Rattle.example_counter.specs.declared.running.Adder.{Adder}
use Rattle.example_counter.proofs.Anchors.{named_term}
use Rattle.example_counter.proofs.Picks.{counter_is}

-- the term of a record is no number
not_number : (terms : Terms) (row : ℕ → Field) (c n : ℕ) (b : Bool) (t : Option Term)
    → TermFits b terms row t → term_of (named_or c t) ≡ num n → ⊥
not_number terms row c n true t fits h =
    let same : five_of terms row ≡ num n =
    sym (ap (λ (u : Option Term). term_of (named_or c u)) fits.0) ∙ h in
    let long : 5 ≡ 0 = ap (λ (u : Term). length (parts u)) same in
    omega (arith, long)
not_number terms row c n false t fits h =
    let same = sym (ap (λ (u : Option Term). term_of (named_or c u)) fits) ∙ h in absurd cc

module _ (s : State) (l : Lore) (facts : Facts no_field_is_fixed s l) where
  is_num : (c n : ℕ) → Reachable s c → (x : Field) → field_of s c 0 ≡ x
      → term_of (entry_of l.terms x) ≡ num n → x ≡ word.Num n
  is_num c n reached word.Null at h = absurd cc
  is_num c n reached (word.Num k) at h = ap (λ (t : Term). word.Num (number t)) h
  is_num c n reached (word.Cell d) at h =
      absurd (not_number l.terms (field_of s d) d n (is_record_kind (field_of s d 5)) (l.terms d)
      (facts.termed d (named 0 reached at)) h)

  fits_term : (n : ℕ) (row : ℕ → Field) (b : Bool) (t : Option Term) → TermFits b l.terms row t
      → t ≡ Some (number_record n) → term_of (entry_of l.terms (row 0)) ≡ num n
  fits_term n row true t fits is = ap term_part (sym fits.0 ∙ is)
    where
      term_part : Option Term → Term
      term_part None = num 0
      term_part (Some u) = part 0 u
  fits_term n row false t fits is = absurd (none_some (sym fits ∙ is))
    where
      none_some : None ≡ Some (number_record n) → ⊥
      none_some h = absurd cc

  counter_from : (n : ℕ) (x : Field) → field_of s 0 0 ≡ x
      → entry_of l.terms x ≡ Plain (number_record n)
      → (c : ℕ) × ((field_of s 0 0 ≡ word.Cell c) × (field_of s c 0 ≡ word.Num n))
  counter_from n word.Null at h =
      let long : 0 ≡ 5 = ap (λ (e : Entry). length (parts (term_of e))) h in
      absurd (omega (arith, long))
  counter_from n (word.Num k) at h =
      let long : 0 ≡ 5 = ap (λ (e : Entry). length (parts (term_of e))) h in
      absurd (omega (arith, long))
  counter_from n (word.Cell c) at h =
      let reached : Reachable s c = named 0 (anchor {c = 0} refl) at in (
        c,
        (
          at,
          is_num c n reached (field_of s c 0) refl
              (fits_term n (field_of s c) (is_record_kind (field_of s c 5)) (l.terms c)
              (facts.termed c reached) (named_term c (l.terms c) (number_record n) h)),
        ),
      )

-- what the workers counted is what their passes sum to
sums : (heap : HeapId) (place : ℕ) (workers : List (Worker Added Adder))
    → AllFrom (HasAdded heap) place workers
    → sum_of (passes_of (views_of workers)) ≡ sum_by (λ (a : Adder). a.sum) (own_of workers)
sums heap place [] all = refl
sums heap place (w ∷ ws) all =
    let passes = sum_by-cons (λ (p : Added). p.sum) w.seat.me.pass (passes_of (views_of ws)) in
    let counted = sum_by-cons (λ (a : Adder). a.sum) w.own (own_of ws) in
    let same : w.seat.me.pass.sum ≡ w.own.sum = ap (λ (p : Added). p.sum) all.0.pass_is in
    let more = sums heap (place + 1) ws all.1 in
    omega (arith, passes, counted, same, more)

-- The seats of all mutators were joined, and the heap was closed.
module _ (cells threads sum : ℕ) (views : List (View Added)) (closed : Closed Added)
    (summed : sum_of (passes_of views) ≡ sum) where
  at_shape : IsClosed nothing_added Counts no_field_is_fixed (counter_shape cells threads)
      greatest_cycles views closed
      → Leaves cells threads sum closed.freed closed.image closed.passes
  at_shape done =
      let has = done.has_closed in
      let shown = has.ended.shows in
      let all : sum_of shown.passes ≡ sum = ap sum_of done.passes_are ∙ summed in
      let counted = counter_from shown.core shown.lore shown.facts sum (field_of shown.core 0 0)
      refl
      (counter_is shown.core shown.lore shown.passes shown.kept
      ∙ ap (λ (n : ℕ). Plain (number_record n)) all) in
      record {
        ended = has.ended;
        shows = has.shows;
        counter = ap (number_behind shown.core) counted.1.0 ∙ ap number_in counted.1.1;
        summed = all;
        collected = has.collected;
      }

  leaves_so : (h : Shape) → h ≡ counter_shape cells threads
      → IsClosed nothing_added Counts no_field_is_fixed h greatest_cycles views closed
      → Leaves cells threads sum closed.freed closed.image closed.passes
  leaves_so h is =
      subst (λ (k : Shape).
      IsClosed nothing_added Counts no_field_is_fixed k greatest_cycles views closed
      → Leaves cells threads sum closed.freed closed.image closed.passes) (sym is) at_shape

-- of the workers, whose counts are these
pub leaves : (heap : HeapId) (cells threads : ℕ) (workers : List (Worker Added Adder))
    (adders : List Adder) (closed : Closed Added) → adders ≡ own_of workers
    → AllFrom (HasAdded heap) 0 workers → heap.shape ≡ counter_shape cells threads
    → IsClosed nothing_added Counts no_field_is_fixed heap.shape greatest_cycles
    (views_of workers) closed
    → Leaves cells threads (sum_by (λ (a : Adder). a.sum) adders) closed.freed closed.image
    closed.passes
leaves heap cells threads workers adders closed are all is done =
    leaves_so cells threads (sum_by (λ (a : Adder). a.sum) adders) (views_of workers) closed
    (sums heap 0 workers all
    ∙ ap (λ (xs : List Adder). sum_by (λ (a : Adder). a.sum) xs) (sym are))
    heap.shape is done
