-- The counter at the close.
use Rattle.std.proofs.Common.{◌≡◌, ◌∙◌, ◌+◌, ◌∷◌, ℕ, List, [], Bool, true, false, Option}
use Rattle.std.proofs.Common.{ap, sym, refl, arith, length, slice_set}
use mathlib.Core.Option.{some}
use lib.ListN.{get_elem?}
use Rattle.cell_tests.specs.Counting.{CounterIs, Counts, sum_of}
use Rattle.cell_tests.specs.declared.counter.Added.{Added}
use Rattle.cell_tests.proofs.Sums.{counter_is}
use Rattle.cell_words.specs.Term.{Term, num, number, parts}
use Rattle.cell_words.specs.declared.fields.Field.{Field}
use Rattle.cell_words.specs.declared.fields.Field.TheVariants as field
use Rattle.core_machine.specs.State.{State, field_of}
use Rattle.dlg_core.specs.Reachable.{anchor, named}
use Rattle.heap_rule.specs.Facts.{Facts, TermFits, is_record_kind}
use Rattle.heap_rule.specs.Laws.{Ended}
use Rattle.heap_rule.specs.Lore.{Entry, Lore, Plain, Terms, entry_of, named_or, term_of, five_of}
use Rattle.heap_rule.specs.Moves.{joined_view}
use Rattle.heap_rule.specs.NoRule.{no_field_is_fixed}
use Rattle.heap_rule.specs.Rule.{share_of}
use Rattle.heap_rule.specs.Shape.{Shape}
use Rattle.heap_rule.specs.declared.view.Place.{Place}
use Rattle.heap_rule.specs.declared.view.Place.TheVariants as places
use Rattle.heap_rule.specs.declared.view.View.{View}

-- the term of a record is no number
not_number : (terms : Terms) (row : ℕ → Field) (c n : ℕ) (b : Bool) (t : Option Term)
    → TermFits b terms row t → named_or c t ≡ Plain (num n) → ⊥
not_number terms row c n true t fits h =
    let same : Plain (five_of terms row) ≡ Plain (num n) = sym (ap (named_or c) fits.0) ∙ h in
    let long : 5 ≡ 0 = ap (λ (e : Entry). length (parts (term_of e))) same in
    omega (arith, long)
not_number terms row c n false t fits h =
    let same = sym (ap (named_or c) fits) ∙ h in absurd cc

-- a field of the anchor that stands for a number is this number
is_num : (s : State) (l : Lore) → Facts no_field_is_fixed s l → (n : ℕ) (x : Field)
    → field_of s 0 0 ≡ x → entry_of l.terms x ≡ Plain (num n) → x ≡ field.Num n
is_num s l facts n field.Null at h = absurd cc
is_num s l facts n (field.Num k) at h =
    ap (λ (e : Entry). field.Num (number (term_of e))) h
is_num s l facts n (field.Cell c) at h =
    absurd (not_number l.terms (field_of s c) c n (is_record_kind (field_of s c 5)) (l.terms c)
    (facts.termed c (named 0 (anchor {c = 0} refl) at)) h)

two_passes : (passes : List Added) (a b : Added) → length passes ≡ 2
    → get_elem? passes 0 ≡ some a → get_elem? passes 1 ≡ some b → sum_of passes ≡ a.sum + b.sum
two_passes [] a b many first second = absurd cc
two_passes (x ∷ []) a b many first second = absurd cc
two_passes (x ∷ y ∷ []) a b many first second =
    let one : x ≡ a = cc in
    let other : y ≡ b = cc in
    let one_sum : x.sum ≡ a.sum = ap (λ (p : Added). p.sum) one in
    let other_sum : y.sum ≡ b.sum = ap (λ (p : Added). p.sum) other in
    omega (arith, one_sum, other_sum)
two_passes (x ∷ y ∷ z ∷ more) a b many first second = omega (arith, many)

joined_both : (at : List (Place Added)) (a b : Place Added) → length at ≡ 2
    → (get_elem? (slice_set (slice_set at 0 a) 1 b) 0 ≡ some a)
    × (get_elem? (slice_set (slice_set at 0 a) 1 b) 1 ≡ some b)
joined_both [] a b many = absurd cc
joined_both (x ∷ []) a b many = absurd cc
joined_both (x ∷ y ∷ more) a b many = (refl, refl)

-- the seats of both mutators were joined, and the heap was closed
pub finished : (h : Shape) (words : List ℕ) (v w u t : View Added) (first second : ℕ)
    → length v.places ≡ 2 → h.mutators ≡ 2 → u.number ≡ 0 → t.number ≡ 1
    → u.pass ≡ record { sum = first } → t.pass ≡ record { sum = second }
    → w ≡ joined_view (joined_view v u) t
    → Ended (λ number setting. record { sum = 0 }) Counts no_field_is_fixed h (Unit {0}) words w
    → CounterIs words (first + second)
finished h words v w u t first second two mutators one other added more both e =
    let a = places.Joined (share_of u) in
    let b = places.Joined (share_of t) in
    let there = joined_both v.places a b two in
    let at : w.places ≡ slice_set (slice_set v.places 0 a) 1 b =
    ap (λ (x : View Added). x.places) both
    ∙ (λ i. slice_set (slice_set v.places (one i) a) (other i) b) in
    let pass : get_elem? e.shows.passes 0 ≡ some u.pass =
    (e.collector.joined 0 (share_of u)
    (ap (λ (x : List (Place Added)). get_elem? x 0) at ∙ there.0)).pass in
    let other_pass : get_elem? e.shows.passes 1 ≡ some t.pass =
    (e.collector.joined 1 (share_of t)
    (ap (λ (x : List (Place Added)). get_elem? x 1) at ∙ there.1)).pass in
    let sums : sum_of e.shows.passes ≡ first + second =
    two_passes e.shows.passes u.pass t.pass (e.passes_fit ∙ mutators) pass other_pass
    ∙ (λ i. (added i).sum + (more i).sum) in
    record {
      core = e.shows.core;
      words_are = sym e.words_are ∙ e.shows.last_of.shown;
      is = is_num e.shows.core e.shows.lore e.shows.facts (first + second)
          (field_of e.shows.core 0 0) refl
          (counter_is e.shows.core e.shows.lore e.shows.passes e.shows.kept
          ∙ ap (λ (n : ℕ). Plain (num n)) sums);
    }
