-- From marks of what is reached: what copying asks of the records that are marked, and what it
-- tells of the roots.
use Rattle.std.proofs.Common.{◌≡◌, ◌<◌, ◌+◌, ◌↔◌, ℕ, zero, suc, Bool, true, false, List, [], ◌∷◌, All}
use Rattle.std.proofs.Common.{length, refl, sym, ◌∙◌, ap, arith}
use Rattle.std.specs.Prelude.{slice_index_or}
use Rattle.std.specs.List.{Contains}
use Rattle.heap_rule.specs.Lore.{known_at}
use Rattle.heap_rule.specs.declared.known.Known.{Known}
use Rattle.minor_heap.specs.declared.fields.MinorField.{MinorField}
use Rattle.minor_heap.specs.declared.fields.MinorField.TheVariants as field
use Rattle.minor_heap.specs.declared.fields.MinorRef.{MinorRef}
use Rattle.minor_heap.specs.Marking.{marked_of}
use Rattle.minor_heap.specs.Nursery.{field_at}
use Rattle.minor_heap.specs.Reaches.{AreReached, IsMarked, Reaches, named, root}
use Rattle.minor_heap.specs.Spans.{AreWithin}
use Rattle.minor_heap.specs.Terms.{terms_of}
use Rattle.minor_heap.specs.declared.spans.RecordSpan.{RecordSpan}
use Rattle.mutator_seat.specs.Bound.{Bound, held_cells}
use Rattle.promotion.specs.Copying.{AreCopied, GrownBy, marked_count}
use Rattle.promotion.specs.Promoting.{ClaimsFor, knows_term}
use Rattle.promotion.specs.Sharing.{ShareRecords, SharesRecord, known_terms}
use Rattle.promotion.proofs.Counting.{count_is, count_none, count_some}
use Rattle.std.proofs.lemmas.List.{length-append}

from_some : (records : List (List MinorField)) (from : List MinorRef) (r : MinorRef)
    → Reaches records (Contains from) r → 0 < length from
from_some records from _ (root is) = omega (arith, is.1)
from_some records from _ (named i lt before names) = from_some records from _ before

some_root : (from : List MinorRef) → 0 < length from → (r : MinorRef) × Contains from r
some_root [] some = absurd (omega (arith, some))
some_root (r ∷ from) some = (r, (0, omega arith, refl))

same_there : (from : List MinorRef) (i : ℕ) (d e : MinorRef) → i < length from
    → slice_index_or from i d ≡ slice_index_or from i e
same_there [] i d e lt = absurd (omega (arith, lt))
same_there (r ∷ from) zero d e lt = refl
same_there (r ∷ from) (suc i) d e lt = same_there from i d e (omega (arith, lt))

module _ (records : List (List MinorField)) (from : List MinorRef) (marks : List Bool)
    (all : (r : MinorRef) → IsMarked marks r ↔ Reaches records (Contains from) r) where
  reached_at : (k : ℕ) → slice_index_or marks k false ≡ true
      → Reaches records (Contains from) (record { number = k })
  reached_at k is = (all (record { number = k })).0 is

  mark_from_some : (k : ℕ) → slice_index_or marks k false ≡ true → 0 < length from
  mark_from_some k is = from_some records from (record { number = k }) (reached_at k is)

  pub marks_closed : (k i : ℕ) (older : MinorRef) → i < 5 → slice_index_or marks k false ≡ true
      → field_at records k i ≡ field.Minor older → slice_index_or marks older.number false ≡ true
  marks_closed k i older lt is names =
      (all older).1 (named {r = record { number = k }} i lt (reached_at k is) names)

  pub marks_share : (known : List Known) → ShareRecords known records from → (k i : ℕ) → i < 5
      → slice_index_or marks k false ≡ true → SharesRecord known (field_at records k i)
  marks_share known shares k i lt is = shares (record { number = k }) i (reached_at k is) lt

  module _ {P : Type 0} (a b : Bound P) (so : GrownBy (marked_count marks) a b) where
    pub claims_for : AreReached records from (marked_of 0 marks) → ClaimsFor a records from b
    claims_for reached = record {
      copied = marked_of 0 marks;
      reached = reached;
      claims = so.grown.claims
          ∙ ap (λ (n : ℕ). a.seat.me.own.claims + n) (so.count_is ∙ sym (count_is 0 marks));
    }

    pub none_held : length from ≡ 0 → length (held_cells b) ≡ length (held_cells a)
    none_held none =
        let few : marked_count marks ≡ 0 = count_none marks
        (λ k is. absurd (omega (arith, none, mark_from_some k is))) in
        ap (λ (cs : List ℕ). length cs) so.grown.held
        ∙ length-append (held_cells a) so.grown.cells
        ∙ omega (arith, few, so.count_is)

    pub fit_held : 0 < length from → length (held_cells a) ≡ length a.seat.me.known
    fit_held some =
        let r = some_root from some in
        let more = count_some marks r.0.number ((all r.0).1 (root r.1)) in
        so.grown.fit (omega (arith, more, so.count_is))

    pub roots_copied : (places : List ℕ) (span : RecordSpan) → AreWithin span marks
        → AreCopied b.seat.me.known marks span.end places
        (terms_of (known_terms a.seat.me.known) records)
        → All (λ (r : MinorRef). known_at b.seat.me.known (slice_index_or places r.number 0)
        ≡ knows_term a records r) from
    roots_copied places span within copied = λ i d lt.
        let r = slice_index_or from i d in
        let is = (all r).1 (root (i, lt, same_there from i r d lt)) in
        copied r.number (within r is).1 is
