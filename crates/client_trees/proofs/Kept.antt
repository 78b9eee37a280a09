-- What the pool shows after an event of the mutator: what stood on places that stay still stands
-- and says what it said.
use Rattle.std.proofs.Common.{◌≡◌, ◌<◌, ◌≤◌, ℕ, zero, suc, List, [], ◌∷◌, ◌++◌}
use Rattle.std.proofs.Common.{length, take, drop, refl, sym, ◌∙◌, ap, subst, arith}
use Rattle.std.specs.Prelude.{slice_index_or}
use Rattle.std.proofs.lemmas.List.{length-append, length-map}
use Rattle.cell_words.specs.Term.{Term}
use Rattle.cell_words.specs.declared.fields.Field.{Field}
use Rattle.cell_words.specs.declared.fields.Field.TheVariants as word
use Rattle.cell_words.specs.declared.presences.Presence.{Presence}
use Rattle.core_machine.specs.declared.events.Event.{Event}
use Rattle.core_machine.specs.declared.events.Event.TheVariants as event
use Rattle.core_machine.specs.declared.events.Found.{Found}
use Rattle.core_machine.specs.declared.events.Found.TheVariants as finds
use Rattle.core_machine.specs.declared.places.Held.{Held}
use Rattle.core_machine.specs.Own.{no_own}
use Rattle.core_machine.specs.Places.{cell_at, found_at, no_place}
use Rattle.core_machine.specs.Trail.{own_along}
use Rattle.heap_rule.specs.declared.known.Known.{Known}
use Rattle.heap_rule.specs.declared.known.Known.TheVariants as knows
use Rattle.heap_rule.specs.declared.known.Learned.{Learned}
use Rattle.heap_rule.specs.declared.view.View.{View}
use Rattle.heap_rule.specs.Lore.{at_cell, cells_in, known_at, nothing_learned}
use Rattle.heap_rule.specs.Lore.{told as told_of}
use Rattle.heap_rule.specs.Rule.{told, took}
use Rattle.minor_heap.specs.Nursery.{IsOrdered, Nursery}
use Rattle.mutator_events.proofs.Roots.{at_many}
use Rattle.trails.specs.Marks.{mark_of, marks_of}
use Rattle.trails.specs.Telling.{Keeps}
use Rattle.trails.proofs.Marks.{marks_push}
use Rattle.trails.proofs.Telling.{grown_keeps}
use Rattle.doc_records.specs.Pool.{Kept, Later}
use Rattle.client_trees.specs.declared.at.NodeAt.{NodeAt}
use Rattle.client_trees.specs.declared.at.NodeAt.TheVariants as at
use Rattle.client_trees.specs.Records.{ClientFact, HasCell, HasRecords, IsAmong, IsAround}
use Rattle.client_trees.specs.Records.{IsKnownAs, IsRecord, IsSomething, Outside, blank}
use Rattle.client_trees.specs.Records.{known_term, says_of}
use Rattle.client_trees.specs.Records.{shown_of, stands_on, term_at, terms_known}
use Rattle.client_trees.proofs.Places.{at_kept, at_more, known_term_at, record_something}
use Rattle.client_trees.proofs.Places.{still_something}
use Rattle.client_trees.proofs.Resting.{rests_map, rests_same}

-- the first so many places hold what they held, whatever was known there still is, and nothing else
-- of the view is new except the trail
pub record Holds {P : Type 0} (places : ℕ) (v w : View P) : Type 0 where
  pub known : (p : ℕ) → p < places → IsSomething (known_at v.known p)
      → known_at w.known p ≡ known_at v.known p
  pub cells : (p : ℕ) → p < places → cell_at w.own.held p ≡ cell_at v.own.held p
  pub longer : places ≤ length w.own.held
  pub room : w.room ≡ v.room
  pub marks : Keeps (marks_of v.trail) (marks_of w.trail)
  pub blank_is : blank w ≡ blank v

pub holds_still : {P : Type 0} (v : View P) → Holds (length v.own.held) v v
holds_still v = record {
  known = λ p lt is. refl;
  cells = λ p lt. refl;
  longer = omega arith;
  room = refl;
  marks = λ before begins. begins;
  blank_is = refl;
}

module _ {P : Type 0} (minor : Nursery) (outside : Outside) (ordered : IsOrdered 0 minor.records)
    (v w : View P) (places : ℕ) (h : Holds places v w) where
  known_still : (p : ℕ) → p < places → IsRecord (known_at v.known p)
      → known_at w.known p ≡ known_at v.known p
  known_still p lt is = h.known p lt (record_something (known_at v.known p) is)

  among_still : (n p : ℕ) → n ≤ places → IsAmong v.known n p → IsAmong w.known n p
  among_still n p few is =
      (is.0, subst IsRecord (sym (known_still p (omega (arith, is.0, few)) is.1)) is.1)

  still_at : (a : NodeAt) (n : ℕ) → stands_on v.known minor.records n a → n ≤ places
      → stands_on w.known minor.records n a
  still_at (at.Shared p) n stands few = among_still n p few stands
  still_at (at.Minor r) n stands few =
      rests_map minor.records (IsAmong v.known n) (IsAmong w.known n) r
      (λ p is. among_still n p few is) stands

  widen : (a : NodeAt) (n k : ℕ) → n ≤ k → stands_on w.known minor.records n a
      → stands_on w.known minor.records k a
  widen (at.Shared p) n k more stands = (omega (arith, stands.0, more), stands.1)
  widen (at.Minor r) n k more stands =
      rests_map minor.records (IsAmong w.known n) (IsAmong w.known k) r
      (λ p is. (let lt : p < k = omega (arith, is.0, more) in lt, is.1)) stands

  same_at : (a : NodeAt) → stands_on v.known minor.records places a
      → term_at w.known minor.records a ≡ term_at v.known minor.records a
  same_at (at.Shared p) stands = ap known_term (known_still p stands.0 stands.1)
  same_at (at.Minor r) stands =
      sym (rests_same (terms_known v.known) (terms_known w.known) minor.records
      (IsAmong v.known places)
      (λ p is. known_term_at v.known p ∙ ap known_term (sym (known_still p is.0 is.1))
      ∙ sym (known_term_at w.known p)) ordered r stands)

  says_still : (f : ClientFact P) (n : ℕ) → says_of v minor outside n f → n ≤ places
      → says_of w minor outside n f
  says_still (IsAround around) n is few =
      ap (λ (u : View P). record { outside = outside; view = u; room = minor.room }) h.blank_is ∙ is
  says_still (HasCell p c) n is few = (is.0, h.cells p (omega (arith, is.0, few)) ∙ is.1)
  says_still (IsKnownAs p k) n is few = (
    is.0,
    (
      is.1.0,
      h.known p (omega (arith, is.0, few)) (subst IsSomething (sym is.1.1) is.1.0) ∙ is.1.1,
    ),
  )
  says_still (HasRecords records) n is few = is

  pub kept_at : Kept places (shown_of v minor outside) (shown_of w minor outside)
  kept_at = record {
    still = λ a n stands few. still_at a n stands few;
    now = λ a stands. widen a places (length w.own.held) h.longer
        (still_at a places stands (omega arith));
    same = same_at;
    says = says_still;
    longer = h.longer;
    room = h.room;
    marks = h.marks;
  }

-- all places stay
pub later_at : {P : Type 0} (minor : Nursery) (outside : Outside) → IsOrdered 0 minor.records
    → (v w : View P) → Holds (length v.own.held) v w
    → Later (shown_of v minor outside) (shown_of w minor outside)
later_at minor outside ordered v w h =
    let kept = kept_at minor outside ordered v w (length v.own.held) h in
    record {
      still = kept.still;
      now = kept.now;
      same = kept.same;
      says = kept.says;
      longer = kept.longer;
      room = kept.room;
      marks = kept.marks;
    }

-- Events.

module _ {P : Type 0} (v : View P) where
  pub marks_on : (e : Event) (found : Found)
      → Keeps (marks_of v.trail) (marks_of (v.trail ++ took e found ∷ []))
  marks_on e found = grown_keeps record {
    added = mark_of (own_along no_own v.trail) e found;
    is = marks_push v.trail (took e found);
  }

  module _ (fit : length v.known ≡ length v.own.held) (place f : ℕ) (tells : Learned) (u : Term)
      (told_is : tells.here ≡ knows.Record u) where
    -- what is known once more is told of the cell that was read
    here : List Known
    here = at_cell (told_of tells.here) (slice_index_or (cells_in v.own.held) place 0)
        (cells_in v.own.held) v.known

    by_cells : length v.known ≡ length (cells_in v.own.held)
    by_cells = fit ∙ sym (length-map v.own.held (λ (p : Held). p.cell))

    here_still : (p : ℕ) → IsSomething (known_at v.known p) → known_at here p ≡ known_at v.known p
    unfolding here
    here_still p is =
        ap (λ (k : Known). known_at (at_cell (told_of k)
        (slice_index_or (cells_in v.own.held) place 0) (cells_in v.own.held) v.known) p) told_is
        ∙ still_something u _ (cells_in v.own.held) v.known p by_cells is

    here_many : length here ≡ length v.own.held
    unfolding here
    here_many = at_many _ _ (cells_in v.own.held) v.known by_cells
        ∙ length-map v.own.held (λ (p : Held). p.cell)

    pub holds_read : (found : Field)
        → Holds (length v.own.held) v (told v (event.Read v.number place f) (finds.Field found)
        tells v.pass)
    unfolding here
    holds_read word.Null = record {
      known = λ p lt is. here_still p is;
      cells = λ p lt. refl;
      longer = omega arith;
      room = refl;
      marks = marks_on (event.Read v.number place f) (finds.Field word.Null);
      blank_is = refl;
    }
    holds_read (word.Num n) = record {
      known = λ p lt is. here_still p is;
      cells = λ p lt. refl;
      longer = omega arith;
      room = refl;
      marks = marks_on (event.Read v.number place f) (finds.Field (word.Num n));
      blank_is = refl;
    }
    holds_read (word.Cell c) = record {
      known = λ p lt is. at_more knows.Nothing here tells.found p (omega (arith, lt, here_many))
          ∙ here_still p is;
      cells = λ p lt. ap (λ (h : Held). h.cell) (at_more no_place v.own.held (found_at c) p lt);
      longer = let more = length-append v.own.held (found_at c ∷ []) in
          omega (arith, more);
      room = refl;
      marks = marks_on (event.Read v.number place f) (finds.Field (word.Cell c));
      blank_is = refl;
    }

  pub holds_kept : length v.known ≡ length v.own.held → (n from copies : ℕ) (found : Presence)
      → n ≤ length v.own.held
      → Holds n v (told v (event.Keep v.number n from copies) (finds.Presence found) nothing_learned
      v.pass)
  holds_kept fit n from copies found few = record {
    known = λ p lt is. at_kept knows.Nothing v.known (take copies (drop from v.known)) n p lt
        (omega (arith, few, fit));
    cells = λ p lt. ap (λ (h : Held). h.cell)
        (at_kept no_place v.own.held (take copies (drop from v.own.held)) n p lt few);
    longer = longer_kept v.own.held (take copies (drop from v.own.held)) n few;
    room = refl;
    marks = marks_on (event.Keep v.number n from copies) (finds.Presence found);
    blank_is = refl;
  }
    where
      longer_kept : (xs ys : List Held) (n : ℕ) → n ≤ length xs → n ≤ length (take n xs ++ ys)
      longer_kept xs ys zero few = omega arith
      longer_kept [] ys (suc n) few = absurd (omega (arith, few))
      longer_kept (x ∷ xs) ys (suc n) few =
          let rest = longer_kept xs ys n (omega (arith, few)) in omega (arith, rest)
