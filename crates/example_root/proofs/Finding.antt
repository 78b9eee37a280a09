-- What the reads of a mutator find: the box, the record that is kept in it, and its number.
use Rattle.std.proofs.Common.{◌≡◌, ◌<◌, ◌∷◌, ◌++◌, ℕ, List, [], length, Some, Option}
use Rattle.std.proofs.Common.{refl, sym, ◌∙◌, ap, subst, arith}
use mathlib.Core.Option.{some}
use lib.ListN.{get_elem?}
use Rattle.cell_words.specs.declared.fields.Field.{Field}
use Rattle.cell_words.specs.declared.fields.Field.TheVariants as field
use Rattle.core_machine.specs.declared.events.Event.TheVariants as event
use Rattle.core_machine.specs.declared.events.Found.TheVariants as finds
use Rattle.core_machine.specs.State.{State, field_of}
use Rattle.heap_rule.specs.declared.known.Known.{Known}
use Rattle.heap_rule.specs.declared.known.Known.TheVariants as knows
use Rattle.heap_rule.specs.Asks.{MayRead, known_of, target}
use Rattle.heap_rule.specs.Boxes.{payload_of}
use Rattle.heap_rule.specs.Facts.{IsKnown}
use Rattle.heap_rule.specs.Lore.{Lore, Plain, five_plain, learned_from}
use Rattle.heap_rule.specs.NoRule.{no_field_is_fixed}
use Rattle.heap_rule.specs.Steps.{same_pass}
use Rattle.heap_rule.proofs.EntryWords.{learned_box, learned_record}
use Rattle.heap_rule.proofs.Seats.{knows_place, reached_place}
use Rattle.mutator_events.specs.Events.{AtEvent}
use Rattle.mutator_seat.specs.Bound.{Bound, held_cells}
use Rattle.held_places.specs.Calls.{Goes, StillKnown}
use Rattle.held_places.proofs.Going.{many_held, target_still}
use Rattle.held_places.proofs.ReadValues.{last_held}
use Rattle.trails.specs.Asks.{gave_at}
use Rattle.cell_making.specs.Resting.{HasPass, Rests}
use Rattle.cell_making.proofs.OneRead.{found_word, held_as, may_read, newest_known, one_longer}
use Rattle.cell_making.proofs.OneRead.{stays_loose, was, word_found}
use Rattle.example_root.specs.Holding.{Has, HasBox, HoldsBox, HoldsRecord, HoldsSome}
use Rattle.example_root.specs.ReadBack.{ReadsBox}
use Rattle.example_root.specs.Rule.{HasKept, kept_term, number_record}
use Rattle.example_root.specs.declared.kept.Kept.{Kept}
use Rattle.example_root.proofs.Words.{anchor_word, box_in, kept_word, record_number}

-- a call that leaves the pass as it was leaves what is kept
pub has_of : (pass : Kept) (a b : Bound Kept) → HasPass pass a b → Has pass.number a b
has_of pass a b has = record {
  heap = has.heap;
  number_is = has.number_is;
  kept = ap (λ (p : Kept). p.number) has.pass_is;
}

-- what was known of the box is still known
pub box_still : (a b : Bound Kept) (cells : List ℕ) → held_cells b ≡ held_cells a ++ cells
    → StillKnown no_field_is_fixed (known_of a.seat.me 1) (known_of b.seat.me 1)
    → HasBox a → HasBox b
box_still a b cells held still has =
    let boxed = subst (λ (k : Known). StillKnown no_field_is_fixed k (known_of b.seat.me 1))
    has.known still in
    record {
      there =
          let many = many_held a b cells held in
          let there = has.there in omega (arith, many, there);
      cell = target_still a b cells held 1 has.there ∙ has.cell;
      told = boxed.0;
      known = boxed.1.0;
    }

-- The anchor.

module _ (a b : Bound Kept) (heap : b.heap ≡ a.heap) (table : b.seat.table ≡ a.seat.table)
    (at : Rests 8 a) (found : Field)
    (step : AtEvent HasKept no_field_is_fixed a.seat.me (event.Read a.seat.me.number 0 0)
    same_pass (finds.Field found) b.seat.me) where
  abbrev s : State
  s = step.core

  abbrev l : Lore
  l = step.lore

  abbrev first_there : 0 < length a.seat.me.own.held
  first_there = at.loose.is_in.some

  word : field_of s 0 0 ≡ field.Cell 1
  word = anchor_word s l step.mine.shown.facts step.passes step.kept

  found_is : found ≡ field.Cell 1
  found_is = found_word a b heap table 0 0 first_there found step 0 (field.Cell 1)
      at.loose.is_in.anchor word

  pub holds_box : HoldsBox b
  holds_box =
      let long = one_longer a b heap table 0 0 first_there found step 1 found_is in
      let one = at.alone in
      let two : length b.seat.me.own.held ≡ 2 = omega (arith, long, one) in
      record {
        loose = stays_loose a b heap table 0 0 first_there found step 8 at.loose;
        two = two;
        box = record {
          there = omega (arith, two);
          cell = ap (λ (n : ℕ). target b.seat.me n) (sym at.alone)
              ∙ last_held a b 1
              (held_as a b heap table 0 0 first_there found step (field.Cell 1) found_is);
          told = five_plain (payload_of s l 1);
          known = ap (λ (n : ℕ). known_of b.seat.me n) (sym at.alone)
              ∙ newest_known a b heap table 0 0 first_there found step 1 found_is
              ∙ ap (learned_from s l)
              (word_found a b heap table 0 0 first_there found step 0 (field.Cell 1)
              at.loose.is_in.anchor word)
              ∙ learned_box no_field_is_fixed s l step.mine.shown.facts 1
              (box_in s l step.mine.shown.facts step.passes step.kept) (λ e. absurd cc);
        };
      }

  -- and what the trail shows of it
  pub reads_anchor : Goes (gave_at 0 0 (field.Cell 1) ∷ []) a b
  reads_anchor =
      subst (λ (x : ℕ). Goes (gave_at x 0 (field.Cell 1) ∷ []) a b) at.loose.is_in.anchor
      (subst (λ (w : Field). Goes (gave_at (target a.seat.me 0) 0 w ∷ []) a b) found_is
      (was a b heap table 0 0 first_there found step).goes)

-- The box.

module _ (a b : Bound Kept) (heap : b.heap ≡ a.heap) (table : b.seat.table ≡ a.seat.table)
    (at : HoldsBox a) (found : Field)
    (step : AtEvent HasKept no_field_is_fixed a.seat.me (event.Read a.seat.me.number 1 0)
    same_pass (finds.Field found) b.seat.me) where
  kept_here : a.seat.me.number ≡ 0 → (n : ℕ) → a.seat.me.pass.number ≡ Some n
      → (c : ℕ) × ((field_of step.core 1 0 ≡ field.Cell c)
      × (step.lore.terms c ≡ Some (number_record n)))
  kept_here first n keeps =
      let own : get_elem? step.passes 0 ≡ some a.seat.me.pass =
      subst (λ (i : ℕ). get_elem? step.passes i ≡ some a.seat.me.pass) first step.pass in
      kept_word step.core step.lore step.mine.shown.facts step.passes step.kept n
      (step.kept.kept a.seat.me.pass own
      ∙ ap (λ (k : Option ℕ). Plain (kept_term k)) keeps)

  -- what the trail shows of it
  pub reads_box : a.seat.me.number ≡ 0 → (n : ℕ) → a.seat.me.pass.number ≡ Some n
      → ReadsBox a b
  reads_box first n keeps =
      let word = kept_here first n keeps in
      let c = word.0 in
      let is = found_word a b heap table 1 0 at.box.there found step 1 (field.Cell c) at.box.cell
      word.1.0 in
      record {
        cell = c;
        reads = subst (λ (x : ℕ). Goes (gave_at x 0 (field.Cell c) ∷ []) a b) at.box.cell
            (subst (λ (w : Field). Goes (gave_at (target a.seat.me 1) 0 w ∷ []) a b) is
            (was a b heap table 1 0 at.box.there found step).goes);
        held = ap (λ (k : ℕ). target b.seat.me k) (sym at.two)
            ∙ last_held a b c
            (held_as a b heap table 1 0 at.box.there found step (field.Cell c) is);
      }

  pub holds_kept : a.seat.me.number ≡ 0 → (n : ℕ) → a.seat.me.pass.number ≡ Some n
      → HoldsRecord n b
  holds_kept first n keeps =
      let facts = step.mine.shown.facts in
      let word = kept_here first n keeps in
      let c = word.0 in
      let is = found_word a b heap table 1 0 at.box.there found step 1 (field.Cell c) at.box.cell
      word.1.0 in
      let held = held_as a b heap table 1 0 at.box.there found step (field.Cell c) is in
      let long = one_longer a b heap table 1 0 at.box.there found step c is in
      let two = at.two in
      record {
        loose = stays_loose a b heap table 1 0 at.box.there found step 8 at.loose;
        three = omega (arith, long, two);
        box = box_still a b (c ∷ []) held
            ((was a b heap table 1 0 at.box.there found step).holds.known 1 at.box.there) at.box;
        known = ap (λ (m : ℕ). known_of b.seat.me m) (sym at.two)
            ∙ newest_known a b heap table 1 0 at.box.there found step c is
            ∙ ap (learned_from step.core step.lore)
            (word_found a b heap table 1 0 at.box.there found step 1 (field.Cell c) at.box.cell
            word.1.0)
            ∙ learned_record no_field_is_fixed step.core step.lore facts c (number_record n)
            word.1.1;
      }

pub may_read_box : (a : Bound Kept) → HoldsBox a → MayRead a.seat.me 1 0
may_read_box a at =
    may_read 8 a 1 0 at.loose at.box.there (let two = at.two in omega (arith, two)) (omega arith)

-- The record.

pub record_there : (n : ℕ) (a : Bound Kept) → HoldsRecord n a → 2 < length a.seat.me.own.held
record_there n a at = let three = at.three in omega (arith, three)

module _ (a b : Bound Kept) (heap : b.heap ≡ a.heap) (table : b.seat.table ≡ a.seat.table)
    (n : ℕ) (at : HoldsRecord n a) (found : Field)
    (step : AtEvent HasKept no_field_is_fixed a.seat.me (event.Read a.seat.me.number 2 0)
    same_pass (finds.Field found) b.seat.me) where
  there : 2 < length a.seat.me.own.held
  there = record_there n a at

  pub number_found : found ≡ field.Num n
  number_found =
      let x = target a.seat.me 2 in
      let is : IsKnown no_field_is_fixed step.core step.lore a.seat.me.number x
      (knows.Record (number_record n)) =
      subst (λ (k : Known). IsKnown no_field_is_fixed step.core step.lore a.seat.me.number x k)
      at.known (knows_place a.seat.me step.core step.lore step.mine 2 there) in
      found_word a b heap table 2 0 there found step x (field.Num n) refl
      (record_number step.core step.lore step.mine.shown.facts x n
      (reached_place a.seat.me step.core step.lore step.mine 2 there) is.1)

  pub holds_still : HoldsRecord n b
  holds_still =
      let read = was a b heap table 2 0 there found step in
      let held : held_cells b ≡ held_cells a ++ [] =
      held_as a b heap table 2 0 there found step (field.Num n) number_found in
      let many = many_held a b [] held in
      let three = at.three in
      record {
        loose = stays_loose a b heap table 2 0 there found step 8 at.loose;
        three = omega (arith, many, three);
        box = box_still a b [] held (read.holds.known 1 at.box.there) at.box;
        known = subst (λ (k : Known). StillKnown no_field_is_fixed k (known_of b.seat.me 2))
            at.known (read.holds.known 2 there);
      }

-- the number that was read is that of the record
pub number_is : (a b : Bound Kept) (heap : b.heap ≡ a.heap)
    (table : b.seat.table ≡ a.seat.table) (found : Field)
    (step : AtEvent HasKept no_field_is_fixed a.seat.me (event.Read a.seat.me.number 2 0)
    same_pass (finds.Field found) b.seat.me) (read n : ℕ) → found ≡ field.Num read
    → HoldsRecord n a → read ≡ n
number_is a b heap table found step read n is at =
    let same : field.Num read ≡ field.Num n =
    sym is ∙ number_found a b heap table n at found step in cc

pub holds_read : (a b : Bound Kept) (heap : b.heap ≡ a.heap)
    (table : b.seat.table ≡ a.seat.table) (has : HoldsSome a) (found : Field)
    (step : AtEvent HasKept no_field_is_fixed a.seat.me (event.Read a.seat.me.number 2 0)
    same_pass (finds.Field found) b.seat.me) (read : ℕ) → found ≡ field.Num read
    → HoldsRecord read b
holds_read a b heap table has found step read is =
    subst (λ (n : ℕ). HoldsRecord n b)
    (sym (number_is a b heap table found step read has.number is has.holds))
    (holds_still a b heap table has.number has.holds found step)

pub may_read_record : (a : Bound Kept) → HoldsSome a → MayRead a.seat.me 2 0
may_read_record a has =
    may_read 8 a 2 0 has.holds.loose (record_there has.number a has.holds)
    (let three = has.holds.three in omega (arith, three)) (omega arith)

-- what the trail shows of the record
pub reads_number : (a b : Bound Kept) (heap : b.heap ≡ a.heap)
    (table : b.seat.table ≡ a.seat.table) (has : HoldsSome a) (found : Field)
    (step : AtEvent HasKept no_field_is_fixed a.seat.me (event.Read a.seat.me.number 2 0)
    same_pass (finds.Field found) b.seat.me) (read : ℕ) → found ≡ field.Num read
    → Goes (gave_at (target a.seat.me 2) 0 (field.Num read) ∷ []) a b
reads_number a b heap table has found step read is =
    subst (λ (w : Field). Goes (gave_at (target a.seat.me 2) 0 w ∷ []) a b) is
    (was a b heap table 2 0 (record_there has.number a has.holds) found step).goes
