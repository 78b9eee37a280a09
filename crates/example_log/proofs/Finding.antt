-- What the reads of a thread find: the newest entry, and its number.
use Rattle.std.proofs.Common.{◌≡◌, ◌<◌, ◌+◌, ℕ, List, [], ◌++◌, length, Some}
use Rattle.std.proofs.Common.{refl, sym, ◌∙◌, ap, subst, arith}
use Rattle.cell_words.specs.declared.fields.Field.{Field}
use Rattle.cell_words.specs.declared.fields.Field.TheVariants as field
use Rattle.cell_words.specs.Term.{num}
use Rattle.core_machine.specs.declared.events.Event.TheVariants as event
use Rattle.core_machine.specs.declared.events.Found.TheVariants as finds
use Rattle.core_machine.specs.State.{State, field_of}
use Rattle.heap_rule.specs.declared.known.Known.{Known}
use Rattle.heap_rule.specs.Asks.{MayRead, known_of, target}
use Rattle.heap_rule.specs.Boxes.{boxes_of, payload_of}
use Rattle.heap_rule.specs.Lore.{Lore, five_plain, learned_from, plain}
use Rattle.heap_rule.specs.Steps.{same_pass}
use Rattle.heap_rule.proofs.Entries.{same_entry}
use Rattle.heap_rule.proofs.EntryWords.{learned_box, number_word}
use Rattle.heap_rule.proofs.Maps.{entry_names, in_map, of_map}
use Rattle.mutator_events.specs.Events.{AtEvent}
use Rattle.mutator_seat.specs.Bound.{Bound, held_cells}
use Rattle.held_places.specs.Calls.{StillKnown}
use Rattle.held_places.proofs.Going.{many_held}
use Rattle.cell_making.specs.Resting.{HasPass, Rests}
use Rattle.cell_making.proofs.OneRead.{found_word, held_as, may_read, newest_known, one_longer}
use Rattle.cell_making.proofs.OneRead.{stays_loose, was, word_found}
use Rattle.example_log.specs.Appending.{Appends, HoldsEntry, HoldsSome}
use Rattle.heap_rule.specs.Numbered.{HasNumber}
use Rattle.example_log.specs.Logging.{KeepsLog, KnowsEntry, is_fixed}
use Rattle.example_log.specs.Shrinks.{has_number}
use Rattle.example_log.specs.declared.log.Appended.{Appended}
use Rattle.example_log.proofs.Picks.{Seen, anchor_entry, entry_seen}

-- Calls that append nothing.

pub none_more : (p : Appended) → p ≡ record { count = p.count + 0 }
none_more p = λ i. record { count = (let e : p.count ≡ p.count + 0 = omega arith in e) i }

pub appends_none : (a b : Bound Appended) → HasPass a.seat.me.pass a b → Appends 0 a b
appends_none a b has = record {
  heap = has.heap;
  number = has.number_is;
  pass = has.pass_is ∙ none_more a.seat.me.pass;
}

-- What was known of an entry is still known.

pub entry_still : (a b : Bound Appended) (cells : List ℕ)
    → held_cells b ≡ held_cells a ++ cells → (place number : ℕ)
    → StillKnown is_fixed (known_of a.seat.me place) (known_of b.seat.me place)
    → KnowsEntry a.seat.me place number → KnowsEntry b.seat.me place number
entry_still a b cells held place number still has =
    let boxed = subst (λ (k : Known). StillKnown is_fixed k (known_of b.seat.me place))
    has.known still in
    record {
      told = boxed.0;
      there =
          let many = many_held a b cells held in
          let there = has.there in omega (arith, many, there);
      known = boxed.1.0;
      number_is = boxed.1.1 0 (num number) (omega arith) refl has.number_is;
    }

-- The anchor.

module _ (a b : Bound Appended) (heap : b.heap ≡ a.heap) (table : b.seat.table ≡ a.seat.table)
    (at : Rests 8 a) (found : Field)
    (step : AtEvent KeepsLog is_fixed a.seat.me (event.Read a.seat.me.number 0 0) same_pass
    (finds.Field found) b.seat.me) where
  abbrev s : State
  s = step.core

  abbrev l : Lore
  l = step.lore

  abbrev c : ℕ
  c = step.kept.newest

  abbrev first_there : 0 < length a.seat.me.own.held
  first_there = at.loose.is_in.some

  anchor_word : field_of s 0 0 ≡ field.Cell c
  anchor_word = entry_names l.terms (field_of s 0 0) c
      (anchor_entry s l step.passes step.kept ∙ step.kept.names)

  found_is : found ≡ field.Cell c
  found_is = found_word a b heap table 0 0 first_there found step 0 (field.Cell c)
      at.loose.is_in.anchor anchor_word

  abbrev number : ℕ
  number = length step.kept.writers

  has : HasNumber (boxes_of s l) c number
  has = has_number (boxes_of s l) c step.kept.writers step.kept.chain

  -- the anchor has no number
  other : c ≡ 0 → ⊥
  other is =
      let e : Rattle.heap_rule.specs.Lore.Named c ≡ Rattle.heap_rule.specs.Lore.Plain (num number) =
      sym step.kept.names
      ∙ same_entry (boxes_of s l) 0 0 step.kept.anchor has.box step.kept.anchor_is
      (subst (λ (x : ℕ). boxes_of s l x ≡ Some has.box) is has.there) ∙ has.number_is in
      cc

  number_told : payload_of s l c 0 ≡ has.box 0
  number_told = same_entry (boxes_of s l) c 0 (payload_of s l c) has.box
      (in_map s l c (of_map s l c has.box has.there)) has.there

  two : length b.seat.me.own.held ≡ 2
  two =
      let longer = one_longer a b heap table 0 0 first_there found step c found_is in
      let one = at.alone in omega (arith, longer, one)

  pub holds_newest : HoldsSome b
  holds_newest = record {
    number = number;
    holds = record {
      loose = stays_loose a b heap table 0 0 first_there found step 8 at.loose;
      two = two;
      entry = record {
        told = five_plain (payload_of s l c);
        there = let many = two in omega (arith, many);
        known = ap (known_of b.seat.me) (sym at.alone)
            ∙ newest_known a b heap table 0 0 first_there found step c found_is
            ∙ ap (learned_from s l)
            (word_found a b heap table 0 0 first_there found step 0 (field.Cell c)
            at.loose.is_in.anchor anchor_word)
            ∙ learned_box is_fixed s l step.mine.shown.facts c (of_map s l c has.box has.there)
            other;
        number_is = ap plain (number_told ∙ has.number_is);
      };
    };
  }

-- The number of the entry that is held.

module _ (a b : Bound Appended) (heap : b.heap ≡ a.heap) (table : b.seat.table ≡ a.seat.table)
    (some : HoldsSome a) (found : Field)
    (step : AtEvent KeepsLog is_fixed a.seat.me (event.Read a.seat.me.number 1 0) same_pass
    (finds.Field found) b.seat.me) where
  abbrev holds : HoldsEntry some.number a
  holds = some.holds

  seen : Seen step.core step.lore (target a.seat.me 1) some.number
  seen = entry_seen a.seat.me step.core step.lore step.mine 1 some.number holds.entry

  pub number_found : found ≡ field.Num some.number
  number_found =
      found_word a b heap table 1 0 holds.entry.there found step (target a.seat.me 1)
      (field.Num some.number) refl
      (number_word is_fixed step.core step.lore step.mine.shown.facts (target a.seat.me 1) 0
      some.number seen.in_is.reached seen.number_is)

  pub holds_number : (n : ℕ) → found ≡ field.Num n → HoldsEntry n b
  holds_number n word =
      let read = was a b heap table 1 0 holds.entry.there found step in
      let held : held_cells b ≡ held_cells a ++ [] =
      held_as a b heap table 1 0 holds.entry.there found step (field.Num n) word in
      let number : some.number ≡ n =
      (let e : field.Num some.number ≡ field.Num n = sym number_found ∙ word in cc) in
      record {
        loose = stays_loose a b heap table 1 0 holds.entry.there found step 8 holds.loose;
        two = (let many = many_held a b [] held in let two = holds.two in omega (arith, many, two));
        entry = subst (λ (k : ℕ). KnowsEntry b.seat.me 1 k) number
            (entry_still a b [] held 1 some.number
            (read.holds.known 1 holds.entry.there) holds.entry);
      }

pub may_read_number : (a : Bound Appended) → HoldsSome a → MayRead a.seat.me 1 0
may_read_number a some =
    may_read 8 a 1 0 some.holds.loose some.holds.entry.there
    (let two = some.holds.two in omega (arith, two)) (omega arith)
