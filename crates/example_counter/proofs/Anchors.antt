-- What a read of the anchor tells, and a read of the record that it names.
use Rattle.std.proofs.Common.{◌≡◌, ◌∙◌, ◌+◌, ◌∷◌, ◌++◌, ℕ, List, [], Bool, true, false}
use Rattle.std.proofs.Common.{Option, Some, None, ap, sym, subst, refl, arith, length}
use Rattle.std.proofs.Common.{if◌then◌else◌}
use Rattle.std.specs.Prelude.{slice_index_or}
use Rattle.cell_words.specs.Term.{Term}
use Rattle.cell_words.specs.declared.fields.Field.{Field}
use Rattle.cell_words.specs.declared.fields.Field.TheVariants as word
use Rattle.core_machine.specs.declared.events.Event.TheVariants as event
use Rattle.core_machine.specs.declared.events.Found.{Found}
use Rattle.core_machine.specs.declared.events.Found.TheVariants as finds
use Rattle.core_machine.specs.Own.{Own}
use Rattle.core_machine.specs.Places.{cell_at}
use Rattle.core_machine.specs.State.{field_of, target_of}
use Rattle.heap_rule.specs.Asks.{MayRead}
use Rattle.heap_rule.specs.Lore.{Entry, Plain, at_cell, cells_in, entry_of}
use Rattle.heap_rule.specs.Lore.{known_read, learned, learned_from, named_or, term_of}
use Rattle.heap_rule.specs.Lore.{told as told_more, told_of}
use Rattle.heap_rule.specs.NoRule.{no_field_is_fixed}
use Rattle.heap_rule.specs.Rule.{told}
use Rattle.heap_rule.specs.Steps.{same_pass}
use Rattle.heap_rule.specs.declared.known.Known.{Known}
use Rattle.heap_rule.specs.declared.known.Known.TheVariants as knows
use Rattle.heap_rule.specs.declared.known.Learned.{Learned}
use Rattle.heap_rule.specs.declared.view.View.{View}
use Rattle.heap_rule.proofs.Reading.{cell_there, cells_more}
use Rattle.mutator_events.specs.Events.{AtEvent}
use Rattle.mutator_events.specs.declared.values.Value.{Value}
use Rattle.mutator_events.specs.Values.{value_found}
use Rattle.mutator_events.proofs.HeldCells.{cells_many}
use Rattle.mutator_seat.specs.Bound.{Bound, held_cells}
use Rattle.example_counter.specs.Adding.{Adds, HoldsSome, IfHeld}
use Rattle.example_counter.specs.Adding.{Rests}
use Rattle.example_counter.specs.Counting.{Counts, number_record, sum_of}
use Rattle.example_counter.specs.declared.counter.Added.{Added}
use Rattle.example_counter.proofs.Picks.{counter_is}

-- what is told of a cell leaves a record
told_record : (h : Known) (t : Term) → told_more h (knows.Record t) ≡ knows.Record t
told_record knows.Nothing t = refl
told_record (knows.Raw fields) t = refl
told_record (knows.Fresh fields) t = refl
told_record (knows.Record u) t = refl
told_record (knows.Boxed terms) t = refl

pub told_if : (b : Bool) (h : Known) (t : Term)
    → (if b then told_more h (knows.Record t) else knows.Record t) ≡ knows.Record t
told_if true h t = told_record h t
told_if false h t = refl

abbrev pub found_field : Found → Field
found_field (finds.Field f) = f
found_field _ = word.Null

-- if the entry is a record's term, that is the term of the cell
pub named_term : (c : ℕ) (t : Option Term) (u : Term) → named_or c t ≡ Plain u → t ≡ Some u
named_term c None u is = absurd cc
named_term c (Some t) u is = ap (λ (e : Entry). Some (term_of e)) is

told_term : (a b : Bool) (t : Term) (o : Option Term) (f : Option ℕ) (p : List (Option Term))
    → o ≡ Some t → told_of a b o f p ≡ knows.Record t
told_term a b t o f p is = ap (λ (u : Option Term). told_of a b u f p) is

module _ (a b : Bound Added) (found : Field) where
  pub adds_read : (place : ℕ) → b.heap ≡ a.heap
      → AtEvent Counts no_field_is_fixed a.seat.me (event.Read a.seat.me.number place 0) same_pass
      (finds.Field found) b.seat.me
      → Adds 0 a b
  adds_read place heap step = record {
    heap = heap;
    number = ap (λ (v : View Added). v.number) step.new;
    pass = ap (λ (v : View Added). v.pass) step.new
        ∙ (λ i. record {
          sum = (let e : a.seat.me.pass.sum ≡ a.seat.me.pass.sum + 0
              = omega arith in e) i;
        });
  }

  module _ (at : Rests a) (heap : b.heap ≡ a.heap)
      (step : AtEvent Counts no_field_is_fixed a.seat.me (event.Read a.seat.me.number 0 0) same_pass
      (finds.Field found) b.seat.me) where
    target_is : target_of step.core a.seat.me.number 0 ≡ 0
    target_is =
        ap (λ (o : Own). cell_at o.held 0) step.mine.own ∙ sym (cell_there a.seat.me.own.held 0)
        ∙ ap (λ (cs : List ℕ). slice_index_or cs 0 0) at.held

    found_at : field_of step.core (target_of step.core a.seat.me.number 0) 0 ≡ found
    found_at = ap found_field step.found_is

    count : ℕ
    count = sum_of step.passes

    entry_is : entry_of step.lore.terms found ≡ Plain (number_record count)
    unfolding count
    entry_is =
        ap (entry_of step.lore.terms)
        (sym found_at ∙ ap (λ (x : ℕ). field_of step.core x 0) target_is)
        ∙ counter_is step.core step.lore step.passes step.kept

    tells : Learned
    tells = learned step.core step.lore (event.Read a.seat.me.number 0 0)

    known_front : at_cell (told_more tells.here) (slice_index_or (held_cells a) 0 0) (held_cells a)
        a.seat.me.known ≡ told_more tells.here at.first ∷ []
    known_front =
        ap (λ (cs : List ℕ). at_cell (told_more tells.here) (slice_index_or cs 0 0) cs
        a.seat.me.known) at.held
        ∙ ap (λ (ks : List Known). at_cell (told_more tells.here) 0 (0 ∷ []) ks) at.known

    pub rests_on : (w : Field) → found ≡ w → ((c : ℕ) → w ≡ word.Cell c → ⊥) → Rests b
    unfolding tells
    rests_on word.Null is none = record {
      inside = ap (λ (v : View Added). v.presence.inside) step.new ∙ at.inside;
      held = ap (λ (v : View Added). cells_in v.own.held) step.new
          ∙ ap (λ (w : Field). cells_in (told a.seat.me (event.Read a.seat.me.number 0 0)
          (finds.Field w) tells a.seat.me.pass).own.held) is ∙ at.held;
      first = told_more tells.here at.first;
      known = ap (λ (v : View Added). v.known) step.new
          ∙ ap (λ (w : Field). known_read (held_cells a) a.seat.me.known 0 tells
          (finds.Field w)) is ∙ known_front;
      room = ap (λ (v : View Added). v.room) step.new ∙ at.room;
    }
    rests_on (word.Num n) is none = record {
      inside = ap (λ (v : View Added). v.presence.inside) step.new ∙ at.inside;
      held = ap (λ (v : View Added). cells_in v.own.held) step.new
          ∙ ap (λ (w : Field). cells_in (told a.seat.me (event.Read a.seat.me.number 0 0)
          (finds.Field w) tells a.seat.me.pass).own.held) is ∙ at.held;
      first = told_more tells.here at.first;
      known = ap (λ (v : View Added). v.known) step.new
          ∙ ap (λ (w : Field). known_read (held_cells a) a.seat.me.known 0 tells
          (finds.Field w)) is ∙ known_front;
      room = ap (λ (v : View Added). v.room) step.new ∙ at.room;
    }
    rests_on (word.Cell c) is none = absurd (none c refl)

    pub holds_on : (c : ℕ) → found ≡ word.Cell c → HoldsSome b
    unfolding tells
    holds_on c is =
        let term : step.lore.terms c ≡ Some (number_record count) =
        named_term c (step.lore.terms c) (number_record count)
        (sym (ap (entry_of step.lore.terms) is) ∙ entry_is) in
        let found_known : tells.found ≡ knows.Record (number_record count) =
        ap (λ (w : Field). learned_from step.core step.lore w) (found_at ∙ is)
        ∙ told_term _ _ (number_record count) (step.lore.terms c) _ _ term in
        record {
          count = count;
          holds = record {
            cell = c;
            holds = record {
              inside = ap (λ (v : View Added). v.presence.inside) step.new ∙ at.inside;
              held = ap (λ (v : View Added). cells_in v.own.held) step.new
                  ∙ ap (λ (w : Field). cells_in (told a.seat.me
                  (event.Read a.seat.me.number 0 0) (finds.Field w) tells
                  a.seat.me.pass).own.held) is
                  ∙ cells_more a.seat.me.own.held c ∙ ap (λ (cs : List ℕ). cs ++ c ∷ []) at.held;
              first = told_more tells.here at.first;
              known = ap (λ (v : View Added). v.known) step.new
                  ∙ ap (λ (w : Field). known_read (held_cells a) a.seat.me.known 0 tells
                  (finds.Field w)) is
                  ∙ (λ i. known_front i ++ found_known i ∷ []);
              room = ap (λ (v : View Added). v.room) step.new ∙ at.room;
            };
          };
        }

    pub found_held : (result : Value) → result ≡ value_found (length a.seat.me.own.held) found
        → IfHeld result (HoldsSome b) (Rests b)
    found_held result is = by_found found refl
      where
        many : length a.seat.me.own.held ≡ 1
        many = sym (cells_many a.seat.me.own.held) ∙ ap (λ (cs : List ℕ). length cs) at.held

        by_found : (w : Field) → found ≡ w → IfHeld result (HoldsSome b) (Rests b)
        by_found word.Null same = subst (λ (v : Value). IfHeld v (HoldsSome b) (Rests b))
            (sym (is ∙ ap (value_found (length a.seat.me.own.held)) same))
            (rests_on word.Null same (λ c e. absurd cc))
        by_found (word.Num n) same = subst (λ (v : Value). IfHeld v (HoldsSome b) (Rests b))
            (sym (is ∙ ap (value_found (length a.seat.me.own.held)) same))
            (rests_on (word.Num n) same (λ c e. absurd cc))
        by_found (word.Cell c) same = subst (λ (v : Value). IfHeld v (HoldsSome b) (Rests b))
            (sym (is ∙ ap (value_found (length a.seat.me.own.held)) same))
            (many, holds_on c same)

pub may_read_anchor : (a : Bound Added) → Rests a → MayRead a.seat.me 0 0
may_read_anchor a at =
    let many : length a.seat.me.own.held ≡ 1 =
    sym (cells_many a.seat.me.own.held) ∙ ap (λ (cs : List ℕ). length cs) at.held in
    record {
      inside = at.inside;
      there = omega (arith, many);
      payload = omega arith;
      room = omega (arith, many, at.room);
    }
