-- What a read of the record tells: its number, where it finds one.
use Rattle.std.proofs.Common.{◌≡◌, ◌∙◌, ◌==◌, ◌∷◌, ◌++◌, ℕ, List, [], Bool, true}
use Rattle.std.proofs.Common.{Option, Some, None, ap, sym, subst, refl, arith, length}
use Rattle.std.proofs.Common.{if◌then◌else◌}
use Rattle.std.specs.Prelude.{slice_index_or}
use Rattle.cell_words.specs.Term.{Term, null, number, part}
use Rattle.cell_words.specs.declared.fields.Field.{Field}
use Rattle.cell_words.specs.declared.fields.Field.TheVariants as word
use Rattle.core_machine.specs.declared.events.Event.TheVariants as event
use Rattle.core_machine.specs.declared.events.Found.TheVariants as finds
use Rattle.core_machine.specs.Own.{Own}
use Rattle.core_machine.specs.Places.{cell_at}
use Rattle.core_machine.specs.State.{field_of, target_of}
use Rattle.dlg_core.specs.Reachable.{Reachable}
use Rattle.heap_rule.specs.Asks.{MayRead}
use Rattle.heap_rule.specs.Facts.{AllKnown, IsKnown, TermFits, is_record_kind}
use Rattle.heap_rule.specs.Lore.{at_cell, cells_in, cells_of, entry_of, five_of, has, known_read}
use Rattle.heap_rule.specs.Lore.{learned, term_of}
use Rattle.heap_rule.specs.Lore.{told as told_more}
use Rattle.heap_rule.specs.NoRule.{no_field_is_fixed}
use Rattle.heap_rule.specs.Rule.{told}
use Rattle.heap_rule.specs.Steps.{same_pass}
use Rattle.heap_rule.specs.declared.known.Known.{Known}
use Rattle.heap_rule.specs.declared.known.Known.TheVariants as knows
use Rattle.heap_rule.specs.declared.known.Learned.{Learned}
use Rattle.heap_rule.specs.declared.view.View.{View}
use Rattle.heap_rule.proofs.Lists.{has_at, reached_held}
use Rattle.heap_rule.proofs.Reading.{cell_there, cells_more}
use Rattle.mutator_events.specs.Events.{AtEvent}
use Rattle.mutator_events.specs.declared.values.Value.{Value}
use Rattle.mutator_events.specs.Values.{value_found}
use Rattle.mutator_events.proofs.HeldCells.{cells_many}
use Rattle.mutator_seat.specs.Bound.{Bound, held_cells}
use Rattle.promotion.proofs.Filling.{known_now}
use Rattle.example_counter.specs.Adding.{Holds, HoldsCount, HoldsSome, IfNumber, Loose}
use Rattle.example_counter.specs.Counting.{Counts, number_record}
use Rattle.example_counter.specs.declared.counter.Added.{Added}
use Rattle.example_counter.proofs.Anchors.{found_field, told_if}

some_term : Option Term → Term
some_term None = null
some_term (Some t) = t

module _ (a b : Bound Added) (found : Field) (at : HoldsSome a)
    (step : AtEvent Counts no_field_is_fixed a.seat.me (event.Read a.seat.me.number 1 0) same_pass
    (finds.Field found) b.seat.me) where
  abbrev c : ℕ
  c = at.holds.cell

  abbrev so : Holds (c ∷ []) (knows.Record (number_record at.count) ∷ []) a
  so = at.holds.holds

  abbrev Now : ℕ → Known → Type 0
  Now = IsKnown no_field_is_fixed step.core step.lore a.seat.me.number

  target_is : target_of step.core a.seat.me.number 1 ≡ c
  target_is =
      ap (λ (o : Own). cell_at o.held 1) step.mine.own ∙ sym (cell_there a.seat.me.own.held 1)
      ∙ ap (λ (cs : List ℕ). slice_index_or cs 1 0) so.held

  all_now : AllKnown Now (0 ∷ c ∷ []) (so.first ∷ knows.Record (number_record at.count) ∷ [])
  all_now =
      subst (λ (ks : List Known). AllKnown Now (0 ∷ c ∷ []) ks) so.known
      (subst (λ (cs : List ℕ). AllKnown Now cs a.seat.me.known) so.held
      (known_now a.seat.me step.core step.lore step.mine))

  cells_are : cells_of step.core a.seat.me.number ≡ 0 ∷ c ∷ []
  cells_are = ap (λ (o : Own). cells_in o.held) step.mine.own ∙ so.held

  reached : Reachable step.core c
  reached = reached_held step.core a.seat.me.number c step.mine.shown.consistent
      (subst (λ (cs : List ℕ). has cs c ≡ true) (sym cells_are)
      (has_at (0 ∷ c ∷ []) 1 (omega arith)))

  term_is : step.lore.terms c ≡ Some (five_of step.lore.terms (field_of step.core c))
  term_is =
      let fits = subst (λ (k : Bool). TermFits k step.lore.terms (field_of step.core c)
      (step.lore.terms c)) (ap is_record_kind all_now.1.0.0)
      (step.mine.shown.facts.termed c reached) in fits.0

  -- the record that is held has the number that was found
  count_found : (n : ℕ) → found ≡ word.Num n → at.count ≡ n
  unfolding some_term
  count_found n is =
      let there : field_of step.core c 0 ≡ word.Num n =
      ap (λ (x : ℕ). field_of step.core x 0) (sym target_is) ∙ ap found_field step.found_is ∙ is in
      let same : number_record at.count ≡ five_of step.lore.terms (field_of step.core c) =
      ap some_term (sym all_now.1.0.1 ∙ term_is) in
      ap (λ (t : Term). number (part 0 t)) same
      ∙ ap (λ (w : Field). number (term_of (entry_of step.lore.terms w))) there

  tells : Learned
  tells = learned step.core step.lore (event.Read a.seat.me.number 1 0)

  abbrev first_after : Known
  first_after = if 0 == c then told_more tells.here so.first else so.first

  known_front : at_cell (told_more tells.here) (slice_index_or (held_cells a) 1 0) (held_cells a)
      a.seat.me.known ≡ first_after ∷ knows.Record (number_record at.count) ∷ []
  known_front =
      ap (λ (cs : List ℕ). at_cell (told_more tells.here) (slice_index_or cs 1 0) cs
      a.seat.me.known) so.held
      ∙ ap (λ (ks : List Known). at_cell (told_more tells.here) c (0 ∷ c ∷ []) ks) so.known
      ∙ ap (λ (k : Known). first_after ∷ k ∷ [])
      (told_if (c == c) tells.here (number_record at.count))

  held_as : (w : Field) → found ≡ w
      → held_cells b ≡ cells_in (told a.seat.me (event.Read a.seat.me.number 1 0) (finds.Field w)
      tells a.seat.me.pass).own.held
  unfolding tells
  held_as w is =
      ap (λ (v : View Added). cells_in v.own.held) step.new
      ∙ ap (λ (x : Field). cells_in (told a.seat.me (event.Read a.seat.me.number 1 0)
      (finds.Field x) tells a.seat.me.pass).own.held) is

  known_as : (w : Field) → found ≡ w
      → b.seat.me.known ≡ known_read (held_cells a) a.seat.me.known 1 tells (finds.Field w)
  unfolding tells
  known_as w is =
      ap (λ (v : View Added). v.known) step.new
      ∙ ap (λ (x : Field). known_read (held_cells a) a.seat.me.known 1 tells (finds.Field x)) is

  same_holds : (w : Field) → found ≡ w
      → cells_in (told a.seat.me (event.Read a.seat.me.number 1 0) (finds.Field w)
      tells a.seat.me.pass).own.held ≡ held_cells a
      → known_read (held_cells a) a.seat.me.known 1 tells (finds.Field w)
      ≡ at_cell (told_more tells.here) (slice_index_or (held_cells a) 1 0) (held_cells a)
      a.seat.me.known
      → Holds (c ∷ []) (knows.Record (number_record at.count) ∷ []) b
  same_holds w is held known = record {
    inside = ap (λ (v : View Added). v.presence.inside) step.new ∙ so.inside;
    held = held_as w is ∙ held ∙ so.held;
    first = first_after;
    known = known_as w is ∙ known ∙ known_front;
    room = ap (λ (v : View Added). v.room) step.new ∙ so.room;
  }

  more_holds : (d : ℕ) → found ≡ word.Cell d
      → Holds (c ∷ d ∷ []) (knows.Record (number_record at.count) ∷ tells.found ∷ []) b
  more_holds d is = record {
    inside = ap (λ (v : View Added). v.presence.inside) step.new ∙ so.inside;
    held = held_as (word.Cell d) is ∙ cells_more a.seat.me.own.held d
        ∙ ap (λ (cs : List ℕ). cs ++ d ∷ []) so.held;
    first = first_after;
    known = known_as (word.Cell d) is ∙ ap (λ (ks : List Known). ks ++ tells.found ∷ []) known_front;
    room = ap (λ (v : View Added). v.room) step.new ∙ so.room;
  }

  pub number_found : (result : Value) → result ≡ value_found (length a.seat.me.own.held) found
      → IfNumber result (λ n. HoldsCount n b) (Loose b)
  number_found result is = by_found found refl
    where
      by_found : (w : Field) → found ≡ w → IfNumber result (λ n. HoldsCount n b) (Loose b)
      by_found word.Null same =
          subst (λ (v : Value). IfNumber v (λ n. HoldsCount n b) (Loose b))
          (sym (is ∙ ap (value_found (length a.seat.me.own.held)) same)) record {
            cells = c ∷ [];
            more = knows.Record (number_record at.count) ∷ [];
            holds = same_holds word.Null same refl refl;
          }
      by_found (word.Num n) same =
          subst (λ (v : Value). IfNumber v (λ n. HoldsCount n b) (Loose b))
          (sym (is ∙ ap (value_found (length a.seat.me.own.held)) same)) record {
            cell = c;
            holds = subst (λ (k : ℕ). Holds (c ∷ []) (knows.Record (number_record k) ∷ []) b)
                (count_found n same) (same_holds (word.Num n) same refl refl);
          }
      by_found (word.Cell d) same =
          subst (λ (v : Value). IfNumber v (λ n. HoldsCount n b) (Loose b))
          (sym (is ∙ ap (value_found (length a.seat.me.own.held)) same)) record {
            cells = c ∷ d ∷ [];
            more = knows.Record (number_record at.count) ∷ tells.found ∷ [];
            holds = more_holds d same;
          }

pub may_read_record : (a : Bound Added) → HoldsSome a → MayRead a.seat.me 1 0
may_read_record a some =
    let at = some.holds.holds in
    let many : length a.seat.me.own.held ≡ 2 =
    sym (cells_many a.seat.me.own.held) ∙ ap (λ (cs : List ℕ). length cs) at.held in
    record {
      inside = at.inside;
      there = omega (arith, many);
      payload = omega arith;
      room = omega (arith, many, at.room);
    }
