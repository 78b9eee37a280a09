-- One read by a mutator that works from the anchor on: what it needs, what it finds, and what is
-- then held and known.
use Rattle.std.proofs.Common.{◌≡◌, ◌<◌, ◌≤◌, ◌+◌, ◌∷◌, ◌++◌, ℕ, Bool, List, [], length}
use Rattle.std.proofs.Common.{sym, ◌∙◌, ap, arith}
use Rattle.cell_words.specs.declared.fields.Field.{Field}
use Rattle.cell_words.specs.declared.fields.Field.TheVariants as field
use Rattle.core_machine.specs.declared.events.Event.TheVariants as event
use Rattle.core_machine.specs.declared.events.Found.TheVariants as finds
use Rattle.core_machine.specs.State.{field_of, target_of}
use Rattle.heap_rule.specs.Asks.{MayRead, known_of, target}
use Rattle.heap_rule.specs.Boxes.{Map}
use Rattle.heap_rule.specs.Lore.{learned, learned_from}
use Rattle.heap_rule.specs.Steps.{same_pass}
use Rattle.heap_rule.proofs.AfterReads.{found_known}
use Rattle.heap_rule.proofs.Seats.{target_now}
use Rattle.held_places.specs.Calls.{WasRead, cells_found}
use Rattle.held_places.proofs.Going.{many_held}
use Rattle.held_places.proofs.Steps.{same_value, was_read}
use Rattle.mutator_events.specs.Events.{AtEvent}
use Rattle.mutator_seat.specs.Bound.{Bound, held_cells}
use Rattle.cell_making.specs.Resting.{HasPass, Loose, Rests}
use Rattle.cell_making.proofs.Resting.{has_goes, loose_goes}

pub may_read : {P : Type 0} (room : ℕ) (m : Bound P) (place f : ℕ) → Loose room m
    → place < length m.seat.me.own.held → length m.seat.me.own.held < room → f ≤ 4
    → MayRead m.seat.me place f
may_read room m place f at there less payload = record {
  inside = at.is_in.inside;
  there = there;
  payload = payload;
  room = let is = at.room_is in omega (arith, less, is);
}

pub may_read_anchor : {P : Type 0} (room : ℕ) (m : Bound P) → Rests room m → 1 < room
    → MayRead m.seat.me 0 0
may_read_anchor room m at more =
    may_read room m 0 0 at.loose at.loose.is_in.some
    (let one = at.alone in omega (arith, one, more)) (omega arith)

module _ {P : Type 0} {holds : Map → List P → Type 0} {fixed : ℕ → Bool} (a b : Bound P)
    (heap : b.heap ≡ a.heap) (table : b.seat.table ≡ a.seat.table) (place f : ℕ)
    (there : place < length a.seat.me.own.held) (found : Field)
    (step : AtEvent holds fixed a.seat.me (event.Read a.seat.me.number place f) same_pass
    (finds.Field found) b.seat.me) where
  pub was : WasRead fixed a b place f found
  was = was_read fixed holds same_pass a b place f found heap table there step

  pub reads_none : HasPass a.seat.me.pass a b
  reads_none = has_goes _ a.seat.me.pass a b was.goes (ap (λ v. v.pass) step.new)

  pub stays_loose : (room : ℕ) → Loose room a → Loose room b
  stays_loose room = loose_goes room a b (cells_found found) was.holds.held _ was.goes

  -- what was found is held after all else, if it is a cell
  pub held_as : (w : Field) → found ≡ w → held_cells b ≡ held_cells a ++ cells_found w
  held_as w is = was.holds.held ∙ ap (λ (v : Field). held_cells a ++ cells_found v) is

  module _ (c : ℕ) (is : found ≡ field.Cell c) where
    pub one_longer : length b.seat.me.own.held ≡ length a.seat.me.own.held + 1
    one_longer = many_held a b (c ∷ []) (held_as (field.Cell c) is)

    pub newest_known : known_of b.seat.me (length a.seat.me.own.held)
        ≡ learned_from step.core step.lore
        (field_of step.core (target_of step.core a.seat.me.number place) f)
    newest_known =
        found_known fixed a.seat.me b.seat.me step.core step.lore step.mine place f
        (finds.Field found)
        (learned step.core step.lore (event.Read a.seat.me.number place f)) a.seat.me.pass
        step.new c (ap finds.Field is)

  -- the word that was there
  pub word_found : (x : ℕ) (w : Field) → target a.seat.me place ≡ x → field_of step.core x f ≡ w
      → field_of step.core (target_of step.core a.seat.me.number place) f ≡ w
  word_found x w at is =
      ap (λ (y : ℕ). field_of step.core y f)
      (target_now a.seat.me step.core step.lore step.mine place ∙ at)
      ∙ is

  pub found_word : (x : ℕ) (w : Field) → target a.seat.me place ≡ x → field_of step.core x f ≡ w
      → found ≡ w
  found_word x w at is =
      same_value found w (sym step.found_is ∙ ap finds.Field (word_found x w at is))
