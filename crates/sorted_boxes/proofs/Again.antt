-- A call that keeps all places leaves what the next one needs.
use Rattle.std.proofs.Common.{◌≡◌, ◌<◌, ℕ, length, refl, sym, ◌∙◌, subst, arith}
use Rattle.held_places.proofs.Going.{goes_none, goes_then}
use Rattle.mutator_events.specs.declared.values.Value.{Value}
use Rattle.mutator_seat.specs.Bound.{Bound}
use Rattle.mutator_seat.proofs.Writes.{many_same}
use Rattle.sorted_rule.specs.declared.sorting.Sorting.{Sorting}
use Rattle.sorted_boxes.specs.Calls.{KeepsPlaces}
use Rattle.sorted_boxes.specs.Sorts.{IsValue}

pub keeps_none : (a : Bound Sorting) → KeepsPlaces a a
keeps_none a = record { goes = goes_none a; held = refl; pass = refl }

pub keeps_then : (a b c : Bound Sorting) → KeepsPlaces a b → KeepsPlaces b c → KeepsPlaces a c
keeps_then a b c first second = record {
  goes = goes_then first.goes second.goes;
  held = second.held ∙ first.held;
  pass = second.pass ∙ first.pass;
}

module _ (a b : Bound Sorting) (keeps : KeepsPlaces a b) where
  pub many_again : length b.seat.me.own.held ≡ length a.seat.me.own.held
  many_again = many_same b.seat.me.own.held a.seat.me.own.held keeps.held

  pub there_again : (place : ℕ) → place < length a.seat.me.own.held
      → place < length b.seat.me.own.held
  there_again place lt = let many = many_again in omega (arith, many, lt)

  pub room_again : length a.seat.me.own.held < a.seat.me.room
      → length b.seat.me.own.held < b.seat.me.room
  room_again room =
      let many = many_again in let same = keeps.goes.room in omega (arith, room, many, same)

  pub value_again : (value : Value) → IsValue (length a.seat.me.own.held) value
      → IsValue (length b.seat.me.own.held) value
  value_again value is =
      subst (λ (end : ℕ). IsValue end value) (sym many_again) is
