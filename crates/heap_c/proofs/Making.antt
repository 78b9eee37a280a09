-- The places after a make: those from before with the new one, or those from before alone.
use Rattle.std.proofs.Common.{◌≡◌, ◌∷◌, ◌∙◌, [], ℕ, List, ap, sym, take}
use Rattle.std.proofs.lemmas.List.{take_at}
use Rattle.held_places.proofs.Claiming.{claimed_goes}
use Rattle.held_places.proofs.Going.{many_cells}
use Rattle.mutator_events.specs.declared.values.Value.{Value}
use Rattle.mutator_seat.specs.Bound.{Bound, held_cells}
use Rattle.mutator_seat.specs.Claims.{Claimed}
use Rattle.sorted_boxes.specs.Calls.{Drops, Made}
use Rattle.sorted_rule.specs.declared.sorting.Sorting.{Sorting}
use Rattle.heap_c.specs.Claiming.{HoldsOneMore}

-- After a claim and what came then.
module _ (a b c : Bound Sorting) (place : ℕ) (got : Claimed a place b) where
  pub made_holds : (given : List Value) → Made place given b c → HoldsOneMore a c
  made_holds given made =
      (got.cell, made.keeps.held ∙ made.is_sealed.held ∙ got.held)

  pub made_room : (given : List Value) → Made place given b c
      → c.seat.me.room ≡ a.seat.me.room
  made_room given made =
      made.keeps.goes.room ∙ made.is_sealed.room ∙ (claimed_goes a b place got).room

  pub dropped_holds : Drops place b c → held_cells c ≡ held_cells a
  dropped_holds drops =
      drops.held ∙ ap (λ (cells : List ℕ). take place cells) got.held
      ∙ take_at (held_cells a) (got.cell ∷ []) place (many_cells a ∙ sym got.place_is)

  pub dropped_room : Drops place b c → c.seat.me.room ≡ a.seat.me.room
  dropped_room drops = drops.goes.room ∙ (claimed_goes a b place got).room
