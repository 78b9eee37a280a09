-- Tries one after the other, of which the last one claimed a cell, or none did.
use Rattle.std.proofs.Common.{◌≡◌, ◌<◌, ◌∙◌, ℕ, Option, None, Some, arith, length, refl, true}
use Rattle.std.specs.Prelude.{IfNone, IfSome}
use Rattle.heap_table.specs.Seats.{HeapId, SeatView}
use Rattle.mutator_seat.specs.Bound.{Bound, IsBound, bound}
use Rattle.mutator_seat.specs.Claims.{Claimed, HasMode, Seeking}
use Rattle.mutator_seat.proofs.Calm.{calm_none}
use Rattle.mutator_seat.proofs.Seeking.{seeking_then}
use Rattle.mutator_seat.proofs.Tries.{claimed_then}
use Rattle.mutator_seat.proofs.Writes.{many_same}
use Rattle.sorted_rule.specs.declared.sorting.Sorting.{Sorting}
use Rattle.heap_c.specs.Claiming.{FindsNone}

-- What holds in a loop of tries.
abbrev pub Seeks : HeapId → (old now : SeatView Sorting) → Type 0
Seeks heap old now = IsBound heap now × FindsNone (bound heap old) (bound heap now)

pub finds_none : (a : Bound Sorting) → HasMode a → FindsNone a a
finds_none a mode = record { mode = mode; sought = calm_none Seeking a refl }

pub none_then : (a b c : Bound Sorting) → FindsNone a b → FindsNone b c → FindsNone a c
none_then a b c first second = record {
  mode = second.mode;
  sought = seeking_then a b c first.sought second.sought;
}

pub none_if : (r : Option ℕ) (a b c : Bound Sorting) → FindsNone a b
    → IfNone r (FindsNone b c) → IfNone r (FindsNone a c)
none_if None a b c first second = none_then a b c first second
none_if (Some place) a b c first second = tt

pub got_if : (r : Option ℕ) (a b c : Bound Sorting) → FindsNone a b
    → IfSome r (λ place. Claimed b place c) → IfSome r (λ place. Claimed a place c)
got_if None a b c first second = tt
got_if (Some place) a b c first second = claimed_then a b c place first.sought second

module _ (a b : Bound Sorting) (none : FindsNone a b) where
  pub inside_again : a.seat.me.presence.inside ≡ true → b.seat.me.presence.inside ≡ true
  inside_again inside = none.sought.kept.inside ∙ inside

  pub room_again : length a.seat.me.own.held < a.seat.me.room
      → length b.seat.me.own.held < b.seat.me.room
  room_again room =
      let many = many_same b.seat.me.own.held a.seat.me.own.held none.sought.kept.held in
      let same = none.sought.kept.room in omega (arith, room, many, same)
