-- How many places are held after a call.
use Rattle.std.proofs.Common.{◌≤◌, ℕ, List, ap, arith, drop, length, take}
use Rattle.cell_making.specs.Makes.{value_at}
use Rattle.held_places.specs.Calls.{cells_found}
use Rattle.std.proofs.lemmas.List.{length-append, length-take-le}
use Rattle.held_places.proofs.Going.{many_cells, many_held}
use Rattle.mutator_events.specs.declared.values.Value.{Value}
use Rattle.mutator_seat.specs.Bound.{Bound, held_cells}
use Rattle.sorted_boxes.specs.Calls.{Gave, GaveAll, Narrows}
use Rattle.sorted_rule.specs.declared.sorting.Sorting.{Sorting}

pub gave_longer : (a b : Bound Sorting) (place f : ℕ) (value : Value) → Gave a place f value b
    → length a.seat.me.own.held ≤ length b.seat.me.own.held
gave_longer a b place f value gave =
    let more = many_held a b (cells_found gave.found) gave.was_read.holds.held in
    omega (arith, more)

pub gave_all_longer : (a b : Bound Sorting) (place : ℕ) (given : List Value)
    → GaveAll a place given b → length a.seat.me.own.held ≤ length b.seat.me.own.held
gave_all_longer a b place given all =
    let first = gave_longer a all.one place 0 (value_at given 0) all.first in
    let second = gave_longer all.one all.two place 1 (value_at given 1) all.second in
    let third = gave_longer all.two all.three place 2 (value_at given 2) all.third in
    let fourth = gave_longer all.three all.four place 3 (value_at given 3) all.fourth in
    let fifth = gave_longer all.four b place 4 (value_at given 4) all.fifth in
    omega (arith, first, second, third, fourth, fifth)

pub narrows_longer : (a b : Bound Sorting) (n place count : ℕ) → n ≤ length a.seat.me.own.held
    → Narrows n place count a b → n ≤ length b.seat.me.own.held
narrows_longer a b n place count le narrows =
    let many = many_cells a in
    let more = many_cells b in
    let first = length-take-le n (held_cells a) (omega (arith, le, many)) in
    let both = length-append (take n (held_cells a)) (take count (drop place (held_cells a))) in
    let is = ap (λ (cells : List ℕ). length cells) narrows.held in
    omega (arith, more, first, both, is)
