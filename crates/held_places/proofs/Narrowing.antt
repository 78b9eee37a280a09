-- What a keep of the first places leaves, with one of the others after them.
use Rattle.std.proofs.Common.{◌≡◌, ◌<◌, ◌≤◌, ℕ, Bool, List, [], ◌∷◌, ◌++◌, length, get_or, take}
use Rattle.std.proofs.Common.{drop, refl, sym, ◌∙◌, ap, subst, arith}
use Rattle.std.proofs.lemmas.List.{drop_more, get_or-take, get_or_append_left, get_or_push}
use Rattle.std.proofs.lemmas.List.{length-take-le, length_push, map-append, take-map}
use Rattle.core_machine.specs.declared.events.Event.TheVariants as event
use Rattle.core_machine.specs.declared.events.Found.{Found}
use Rattle.core_machine.specs.declared.places.Held.{Held}
use Rattle.core_machine.specs.Places.{no_place}
use Rattle.heap_rule.specs.declared.known.Known.{Known}
use Rattle.heap_rule.specs.declared.known.Known.TheVariants as knows
use Rattle.heap_rule.specs.Asks.{known_of}
use Rattle.heap_rule.specs.Lore.{cells_in, known_at, nothing_learned}
use Rattle.heap_rule.proofs.Reading.{cell_there}
use Rattle.mutator_seat.specs.Bound.{Bound, held_cells, takes}
use Rattle.trails.specs.Asks.{nothing}
use Rattle.held_places.specs.Calls.{Goes, StaysKnown, StillKnown}
use Rattle.held_places.proofs.Going.{goes_told, many_cells, still_same}

one_more : {A : Type 0} (xs : List A) (i : ℕ) (d : A) → i < length xs
    → take 1 (drop i xs) ≡ get_or xs i d ∷ []
one_more xs i d lt = ap (take 1) (drop_more xs i d lt)

module _ {P : Type 0} (b c : Bound P) (n place : ℕ) (p : Found)
    (told : c ≡ takes b (event.Keep b.seat.me.number n place 1) p) where
  pub keep_goes : Goes [] b c
  keep_goes = goes_told b c [] (event.Keep b.seat.me.number n place 1) p nothing_learned
      b.seat.me.pass (ap (λ (m : Bound P). m.heap) told)
      (ap (λ (m : Bound P). m.seat.table) told)
      (ap (λ (m : Bound P). m.seat.me) told) refl nothing

  module _ (there : place < length b.seat.me.own.held) (some : n ≤ length b.seat.me.own.held)
      (many : length b.seat.me.known ≡ length b.seat.me.own.held) where
    pub keep_cells : held_cells c ≡ take n (held_cells b) ++ get_or (held_cells b) place 0 ∷ []
    keep_cells =
        ap (λ (m : Bound P). held_cells m) told
        ∙ map-append (λ (h : Held). h.cell) (take n b.seat.me.own.held)
        (take 1 (drop place b.seat.me.own.held))
        ∙ ap (λ (cs : List ℕ). cs ++ cells_in (take 1 (drop place b.seat.me.own.held)))
        (sym (take-map (λ (h : Held). h.cell) n b.seat.me.own.held))
        ∙ ap (λ (hs : List Held). take n (held_cells b) ++ cells_in hs)
        (one_more b.seat.me.own.held place no_place there)
        ∙ ap (λ (x : ℕ). take n (held_cells b) ++ x ∷ [])
        (sym (cell_there b.seat.me.own.held place))

    pub keep_known : c.seat.me.known ≡ take n b.seat.me.known ++ known_of b.seat.me place ∷ []
    keep_known =
        ap (λ (m : Bound P). m.seat.me.known) told
        ∙ ap (λ (ks : List Known). take n b.seat.me.known ++ ks)
        (one_more b.seat.me.known place knows.Nothing
        (subst (λ (k : ℕ). place < k) (sym many) there))

    front : length (take n b.seat.me.known) ≡ n
    front = length-take-le n b.seat.me.known (omega (arith, some, many))

    -- what is known of the first places
    pub keep_stays : (fixed : ℕ → Bool) → StaysKnown fixed n b c
    keep_stays fixed other lt =
        subst (λ (k : Known). StillKnown fixed (known_of b.seat.me other) k)
        (sym (ap (λ (ks : List Known). known_at ks other) keep_known
        ∙ get_or_append_left (take n b.seat.me.known) (known_of b.seat.me place ∷ [])
        knows.Nothing other (omega (arith, lt, front))
        ∙ get_or-take n b.seat.me.known other knows.Nothing lt))
        (still_same fixed (known_of b.seat.me other))

    -- and of the last
    pub keep_last : known_of c.seat.me n ≡ known_of b.seat.me place
    keep_last =
        ap (λ (ks : List Known). known_at ks n) keep_known
        ∙ get_or_push (take n b.seat.me.known) (known_of b.seat.me place) knows.Nothing n front

    -- as much is known as there are places
    pub keep_many : length c.seat.me.known ≡ length c.seat.me.own.held
    keep_many =
        let known = ap (λ (ks : List Known). length ks) keep_known in
        let pushed = length_push (take n b.seat.me.known) (known_of b.seat.me place) in
        let cells = ap (λ (cs : List ℕ). length cs) keep_cells in
        let firsts = length-take-le n (held_cells b)
        (let m = many_cells b in omega (arith, some, m)) in
        let pushed_cell = length_push (take n (held_cells b)) (get_or (held_cells b) place 0) in
        let here = many_cells c in
        omega (arith, known, front, pushed, cells, firsts, pushed_cell, here)
