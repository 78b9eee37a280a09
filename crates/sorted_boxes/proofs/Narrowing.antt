-- Keeping the first places, and then some of the others.
use Rattle.std.proofs.Common.{◌≡◌, ◌<◌, ◌≤◌, ◌+◌, ◌-◌, ◌⊎◌, ◌++◌, ℕ, false, List, []}
use Rattle.std.proofs.Common.{length, get_or, take, drop, inl, inr, refl, sym, ◌∙◌, ap, subst, arith}
use Rattle.std.specs.List.{CopiedTo, SameBelow}
use Rattle.std.proofs.lemmas.Bool.{cases_lt}
use Rattle.std.proofs.lemmas.List.{append-nil, get_or-append_right, get_or-drop, get_or-take}
use Rattle.std.proofs.lemmas.List.{get_or_append_left, length-append, length-drop, length-take-le}
use Rattle.core_machine.specs.declared.events.Event.TheVariants as event
use Rattle.core_machine.specs.declared.events.Found.{Found}
use Rattle.heap_rule.specs.Asks.{known_of, target}
use Rattle.heap_rule.specs.Lore.{known_at, nothing_learned}
use Rattle.heap_rule.specs.NoRule.{no_field_is_fixed}
use Rattle.heap_rule.specs.declared.known.Known.{Known}
use Rattle.heap_rule.specs.declared.known.Known.TheVariants as knows
use Rattle.heap_rule.specs.declared.view.View.{View}
use Rattle.heap_rule.proofs.Reading.{cell_there}
use Rattle.held_places.specs.Calls.{StillKnown}
use Rattle.held_places.proofs.Going.{goes_told, many_cells, still_same}
use Rattle.mutator_events.proofs.HeldCells.{cells_kept_are}
use Rattle.mutator_seat.specs.Bound.{Bound, held_cells, takes}
use Rattle.trails.specs.Asks.{nothing}
use Rattle.sorted_rule.specs.Open.{KnownOfSort}
use Rattle.sorted_rule.specs.Sorts.{Sort}
use Rattle.sorted_rule.specs.declared.sorting.Sorting.{Sorting}
use Rattle.sorted_boxes.specs.Calls.{Drops, KeepsRecords, Narrows}
use Rattle.sorted_boxes.specs.Holding.{HoldsAs, HoldsFirst, IsAs}
use Rattle.sorted_boxes.specs.Sorts.{Serves, SortList, sort_as, sort_in}
use Rattle.sorted_boxes.proofs.Carrying.{as_lasts}
use Rattle.sorted_boxes.proofs.Giving.{as_known, known_as}
use Rattle.sorted_boxes.proofs.Holding.{same_list, serves_on, sort_below}

module _ {A : Type 0} (xs : List A) (n place count : ℕ) (fit : n ≤ length xs) where
  abbrev kept : List A
  kept = take n xs ++ take count (drop place xs)

  first_many : length (take n xs) ≡ n
  first_many = length-take-le n xs fit

  -- the first n stay
  kept_before : (i : ℕ) (d : A) → i < n → get_or kept i d ≡ get_or xs i d
  kept_before i d lt =
      get_or_append_left (take n xs) (take count (drop place xs)) d i
      (let many = first_many in omega (arith, many, lt))
      ∙ get_or-take n xs i d lt

  -- and then come the others
  kept_behind : (i : ℕ) (d : A) → n ≤ i → i < n + count
      → get_or kept i d ≡ get_or xs (place + (i - n)) d
  kept_behind i d behind lt =
      get_or-append_right (take n xs) (take count (drop place xs)) n i d first_many behind
      ∙ get_or-take count (drop place xs) (i - n) d (omega (arith, behind, lt))
      ∙ get_or-drop place xs (i - n) d

  kept_many : place + count ≤ length xs → length kept ≡ n + count
  kept_many from =
      let one = first_many in
      let left = length-drop place xs in
      let two = length-take-le count (drop place xs) (omega (arith, from, left)) in
      let both = length-append (take n xs) (take count (drop place xs)) in
      omega (arith, one, two, both)

module _ (b c : Bound Sorting) (n place count : ℕ) (p : Found)
    (told : c ≡ takes b (event.Keep b.seat.me.number n place count) p) where
  cells_are : held_cells c ≡ take n (held_cells b) ++ take count (drop place (held_cells b))
  cells_are = ap (λ (m : Bound Sorting). held_cells m) told
      ∙ cells_kept_are b.seat.me.own.held n place count

  known_is : c.seat.me.known ≡ take n b.seat.me.known ++ take count (drop place b.seat.me.known)
  known_is = ap (λ (m : Bound Sorting). m.seat.me.known) told

  pub narrows : Narrows n place count b c
  narrows = record {
    goes = goes_told b c [] (event.Keep b.seat.me.number n place count) p nothing_learned
        b.seat.me.pass (ap (λ (m : Bound Sorting). m.heap) told)
        (ap (λ (m : Bound Sorting). m.seat.table) told)
        (ap (λ (m : Bound Sorting). m.seat.me) told) refl nothing;
    held = cells_are;
    pass = ap (λ (m : Bound Sorting). m.seat.me.pass) told;
  }

  module _ (fit : n ≤ length b.seat.me.own.held)
      (from : place + count ≤ length b.seat.me.own.held) where
    fit_cells : n ≤ length (held_cells b)
    fit_cells = let many = many_cells b in omega (arith, many, fit)

    pub narrowed_many : length c.seat.me.own.held ≡ n + count
    narrowed_many =
        let before = many_cells b in
        let now = many_cells c in
        let cells = ap (λ (cs : List ℕ). length cs) cells_are in
        let many = kept_many (held_cells b) n place count fit_cells
        (omega (arith, before, from)) in
        omega (arith, now, cells, many)

    module _ (many : length b.seat.me.known ≡ length b.seat.me.own.held) where
      fit_known : n ≤ length b.seat.me.known
      fit_known = omega (arith, many, fit)

      pub known_before : (i : ℕ) → i < n → known_of c.seat.me i ≡ known_of b.seat.me i
      known_before i lt =
          ap (λ (ks : List Known). known_at ks i) known_is
          ∙ kept_before b.seat.me.known n place count fit_known i knows.Nothing lt

      pub known_behind : (i : ℕ) → n ≤ i → i < n + count
          → known_of c.seat.me i ≡ known_of b.seat.me (place + (i - n))
      known_behind i behind lt =
          ap (λ (ks : List Known). known_at ks i) known_is
          ∙ kept_behind b.seat.me.known n place count fit_known i knows.Nothing behind lt

      pub cell_before : (i : ℕ) → i < n → target c.seat.me i ≡ target b.seat.me i
      cell_before i lt =
          sym (cell_there c.seat.me.own.held i)
          ∙ ap (λ (cs : List ℕ). get_or cs i 0) cells_are
          ∙ kept_before (held_cells b) n place count fit_cells i 0 lt
          ∙ cell_there b.seat.me.own.held i

      pub cell_behind : (i : ℕ) → n ≤ i → i < n + count
          → target c.seat.me i ≡ target b.seat.me (place + (i - n))
      cell_behind i behind lt =
          sym (cell_there c.seat.me.own.held i)
          ∙ ap (λ (cs : List ℕ). get_or cs i 0) cells_are
          ∙ kept_behind (held_cells b) n place count fit_cells i 0 behind lt
          ∙ cell_there b.seat.me.own.held (place + (i - n))

      -- The first places have what they had, by a list that agrees with the other up to there.
      first_as : (old new : SortList) → SameBelow old.records new.records n → (i : ℕ) → i < n
          → IsAs b.seat.me i (sort_in old i) → IsAs c.seat.me i (sort_in new i)
      first_as old new same i lt is =
          subst (λ (sort : Sort). IsAs c.seat.me i sort) (sym (sort_below old new n i same lt))
          (as_lasts b.seat.me c.seat.me i (sort_in old i) (cell_before i lt)
          (λ is_settled.
          subst (λ (k : Known). StillKnown no_field_is_fixed (known_of b.seat.me i) k)
          (sym (known_before i lt)) (still_same no_field_is_fixed (known_of b.seat.me i))) is)

      pub first_records : KeepsRecords n b.seat.me.known c.seat.me.known
      first_records i t lt is = known_before i lt ∙ is

      -- Others, which stand after the anchor's.
      module _ (some : 1 ≤ n) (placed : (1 ≤ place) ⊎ (count ≡ 0)) (old new : SortList)
          (serves : Serves new b.seat.me) (same : SameBelow old.records new.records n)
          (moved : CopiedTo old.records new.records place n count)
          (at : HoldsAs old b.seat.me) where
        some_place : (1 ≤ place) ⊎ (count ≡ 0) → (i : ℕ) → n ≤ i → i < n + count
            → 1 ≤ place + (i - n)
        some_place (inl is) i le lt = omega (arith, is)
        some_place (inr none) i le lt = absurd (omega (arith, none, le, lt))

        moved_sort : (i : ℕ) → n ≤ i → i < n + count → sort_in new i ≡ sort_in old (place + (i - n))
        moved_sort i le lt = ap sort_as (moved i false le lt)

        others_as : (i : ℕ) → n ≤ i → i < n + count → IsAs c.seat.me i (sort_in new i)
        others_as i le lt =
            let there : place + (i - n) < length b.seat.me.own.held = omega (arith, from, le, lt) in
            subst (λ (sort : Sort). IsAs c.seat.me i sort) (sym (moved_sort i le lt))
            (known_as c.seat.me i (sort_in old (place + (i - n))) (omega (arith, some, le))
            (subst (λ (k : Known). KnownOfSort (sort_in old (place + (i - n))) k)
            (sym (known_behind i le lt))
            (as_known b.seat.me (place + (i - n)) (sort_in old (place + (i - n)))
            (some_place placed i le lt) (at.each (place + (i - n)) there))))

        each_as : (i : ℕ) → i < length c.seat.me.own.held → IsAs c.seat.me i (sort_in new i)
        each_as i lt = elim (cases_lt i n) [
          | inl before ↦
              first_as old new same i before (at.each i (omega (arith, before, fit)))
          | inr behind ↦
              others_as i behind (let so_many = narrowed_many in omega (arith, lt, so_many))
        ]

        pub keep_holds : HoldsAs new c.seat.me
        keep_holds = record {
          inside = narrows.goes.inside ∙ at.inside;
          serves = serves_on new b.seat.me c.seat.me narrows.goes.room narrows.pass serves;
          some = let so_many = narrowed_many in omega (arith, some, so_many);
          each = each_as;
        }

-- The list that is kept in step serves on.
pub kept_serves : (old new : SortList) (v : View Sorting) (n : ℕ) → 1 ≤ n
    → new.boxes ≡ old.boxes → length new.records ≡ length old.records
    → SameBelow old.records new.records n → Serves old v → Serves new v
kept_serves old new v n some boxes many same serves = record {
  room = let more = serves.room in omega (arith, more, many);
  boxes = boxes ∙ serves.boxes;
  anchor = same 0 false some ∙ serves.anchor;
}

-- The first places alone.
module _ (b c : Bound Sorting) (n : ℕ) (p : Found)
    (told : c ≡ takes b (event.Keep b.seat.me.number n 0 0) p) (some : 1 ≤ n)
    (fit : n ≤ length b.seat.me.own.held)
    (many : length b.seat.me.known ≡ length b.seat.me.own.held) where
  pub cut_many : length c.seat.me.own.held ≡ n
  cut_many =
      let so_many = narrowed_many b c n 0 0 p told fit (omega arith) in omega (arith, so_many)

  pub cut_drops : Drops n b c
  cut_drops =
      let narrow = narrows b c n 0 0 p told in
      record {
        goes = narrow.goes;
        held = narrow.held ∙ append-nil (take n (held_cells b));
        pass = narrow.pass;
      }

  pub cut_records : KeepsRecords n b.seat.me.known c.seat.me.known
  cut_records = first_records b c n 0 0 p told fit (omega arith) many

  pub cut_holds : (sorts : SortList) → HoldsFirst n sorts b.seat.me → HoldsAs sorts c.seat.me
  cut_holds sorts at = record {
    inside = cut_drops.goes.inside ∙ at.inside;
    serves = serves_on sorts b.seat.me c.seat.me cut_drops.goes.room cut_drops.pass at.serves;
    some = let so_many = cut_many in omega (arith, some, so_many);
    each = λ i lt. first_as b c n 0 0 p told fit (omega arith) many sorts sorts
        (same_list sorts n) i (let so_many = cut_many in omega (arith, lt, so_many))
        (at.each i (let so_many = cut_many in omega (arith, lt, so_many)));
  }
