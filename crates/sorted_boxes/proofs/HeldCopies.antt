-- Records that were copied are held after all else.
use Rattle.std.proofs.Common.{◌≡◌, ◌<◌, ◌≤◌, ◌+◌, ◌-◌, ◌∷◌, ℕ, zero, suc, true, false, List, []}
use Rattle.std.proofs.Common.{length, map, get_or, inl, inr, refl, sym, ◌∙◌, ap, subst, arith}
use Rattle.std.specs.List.{SameBelow}
use Rattle.std.proofs.lemmas.Bool.{cases_lt}
use Rattle.std.proofs.lemmas.List.{get_or-append_right, get_or_append_left, length-set}
use Rattle.cell_words.specs.Term.{Term}
use Rattle.heap_rule.specs.Asks.{known_of}
use Rattle.heap_rule.specs.Lore.{known_at}
use Rattle.heap_rule.specs.NoRule.{no_field_is_fixed}
use Rattle.heap_rule.specs.declared.known.Known.{Known}
use Rattle.heap_rule.specs.declared.known.Known.TheVariants as knows
use Rattle.heap_rule.specs.declared.view.View.{View}
use Rattle.held_places.specs.Calls.{StillKnown}
use Rattle.held_places.proofs.Going.{many_held, still_same, target_still}
use Rattle.mutator_seat.specs.Bound.{Bound}
use Rattle.promotion.specs.Copying.{GrownBy}
use Rattle.sorted_rule.specs.Open.{KnownOfSort}
use Rattle.sorted_rule.specs.Sorts.{Records, Sort}
use Rattle.sorted_rule.specs.declared.sorting.Sorting.{Sorting}
use Rattle.sorted_boxes.specs.Holding.{HoldsAs, HoldsFirst, IsAs}
use Rattle.sorted_boxes.specs.Sorts.{SortList, holds_record, sort_as, sort_in}
use Rattle.sorted_boxes.proofs.Carrying.{StillSettled, as_lasts}
use Rattle.sorted_boxes.proofs.Holding.{serves_on, sort_below}
use Rattle.sorted_boxes.proofs.Narrowing.{kept_serves}
use Rattle.sorted_boxes.proofs.SortLists.{set_is, set_same, with_set}

-- The list tells of records at the places from one on up to another, and else as it did.
pub record RecordsUpto (from n : ℕ) (old new : SortList) : Type 0 where
  pub least : from ≤ n
  pub boxes : new.boxes ≡ old.boxes
  pub many : length new.records ≡ length old.records
  pub same : SameBelow old.records new.records from
  pub told : (place : ℕ) → from ≤ place → place < n → holds_record new place ≡ true

pub none_told : (from : ℕ) (sorts : SortList) → RecordsUpto from from sorts sorts
none_told from sorts = record {
  least = omega arith;
  boxes = refl;
  many = refl;
  same = λ k d lt. refl;
  told = λ place le lt. absurd (omega (arith, le, lt));
}

pub one_told : (from n : ℕ) (old new : SortList) → RecordsUpto from n old new
    → n < length new.records → RecordsUpto from (n + 1) old (with_set new n true)
one_told from n old new upto there = record {
  least = let least = upto.least in omega (arith, least);
  boxes = upto.boxes;
  many = length-set new.records n true ∙ upto.many;
  same = λ k d lt.
      set_same new n true k d (let least = upto.least in omega (arith, least, lt))
      ∙ upto.same k d lt;
  told = λ place le lt. elim (cases_lt place n) [
    | inl before ↦ set_same new n true place false before ∙ upto.told place le before
    | inr behind ↦
        let same : n ≡ place = omega (arith, lt, behind) in
        subst (λ (p : ℕ). holds_record (with_set new n true) p ≡ true) same
        (set_is new n true there)
  ];
}

pub all_told : (from n : ℕ) (old new : SortList) (v : View Sorting) → RecordsUpto from n old new
    → length v.own.held ≤ n → 1 ≤ from → HoldsFirst from old v
    → ((place : ℕ) → from ≤ place → place < length v.own.held
    → KnownOfSort Records (known_of v place)) → HoldsAs new v
all_told from n old new v upto all some at records = record {
  inside = at.inside;
  serves = kept_serves old new v from some upto.boxes upto.many upto.same at.serves;
  some = let fit = at.fit in omega (arith, some, fit);
  each = λ place lt. elim (cases_lt place from) [
    | inl before ↦
        subst (λ (sort : Sort). IsAs v place sort)
        (sym (sort_below old new from place upto.same before)) (at.each place before)
    | inr behind ↦
        subst (λ (sort : Sort). IsAs v place sort)
        (sym (ap sort_as (upto.told place behind (omega (arith, lt, all)))))
        (records place behind lt)
  ];
}

record_at : (terms : List Term) (i : ℕ) → i < length terms
    → KnownOfSort Records (get_or (map (λ t. knows.Record t) terms) i knows.Nothing)
record_at [] i lt = absurd (omega (arith, lt))
record_at (t ∷ terms) zero lt = tt
record_at (t ∷ terms) (suc i) lt = record_at terms i (omega (arith, lt))

-- What a copying needs and leaves.
module _ (a b : Bound Sorting) (count : ℕ) (by : GrownBy count a b)
    (many : length a.seat.me.known ≡ length a.seat.me.own.held) where
  longer : length b.seat.me.own.held ≡ length a.seat.me.own.held + length by.grown.cells
  longer = many_held a b by.grown.cells by.grown.held

  known_was : (place : ℕ) → place < length a.seat.me.own.held
      → known_of b.seat.me place ≡ known_of a.seat.me place
  known_was place lt =
      ap (λ (ks : List Known). known_at ks place) by.grown.known
      ∙ get_or_append_left a.seat.me.known (map (λ t. knows.Record t) by.grown.terms)
      knows.Nothing place (omega (arith, many, lt))

  grown_still : StillSettled a b
  grown_still place lt is_settled =
      subst (λ (k : Known). StillKnown no_field_is_fixed (known_of a.seat.me place) k)
      (sym (known_was place lt)) (still_same no_field_is_fixed (known_of a.seat.me place))

  pub grown_first : (sorts : SortList) → HoldsAs sorts a.seat.me
      → HoldsFirst (length a.seat.me.own.held) sorts b.seat.me
  grown_first sorts at = record {
    inside = by.grown.stays.inside ∙ at.inside;
    serves = serves_on sorts a.seat.me b.seat.me by.grown.stays.room by.grown.stays.pass at.serves;
    fit = let more = longer in omega (arith, more);
    each = λ place lt. as_lasts a.seat.me b.seat.me place (sort_in sorts place)
        (target_still a b by.grown.cells by.grown.held place lt) (grown_still place lt)
        (at.each place lt);
  }

  pub grown_records : (place : ℕ) → length a.seat.me.own.held ≤ place
      → place < length b.seat.me.own.held → KnownOfSort Records (known_of b.seat.me place)
  grown_records place le lt =
      subst (λ (k : Known). KnownOfSort Records k)
      (sym (ap (λ (ks : List Known). known_at ks place) by.grown.known
      ∙ get_or-append_right a.seat.me.known (map (λ t. knows.Record t) by.grown.terms)
      (length a.seat.me.known) place knows.Nothing refl (omega (arith, many, le))))
      (record_at by.grown.terms (place - length a.seat.me.known)
      (let more = longer in let terms = by.grown.many in
      omega (arith, many, more, terms, le, lt)))
