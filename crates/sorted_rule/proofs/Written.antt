-- A map stays sorted where a box is put into it, and where a field is written, if what comes has
-- what its place allows.
use Rattle.std.proofs.Common.{◌≡◌, ℕ, Option, Some, None, inl, inr, refl, sym}
use Rattle.std.proofs.Common.{◌∙◌, subst}
use Rattle.std.proofs.lemmas.Bool.{cases_eq}
use Rattle.heap_rule.specs.Boxes.{Map, Payload, with_entry, written_map}
use Rattle.heap_rule.specs.Lore.{Entry, put}
use Rattle.heap_rule.proofs.Claiming.{put_here, put_other}
use Rattle.heap_rule.proofs.Entries.{some_is}
use Rattle.sorted_rule.specs.Sorted.{AreSorted, IsSorted}
use Rattle.sorted_rule.specs.Sorts.{IsOfSort, sort_of}

module _ (boxes : ℕ) where
  -- one field of a box changes
  put_fits : (cell f : ℕ) (entry : Entry) (box : Payload) → IsSorted boxes cell box
      → IsOfSort (sort_of boxes cell f) entry → IsSorted boxes cell (put box f entry)
  put_fits cell f entry box sorted fits g lt = elim (cases_eq g f) [
    | inl same ↦
        subst (λ (n : ℕ). IsOfSort (sort_of boxes cell n) (put box f entry n)) (sym same)
        (subst (λ (e : Entry). IsOfSort (sort_of boxes cell f) e) (sym (put_here box f entry))
        fits)
    | inr other ↦
        subst (λ (e : Entry). IsOfSort (sort_of boxes cell g) e)
        (sym (put_other box f entry g other)) (sorted g lt)
  ]

  module _ (map : Map) (sorted : AreSorted boxes map) where
    pub written_sorted : (x f : ℕ) (entry : Entry) → IsOfSort (sort_of boxes x f) entry
        → AreSorted boxes (written_map map x f entry)
    written_sorted x f entry fits cell box at = elim (cases_eq cell x) [
      | inl same ↦
          subst (λ (y : ℕ). IsSorted boxes y box) (sym same)
          (by_box (map x) (λ p there. sorted x p there)
          (sym (put_here map x (with_entry (map x) f entry))
          ∙ subst (λ (y : ℕ). written_map map x f entry y ≡ Some box) same at))
      | inr other ↦
          sorted cell box (sym (put_other map x (with_entry (map x) f entry) cell other) ∙ at)
    ]
      where
        by_box : (o : Option Payload) → ((p : Payload) → o ≡ Some p → IsSorted boxes x p)
            → with_entry o f entry ≡ Some box → IsSorted boxes x box
        by_box None old is = absurd cc
        by_box (Some p) old is =
            subst (λ (q : Payload). IsSorted boxes x q) (some_is (put p f entry) box is)
            (put_fits x f entry p (old p refl) fits)

    pub shown_sorted : (z : ℕ) (new : Payload) → IsSorted boxes z new
        → AreSorted boxes (put map z (Some new))
    shown_sorted z new fits cell box at = elim (cases_eq cell z) [
      | inl same ↦
          subst (λ (y : ℕ). IsSorted boxes y box) (sym same)
          (subst (λ (q : Payload). IsSorted boxes z q)
          (some_is new box (sym (put_here map z (Some new))
          ∙ subst (λ (y : ℕ). put map z (Some new) y ≡ Some box) same at)) fits)
      | inr other ↦ sorted cell box (sym (put_other map z (Some new) cell other) ∙ at)
    ]
