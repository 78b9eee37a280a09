-- The rule holds where the heap opens.
use Rattle.std.proofs.Common.{◌≡◌, ◌<◌, ◌-◌, ℕ, zero, suc, ◌+◌, true, false, List, refl}
use Rattle.std.proofs.Common.{sym, ◌∙◌, ap, subst, arith}
use mathlib.Core.Option.{some, some-injective}
use lib.ListN.{get_elem?}
use Rattle.cell_words.specs.declared.fields.Field.{Field}
use Rattle.cell_words.specs.Term.{null}
use Rattle.core_machine.specs.State.{State, field_of, opening}
use Rattle.core_machine.specs.Words.{is_box_kind}
use Rattle.heap_rule.specs.Boxes.{Payload, boxes_of, payload_of}
use Rattle.heap_rule.specs.Lore.{Entry, Lore, Plain}
use Rattle.heap_rule.specs.Opening.{FirstTerms, opening_lore, opening_passes, opening_rooms}
use Rattle.heap_rule.specs.Opening.{passes_from}
use Rattle.heap_rule.specs.Shape.{Shape, start}
use Rattle.heap_rule.proofs.Entries.{some_is}
use Rattle.heap_rule.proofs.Maps.{in_map, of_map}
use Rattle.heap_rule.proofs.Openings.{null_rows}
use Rattle.sorted_rule.specs.Opening.{first_rows, first_terms}
use Rattle.sorted_rule.specs.Sorted.{AreSorted, HoldsSorted, IsSorted, opening_pass}
use Rattle.sorted_rule.specs.Sorts.{Boxes, IsOfSort}
use Rattle.sorted_rule.specs.declared.sorting.Sorting.{Sorting}

-- the terms are those of the first rows, which have none
pub firsts : FirstTerms first_rows first_terms
firsts zero = refl
firsts (suc k) = refl

first_pass : (setting number n k : ℕ) (pass : Sorting)
    → get_elem? (passes_from opening_pass setting number n) k ≡ some pass
    → pass.boxes ≡ setting
first_pass setting number zero k pass at = absurd cc
first_pass setting number (suc n) zero pass at =
    sym (ap (λ (p : Sorting). p.boxes) (some-injective (opening_pass number setting) pass at))
first_pass setting number (suc n) (suc k) pass at =
    first_pass setting (number + 1) n k pass at

module _ (cells : ℕ) (rooms : List ℕ) (known : ℕ) where
  abbrev s : State
  s = opening cells rooms first_rows

  abbrev l : Lore
  l = opening_lore first_terms known

  -- no cell but the anchor is a box
  box_is : (x : ℕ) → is_box_kind (field_of s x 5) ≡ true → x ≡ 0
  box_is zero is = refl
  box_is (suc k) is = absurd (
      let none : is_box_kind (field_of s (suc k) 5) ≡ false =
      ap is_box_kind (null_rows (cells - 1) k 5) in cc)

  null_entry : (f : ℕ) → f < 5 → payload_of s l 0 f ≡ Plain null
  null_entry zero lt = refl
  null_entry (suc zero) lt = refl
  null_entry (suc (suc zero)) lt = refl
  null_entry (suc (suc (suc zero))) lt = refl
  null_entry (suc (suc (suc (suc zero)))) lt = refl
  null_entry (suc (suc (suc (suc (suc f))))) lt = absurd (omega (arith, lt))

  anchor_sorted : (boxes : ℕ) → IsSorted boxes 0 (payload_of s l 0)
  anchor_sorted boxes f lt =
      subst (λ (e : Entry). IsOfSort Boxes e) (sym (null_entry f lt)) tt

  first_sorted : (boxes : ℕ) → AreSorted boxes (boxes_of s l)
  first_sorted boxes cell box at =
      let there = of_map s l cell box at in
      let same : payload_of s l cell ≡ box =
      some_is (payload_of s l cell) box (sym (in_map s l cell there) ∙ at) in
      subst (λ (q : Payload). IsSorted boxes cell q) same
      (subst (λ (x : ℕ). IsSorted boxes x (payload_of s l x)) (sym (box_is cell there.box))
      (anchor_sorted boxes))

  opens_sorted : (setting mutators : ℕ)
      → HoldsSorted (boxes_of s l) (passes_from opening_pass setting 0 mutators)
  opens_sorted setting mutators = record {
    boxes = setting;
    agreed = first_pass setting 0 mutators;
    sorted = first_sorted setting;
  }

-- what is asked of the client of a heap that is made
pub opened : (h : Shape) → h.first ≡ first_rows
    → HoldsSorted
    (boxes_of (start h (opening_rooms h.mutators)) (opening_lore first_terms h.mutators))
    (opening_passes opening_pass h)
opened h first =
    subst (λ (rows : List (List Field)). HoldsSorted
    (boxes_of (opening h.cells (opening_rooms h.mutators) rows)
    (opening_lore first_terms h.mutators)) (opening_passes opening_pass h)) (sym first)
    (opens_sorted h.cells (opening_rooms h.mutators) h.mutators h.setting h.mutators)
