-- A heap that opens with two boxes: the anchor, which names the other, and one whose field 0 is
-- given. No record is among them.
use Rattle.std.proofs.Common.{◌≡◌, ◌∷◌, ℕ, zero, suc, [], Some, None, refl}
use Rattle.cell_words.specs.declared.fields.Field.{Field}
use Rattle.cell_words.specs.declared.fields.Field.TheVariants as word
use Rattle.core_machine.specs.State.{State}
use Rattle.dlg_core.specs.Reachable.{anchor, named}
use Rattle.heap_rule.specs.Boxes.{boxes_of, payload_of}
use Rattle.heap_rule.specs.Lore.{Lore, Terms}
use Rattle.heap_rule.specs.Opening.{FirstTerms, opening_lore}
use Rattle.heap_rule.specs.Shape.{Shape}
use Rattle.heap_rule.proofs.Maps.{in_map}
use Rattle.heap_table.specs.Opening.{opening_state}

module _ (cells mutators : ℕ) (field : Field) where
  abbrev pub two_boxes : Shape
  two_boxes = record {
    cells = cells;
    mutators = mutators;
    setting = 0;
    first =
        (word.Cell 1 ∷ word.Null ∷ word.Null ∷ word.Null ∷ word.Null ∷ word.Num 2 ∷ [])
        ∷ (field ∷ word.Null ∷ word.Null ∷ word.Null ∷ word.Null ∷ word.Num 2 ∷ []) ∷ [];
  }

  abbrev pub no_terms : Terms
  no_terms = λ x. None

  pub first_terms : FirstTerms two_boxes.first no_terms
  first_terms zero = refl
  first_terms (suc zero) = refl
  first_terms (suc (suc k)) = refl

  abbrev pub first_state : State
  first_state = opening_state two_boxes

  abbrev pub first_lore : Lore
  first_lore = opening_lore no_terms mutators

  pub anchor_is : boxes_of first_state first_lore 0 ≡ Some (payload_of first_state first_lore 0)
  anchor_is = in_map first_state first_lore 0
      record { reached = anchor refl; box = refl; old = refl }

  pub box_is : boxes_of first_state first_lore 1 ≡ Some (payload_of first_state first_lore 1)
  box_is = in_map first_state first_lore 1
      record { reached = named 0 (anchor refl) refl; box = refl; old = refl }
