-- A fresh box is in no map, and is in the map once a value names it.
use Rattle.std.proofs.Common.{◌≡◌, ◌≢◌, ◌&&◌, ℕ, true}
use Rattle.std.proofs.Common.{Option, Some, None, is_none, inl, inr}
use Rattle.std.proofs.Common.{refl, sym, ◌∙◌, ap, subst}
use Rattle.std.proofs.lemmas.Bool.{cases_eq}
use Rattle.cell_words.specs.declared.fields.Field.TheVariants as field
use Rattle.core_machine.specs.State.{State, field_of}
use Rattle.core_machine.specs.Words.{is_box_kind}
use Rattle.dlg_core.specs.Reachable.{Reachable, reach}
use Rattle.heap_rule.specs.Boxes.{Payload, boxes_of, payload_of, revealing}
use Rattle.heap_rule.specs.Boxes.{where_shown}
use Rattle.heap_rule.specs.Lore.{Lore, put}
use Rattle.heap_rule.proofs.Claiming.{put_here, put_other}
use Rattle.heap_rule.proofs.EntryWords.{not_some}
use Rattle.heap_rule.proofs.Maps.{in_map, of_map}

module _ (s : State) (l : Lore) (z i : ℕ) (fresh : l.fresh z ≡ Some i) where
  pub fresh_absent : boxes_of s l z ≡ None
  fresh_absent = by_map (boxes_of s l z) refl
    where
      by_map : (o : Option Payload) → boxes_of s l z ≡ o → o ≡ None
      by_map None at = refl
      by_map (Some q) at =
          absurd (not_some i (l.fresh z) (of_map s l z q at).old fresh)

  module _ (reached : Reachable s z) (box : is_box_kind (field_of s z 5) ≡ true) where
    same_else : (x : ℕ) → x ≢ z → boxes_of s (revealing l (field.Cell z)) x ≡ boxes_of s l x
    same_else x other = ap (λ (o : Option ℕ). where_shown
        (reach s x && (is_box_kind (field_of s x 5) && is_none o)) (payload_of s l x))
        (put_other l.fresh z None x other)

    shown_here : boxes_of s (revealing l (field.Cell z)) z ≡ Some (payload_of s l z)
    shown_here = in_map s (revealing l (field.Cell z)) z
        record { reached = reached; box = box; old = put_here l.fresh z None }

    shown_at : (x : ℕ) → boxes_of s (revealing l (field.Cell z)) x
        ≡ put (boxes_of s l) z (Some (payload_of s l z)) x
    shown_at x = elim (cases_eq x z) [
      | inl same ↦ subst (λ (y : ℕ). boxes_of s (revealing l (field.Cell z)) y
          ≡ put (boxes_of s l) z (Some (payload_of s l z)) y) (sym same)
          (shown_here ∙ sym (put_here (boxes_of s l) z (Some (payload_of s l z))))
      | inr other ↦ same_else x other
          ∙ sym (put_other (boxes_of s l) z (Some (payload_of s l z)) x other)
    ]

    pub shown_is : boxes_of s (revealing l (field.Cell z))
        ≡ put (boxes_of s l) z (Some (payload_of s l z))
    shown_is = λ i x. shown_at x i
