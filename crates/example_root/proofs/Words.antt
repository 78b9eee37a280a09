-- What the rule says of the words of a state: where the box is, and what is kept in it.
use Rattle.std.proofs.Common.{◌≡◌, ℕ, List, Bool, true, false, Option, Some, None, sym, ◌∙◌, ap}
use Rattle.std.proofs.Common.{arith}
use Rattle.cell_words.specs.Term.{Term, num, part}
use Rattle.cell_words.specs.declared.fields.Field.{Field}
use Rattle.cell_words.specs.declared.fields.Field.TheVariants as field
use Rattle.core_machine.specs.State.{State, field_of}
use Rattle.dlg_core.specs.Reachable.{Reachable, named}
use Rattle.heap_rule.specs.Boxes.{boxes_of, payload_of}
use Rattle.heap_rule.specs.Facts.{Facts, IsPlain, TermFits, is_record_kind}
use Rattle.heap_rule.specs.Lore.{Entry, Lore, Named, Plain, Terms, entry_of, term_of}
use Rattle.heap_rule.specs.NoRule.{no_field_is_fixed}
use Rattle.heap_rule.proofs.Entries.{same_entry}
use Rattle.heap_rule.proofs.EntryWords.{not_some, null_word, number_word, record_word}
use Rattle.heap_rule.proofs.Maps.{In, entry_names, in_map, of_map}
use Rattle.example_root.specs.Rule.{HasKept, kept_term, number_record}
use Rattle.example_root.specs.Leaving.{IsKept}
use Rattle.example_root.specs.declared.kept.Kept.{Kept}

plain_is : (e : Entry) (t : Term) → IsPlain e → term_of e ≡ t → e ≡ Plain t
plain_is (Plain u) t plain is = ap Plain is
plain_is (Named c) t plain is = absurd plain

first_part : Option Term → Term
first_part None = num 0
first_part (Some u) = part 0 u

fits_number : (terms : Terms) (row : ℕ → Field) (n : ℕ) (b : Bool) (t : Option Term)
    → TermFits b terms row t → t ≡ Some (number_record n) → entry_of terms (row 0) ≡ Plain (num n)
unfolding first_part
fits_number terms row n true t fits is =
    plain_is (entry_of terms (row 0)) (num n) (fits.1 0 (omega arith))
    (ap first_part (sym fits.0 ∙ is))
fits_number terms row n false t fits is = absurd (not_some (number_record n) t fits is)

module _ (s : State) (l : Lore) (facts : Facts no_field_is_fixed s l) where
  -- the record of a number has it in field 0
  pub record_number : (x n : ℕ) → Reachable s x → l.terms x ≡ Some (number_record n)
      → field_of s x 0 ≡ field.Num n
  record_number x n reached is =
      number_word no_field_is_fixed s l facts x 0 n reached
      (fits_number l.terms (field_of s x) n (is_record_kind (field_of s x 5)) (l.terms x)
      (facts.termed x reached) is)

  module _ (passes : List Kept) (h : HasKept (boxes_of s l) passes) where
    pub anchor_word : field_of s 0 0 ≡ field.Cell 1
    anchor_word =
        entry_names l.terms (field_of s 0 0) 1
        (same_entry (boxes_of s l) 0 0 (payload_of s l 0) h.anchor
        (in_map s l 0 (of_map s l 0 h.anchor h.anchor_is)) h.anchor_is ∙ h.names)

    pub box_in : In s l 1
    box_in = of_map s l 1 h.box h.box_is

    box_entry : entry_of l.terms (field_of s 1 0) ≡ h.box 0
    box_entry =
        same_entry (boxes_of s l) 1 0 (payload_of s l 1) h.box (in_map s l 1 box_in) h.box_is

    pub none_word : h.box 0 ≡ Plain (kept_term None) → field_of s 1 0 ≡ field.Null
    none_word is = null_word no_field_is_fixed s l facts 1 0 box_in.reached (box_entry ∙ is)

    pub kept_word : (n : ℕ) → h.box 0 ≡ Plain (kept_term (Some n))
        → (c : ℕ) × ((field_of s 1 0 ≡ field.Cell c) × (l.terms c ≡ Some (number_record n)))
    kept_word n is =
        record_word no_field_is_fixed s l facts 1 0 (number_record n) tt (box_entry ∙ is)

    pub kept_in : (kept : Option ℕ) → h.box 0 ≡ Plain (kept_term kept) → IsKept s kept
    kept_in None is = none_word is
    kept_in (Some n) is =
        let there = kept_word n is in (
          there.0,
          (there.1.0, record_number there.0 n (named 0 box_in.reached there.1.0) there.1.1),
        )
