-- From a box of the map to the fields of its cell, which are what its entries stand for, and to
-- what is told of it.
use Rattle.std.proofs.Common.{◌≡◌, ◌≢◌, ◌∙◌, ℕ, Bool, Some}
use Rattle.cell_words.specs.declared.fields.Field.TheVariants as field
use Rattle.cell_words.specs.Term.{null, num}
use Rattle.core_machine.specs.State.{State, field_of}
use Rattle.heap_rule.specs.Boxes.{Payload, boxes_of, payload_of}
use Rattle.heap_rule.specs.Facts.{Facts}
use Rattle.heap_rule.specs.Lore.{Lore, Named, Plain, five_plain, learned_of}
use Rattle.heap_rule.specs.declared.known.Known.TheVariants as knows
use Rattle.heap_rule.proofs.Entries.{same_entry}
use Rattle.heap_rule.proofs.EntryWords.{learned_box, null_word, number_word}
use Rattle.heap_rule.proofs.Maps.{In, entry_names, in_map, of_map}

module _ (s : State) (l : Lore) (cell : ℕ) (box : Payload) (at : boxes_of s l cell ≡ Some box) where
  pub box_there : In s l cell
  box_there = of_map s l cell box at

  pub entry_there : (f : ℕ) → payload_of s l cell f ≡ box f
  entry_there f =
      same_entry (boxes_of s l) cell f (payload_of s l cell) box (in_map s l cell box_there) at

  pub named_there : (f other : ℕ) → box f ≡ Named other → field_of s cell f ≡ field.Cell other
  named_there f other is =
      entry_names l.terms (field_of s cell f) other (entry_there f ∙ is)

  module _ (fixed : ℕ → Bool) (facts : Facts fixed s l) where
    pub null_there : (f : ℕ) → box f ≡ Plain null → field_of s cell f ≡ field.Null
    null_there f is =
        null_word fixed s l facts cell f box_there.reached (entry_there f ∙ is)

    pub number_there : (f n : ℕ) → box f ≡ Plain (num n) → field_of s cell f ≡ field.Num n
    number_there f n is =
        number_word fixed s l facts cell f n box_there.reached (entry_there f ∙ is)

    pub told_there : cell ≢ 0 → learned_of s l cell ≡ knows.Boxed (five_plain (payload_of s l cell))
    told_there other = learned_box fixed s l facts cell box_there other
