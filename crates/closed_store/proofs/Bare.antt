-- The anchor of a store's heap: a box, with null after its first field.
use Rattle.std.proofs.Common.{◌≡◌, ◌≤◌, ◌<◌, ◌∙◌, ℕ}
use Rattle.cell_words.specs.declared.fields.Field.TheVariants as field
use Rattle.closed_store.proofs.Denoting.{box_kind}
use Rattle.core_machine.specs.State.{State, field_of}
use Rattle.heap_rule.specs.Boxes.{boxes_of, payload_of}
use Rattle.heap_rule.specs.Facts.{Facts}
use Rattle.heap_rule.specs.Lore.{Lore}
use Rattle.heap_rule.proofs.Maps.{In, in_map, of_map}
use Rattle.heap_rule.proofs.Entries.{same_entry}
use Rattle.version_rule.specs.Versions.{HasLatest, is_fixed}
use Rattle.heap_rule.proofs.EntryWords.{null_word}

-- what stands in the anchor besides the latest version
pub record IsBare (s : State) : Type 0 where
  pub kind : field_of s 0 5 ≡ field.Num 2
  pub others : (f : ℕ) → 1 ≤ f → f < 5 → field_of s 0 f ≡ field.Null

pub anchor_bare : (s : State) (l : Lore) (number : ℕ) → Facts is_fixed s l
    → HasLatest (boxes_of s l) number → IsBare s
anchor_bare s l number facts latest =
    let there : In s l 0 = of_map s l 0 latest.anchor latest.there in
    record {
      kind = box_kind (field_of s 0 5) there.box;
      others = λ f low lt. null_word is_fixed s l facts 0 f there.reached
          (same_entry (boxes_of s l) 0 f (payload_of s l 0) latest.anchor (in_map s l 0 there)
          latest.there ∙ latest.others f low lt);
    }
