-- The opening of a heap with the box, in which nothing is kept.
use Rattle.std.proofs.Common.{ℕ, refl, ap}
use mathlib.Core.Option.{some-injective}
use Rattle.cell_words.specs.declared.fields.Field.TheVariants as word
use Rattle.heap_rule.specs.Boxes.{payload_of}
use Rattle.heap_rule.specs.Lore.{Plain}
use Rattle.heap_table.specs.Opening.{Opens}
use Rattle.mutator_threads.proofs.FirstRows.{anchor_is, box_is, first_lore, first_state}
use Rattle.mutator_threads.proofs.FirstRows.{first_terms, no_terms}
use Rattle.example_root.specs.Leaving.{kept_shape}
use Rattle.example_root.specs.Rule.{HasKept, kept_term, nothing_kept}
use Rattle.example_root.specs.declared.kept.Kept.{Kept}

pub opens : (cells : ℕ) → Opens nothing_kept HasKept (kept_shape cells)
opens cells =
    let s = first_state cells 2 word.Null in
    let l = first_lore cells 2 word.Null in (
      no_terms cells 2 word.Null,
      first_terms cells 2 word.Null,
      record {
        anchor = payload_of s l 0;
        anchor_is = anchor_is cells 2 word.Null;
        names = refl;
        box = payload_of s l 1;
        box_is = box_is cells 2 word.Null;
        kept = λ pass at. ap (λ (p : Kept). Plain (kept_term p.number))
            (some-injective (nothing_kept 0 0) pass at);
      },
    )
