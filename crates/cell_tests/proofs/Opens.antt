-- The opening of a heap with the counter.
use Rattle.std.proofs.Common.{◌∷◌, ℕ, zero, suc, List, [], None, refl}
use Rattle.cell_tests.specs.Counting.{Counts}
use Rattle.cell_tests.specs.declared.counter.Added.{Added}
use Rattle.cell_words.specs.declared.fields.Field.{Field}
use Rattle.cell_words.specs.declared.fields.Field.TheVariants as field
use Rattle.dlg_core.specs.Reachable.{anchor}
use Rattle.heap_rule.specs.Boxes.{payload_of}
use Rattle.heap_rule.specs.Lore.{Terms}
use Rattle.heap_rule.specs.NoRule.{anything_holds}
use Rattle.heap_rule.specs.Opening.{FirstTerms, opening_lore}
use Rattle.heap_rule.specs.declared.keeping.NoRule.{NoRule}
use Rattle.heap_rule.specs.Shape.{Shape}
use Rattle.heap_rule.proofs.Maps.{in_map}
use Rattle.heap_table.specs.Opening.{Opens, opening_state}

abbrev rows : List (List Field)
rows = (field.Num 0 ∷ field.Null ∷ field.Null ∷ field.Null ∷ field.Null ∷ field.Num 2 ∷ []) ∷ []

abbrev no_terms : Terms
no_terms x = None

first_terms : FirstTerms rows no_terms
first_terms zero = refl
first_terms (suc x) = refl

abbrev nothing_added : ℕ → ℕ → Added
nothing_added number setting = record { sum = 0 }

abbrev shape_of : ℕ → Shape
shape_of cells = record { cells = cells; mutators = 2; setting = 0; first = rows }

pub opens : (cells : ℕ) → Opens nothing_added Counts (shape_of cells)
opens cells =
    let s = opening_state (shape_of cells) in
    let l = opening_lore no_terms 2 in
    let there = in_map s l 0 record { reached = anchor refl; box = refl; old = refl } in (
      no_terms,
      first_terms,
      (payload_of s l 0, there, refl),
    )

-- and of one whose client asks for nothing
pub opens_freely : Opens {P = NoRule} (λ number setting. record {}) anything_holds
    record { cells = 3; mutators = 1; setting = 0; first = rows }
opens_freely = (no_terms, first_terms, tt)

-- The heap of three boxes, of which the anchor names the others.

abbrev family : List (List Field)
family =
    (field.Cell 2 ∷ field.Num 1 ∷ field.Cell 1 ∷ field.Null ∷ field.Cell 2 ∷ field.Num 2 ∷ [])
    ∷ (field.Null ∷ field.Null ∷ field.Null ∷ field.Null ∷ field.Null ∷ field.Num 2 ∷ [])
    ∷ (field.Null ∷ field.Null ∷ field.Null ∷ field.Null ∷ field.Null ∷ field.Num 2 ∷ [])
    ∷ []

family_terms : FirstTerms family no_terms
family_terms zero = refl
family_terms (suc zero) = refl
family_terms (suc (suc zero)) = refl
family_terms (suc (suc (suc x))) = refl

pub family_opens : Opens {P = NoRule} (λ number setting. record {}) anything_holds
    record { cells = 3; mutators = 1; setting = 0; first = family }
family_opens = (no_terms, family_terms, tt)
