-- The opening of a heap with an empty list.
use Rattle.std.proofs.Common.{ℕ, zero, suc, None, refl}
use Rattle.heap_rule.specs.Lore.{Terms}
use Rattle.heap_rule.specs.NoRule.{anything_holds}
use Rattle.heap_rule.specs.Opening.{FirstTerms}
use Rattle.heap_table.specs.Opening.{Opens}
use Rattle.example_list.specs.Leaving.{list_rows, list_shape, nothing_known}

abbrev no_terms : Terms
no_terms x = None

first_terms : FirstTerms list_rows no_terms
first_terms zero = refl
first_terms (suc x) = refl

pub opens_freely : (cells threads : ℕ)
    → Opens nothing_known anything_holds (list_shape cells threads)
opens_freely cells threads = (no_terms, first_terms, tt)
