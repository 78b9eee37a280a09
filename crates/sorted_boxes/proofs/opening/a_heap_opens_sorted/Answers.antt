use Rattle.std.proofs.Common.{List, sym, subst}
use Rattle.cell_words.specs.declared.fields.Field.{Field}
use Rattle.heap_rule.specs.Opening.{FirstTerms}
use Rattle.sorted_rule.specs.Opening.{first_terms}
use Rattle.sorted_rule.proofs.Openings.{firsts, opened}
use Rattle.sorted_boxes.proofs.opening.a_heap_opens_sorted.Goals as goal

pub returns : goal.returns
returns c = λ h first. (
  first_terms,
  subst (λ (rows : List (List Field)). FirstTerms rows first_terms) (sym first) firsts,
  opened h first,
)
