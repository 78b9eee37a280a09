use Rattle.std.proofs.Common.{◌≡◌, List, length, sym, ◌∙◌, ap, subst, arith}
use Rattle.cell_words.specs.declared.fields.Field.{Field}
use Rattle.collector_tests.specs.Rows.{HaveTerms, chain_rows}
use Rattle.collector_tests.proofs.Terms.{chain_first, chain_have, chain_length}
use Rattle.dlg_core.specs.FirstRows.{are_first_rows}
use Rattle.collector_tests.proofs.heaps.open_chain.Goals as goal
use Rattle.collector_tests.proofs.heaps.open_chain.Goals.{After-deref}

rows_are : (c : After-deref) → c.deref.result.now ≡ chain_rows
rows_are c = cc (c.in_ok-rows.ensures.rows, c.deref.ensures.value)

pub open_one-requires-clause-terms : goal.open_one-requires-clause-terms
open_one-requires-clause-terms c =
    subst (λ (first : List (List Field)). HaveTerms first) (sym (rows_are c)) chain_have

pub open_one-requires-clause-rows : goal.open_one-requires-clause-rows
open_one-requires-clause-rows c =
    ap (λ (first : List (List Field)). are_first_rows first) (rows_are c) ∙ chain_first

pub open_one-requires-clause-fit : goal.open_one-requires-clause-fit
open_one-requires-clause-fit c =
    omega (arith, ap (λ (first : List (List Field)). length first) (rows_are c), chain_length)
