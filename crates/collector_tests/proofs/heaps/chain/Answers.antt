use Rattle.std.proofs.Common.{◌≡◌, ◌≤◌, ℕ, List, ◌∷◌, [], ◌++◌, map, sym, ◌∙◌, ap, arith}
use Rattle.std.specs.List.{range_with_len}
use Rattle.std.proofs.lemmas.List.FromFn.{map-range_with_len_more}
use Rattle.cell_words.specs.declared.fields.Field.{Field}
use Rattle.collector_tests.specs.Rows.{chain_row}
use Rattle.collector_tests.proofs.heaps.chain.Goals as goal

pub loop-cell-preserved : goal.loop-cell-preserved
loop-cell-preserved c =
    c.in_ok-push.ensures.items
    ∙ ap (λ (rows : List (List Field)). rows ++ c.chain_row.result ∷ []) c.loop-cell.invariant
    ∙ ap (λ (row : List Field). map chain_row (range_with_len 0 c.loop-cell.cell) ++ row ∷ [])
    c.chain_row.ensures.row
    ∙ sym (map-range_with_len_more chain_row 0 c.loop-cell.cell c.loop-cell.cell (omega arith))

pub returns : goal.returns
returns c = record {
  rows = c.loop-cell.invariant
      ∙ ap (λ (n : ℕ). map chain_row (range_with_len 0 n)) (all c.loop-cell.cell
      c.loop-cell-test.false c.loop-cell.auto.cell-end);
}
  where
    all : (n : ℕ) → 1000 ≤ n → n ≤ 1000 → n ≡ 1000
    all n low high = omega arith
