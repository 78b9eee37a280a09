-- Filling an empty queue, number by number.
use Rattle.std.proofs.Common.{◌≡◌, ℕ, zero, suc, ◌+◌, ◌-◌, ◌≤◌, ◌++◌, List, [], ◌∷◌, ap, sym, ◌∙◌}
use Rattle.std.proofs.Common.{arith}
use Rattle.std.specs.Prelude.{Some}
use Rattle.std.specs.List.{range_with_len}
use Rattle.free_cells.specs.Counts.{filled, pushed, unused}

one_more : (first count : ℕ) → range_with_len first count ++ (first + count) ∷ []
    ≡ range_with_len first (suc count)
one_more first zero = let e : first + 0 ≡ first = omega arith in ap (λ (x : ℕ). x ∷ []) e
one_more first (suc count) =
    let e : first + suc count ≡ first + 1 + count = omega arith in
    ap (λ (x : ℕ). first ∷ (range_with_len (first + 1) count ++ x ∷ [])) e
    ∙ ap (λ (l : List ℕ). first ∷ l) (one_more (first + 1) count)

-- the number that comes next joins those that are there
pub fills : (cells first cell : ℕ) → first ≤ cell → pushed cell (filled cells first (cell - first))
    ≡ filled cells first (cell + 1 - first)
fills cells first cell from =
    let more : cell + 1 - first ≡ suc (cell - first) = omega (arith, from) in
    let there : cell ≡ first + (cell - first) = omega (arith, from) in
    let content = ap (λ (x : ℕ). range_with_len first (cell - first) ++ x ∷ []) there
    ∙ one_more first (cell - first) ∙ ap (range_with_len first) (sym more) in
    let count : cell - first + 1 ≡ cell + 1 - first = omega (arith, from) in
    λ i. record unused { cells = cells; content = Some (content i); pushes = count i }
