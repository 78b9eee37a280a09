-- Counting: where each stretch has a mark of a kind, there are at least as many as entries.
use Rattle.std.proofs.Common.{◌≡◌, ◌≤◌, ◌+◌, ℕ, Bool, true, cond, List, [], ◌∷◌, ◌++◌, length, ap}
use Rattle.std.proofs.Common.{arith}
use Rattle.std.specs.List.{count_by}
use Rattle.std.proofs.lemmas.List.Sums.{sum_by-append}
use Rattle.trails.specs.Asks.{Ask, InOrder, pass, here, Meets}
use Rattle.trails.specs.Marks.{Mark}
use Rattle.trails.specs.Stretches.{InTurn}

count_append : (test : Mark → Bool) (xs ys : List Mark)
    → count_by test (xs ++ ys) ≡ count_by test xs + count_by test ys
count_append test xs ys = sum_by-append (λ m. cond (test m) 1 0) xs ys

-- a mark that meets the first ask is among them
pub order_counted : (test : Mark → Bool) {ask : Ask} {asks : List Ask} (marks : List Mark)
    → ((mark : Mark) → Meets ask mark → test mark ≡ true) → InOrder (ask ∷ asks) marks
    → 1 ≤ count_by test marks
order_counted test [] passes shown = elim shown [ ]
order_counted test (mark ∷ marks) passes (pass rest) =
    let more = order_counted test marks passes rest in
    let is : count_by test (mark ∷ marks) ≡ 0 + cond {A = ℕ} (test mark) 1 0 + count_by test marks =
    count_append test (mark ∷ []) marks in
    omega (arith, more, is)
order_counted test (mark ∷ marks) passes (here meets rest) =
    let one : cond {A = ℕ} (test mark) 1 0 ≡ 1 = ap (λ b. cond b 1 0) (passes mark meets) in
    let is : count_by test (mark ∷ marks) ≡ 0 + cond {A = ℕ} (test mark) 1 0 + count_by test marks =
    count_append test (mark ∷ []) marks in
    omega (arith, one, is)

pub turns_counted : {E : Type 0} (P : E → List Mark → Type 0) (test : Mark → Bool)
    → ((e : E) (marks : List Mark) → P e marks → 1 ≤ count_by test marks)
    → (es : List E) (marks : List Mark) → InTurn P es marks → length es ≤ count_by test marks
turns_counted P test one [] marks turns = omega arith
turns_counted P test one (e ∷ es) marks turns =
    let here_one = one e turns.stretch turns.meets in
    let rest = turns_counted P test one es turns.after turns.rest in
    let whole : count_by test marks
    ≡ count_by test (turns.before ++ (turns.stretch ++ turns.after)) =
    ap (λ ms. count_by test ms) turns.is in
    let outer = count_append test turns.before (turns.stretch ++ turns.after) in
    let inner = count_append test turns.stretch turns.after in
    omega (arith, here_one, rest, whole, outer, inner)
