-- A list's first element, and those after it as the code takes them.
use Rattle.std.proofs.Common.{◌≡◌, ◌-◌, ◌≤◌, List, [], ◌∷◌, length, take}
use Rattle.std.proofs.Common.{drop, get_or, take_all}
use Rattle.std.proofs.Common.{refl, arith}

pub first_and_behind : {X : Type 0} (xs : List X) (x : X) → 1 ≤ length xs → x ≡ get_or xs 0 x
    → xs ≡ x ∷ take (length xs - 1) (drop 1 xs)
first_and_behind [] x some is = absurd (omega arith)
first_and_behind (y ∷ ys) x some is =
    let all : take (length (y ∷ ys) - 1) (drop 1 (y ∷ ys)) ≡ ys = take_all _ ys (omega arith) in
    let first : x ≡ y = is in
    rw (all, first) refl
