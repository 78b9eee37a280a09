-- Where a word of a line ends, and that a part of a plain line is plain.
use Rattle.std.proofs.Common.{◌≡◌, ℕ, Bool, true, not, List, length, drop, arith, unwrap_or}
use Rattle.std.specs.Prelude.{position}
use Rattle.std.specs.List.{position_or_len, list_all}
use Rattle.std.proofs.lemmas.List.Elements.{All-drop}
use Rattle.std.proofs.lemmas.List.Sums.{prefix_len-le-length, AllPass-from_list_all}
use Rattle.std.proofs.lemmas.List.Sums.{list_all-from_AllPass}

-- `position` with the length in place of None
pub unwrap_position : {X : Type 0} (p : X → Bool) (xs : List X)
    → unwrap_or (position p xs) (length xs) ≡ position_or_len p xs
unwrap_position p xs = grind (arith, prefix_len-le-length (λ x. not (p x)) xs)

-- what passes as a whole passes from a place on
pub list_all-drop : {X : Type 0} (p : X → Bool) (n : ℕ) (xs : List X) → list_all p xs ≡ true
    → list_all p (drop n xs) ≡ true
list_all-drop p n xs all =
    list_all-from_AllPass p (drop n xs) (All-drop (λ x. p x ≡ true) n xs
    (AllPass-from_list_all p xs all))
