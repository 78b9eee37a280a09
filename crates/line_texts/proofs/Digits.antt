-- The value of up to 19 digits, read from the left to the right, fits a word.
use Rattle.std.proofs.Common.{◌≡◌, ℕ, ◌+◌, ◌-◌, ◌*◌, ◌^◌, ◌<◌, ◌≤◌, true, List, [], ◌∷◌, length}
use Rattle.std.proofs.Common.{take, get_or, arith, rules, tests, lit<}
use Rattle.std.specs.Char.{is_ascii_digit}
use Rattle.std.specs.Int.{IsInRange}
use Rattle.std.specs.List.{list_all}
use Rattle.std.specs.Str.Parse.{digits_value, AllDigits}
use Rattle.std.proofs.Math.Nat.{pow-le-pow_right}
use Rattle.std.proofs.lemmas.Bool.{and_parts}
use Rattle.std.proofs.lemmas.Int.Digits.{digits_value-lt, digits_value_more}
use Rattle.std.proofs.lemmas.List.{length-take}
use Rattle.std.proofs.lemmas.List.Elements.{All-take, All-get_or}
use Rattle.std.proofs.lemmas.List.Sums.{AllPass-from_list_all, list_all-from_AllPass}
use Rattle.std.proofs.lemmas.Str.{digit_value_digit}

in_range : (c : ℕ) → is_ascii_digit c ≡ true → IsInRange 48 57 c
in_range c is = search (rules, tests)

pub all_digits : (ds : List ℕ) → list_all is_ascii_digit ds ≡ true → AllDigits 10 ds
all_digits [] all = tt
all_digits (c ∷ cs) all =
    let parts = and_parts (is_ascii_digit c) (list_all is_ascii_digit cs) all in
    let is = in_range c parts.0 in
    let value = digit_value_digit c is in
    (omega arith, all_digits cs parts.1)

pub power_grows : (n most : ℕ) → n ≤ most → 10 ^ n ≤ 10 ^ most
power_grows n most short = pow-le-pow_right {n = 10} (lit< tt) short

-- the digits up to a place
pub value_below : (word : List ℕ) (n : ℕ) → list_all is_ascii_digit word ≡ true
    → digits_value 10 (take n word) < 10 ^ length word
value_below word n all =
    let front = list_all-from_AllPass is_ascii_digit (take n word)
    (All-take (λ c. is_ascii_digit c ≡ true) n word
    (AllPass-from_list_all is_ascii_digit word all)) in
    let below = digits_value-lt 10 (take n word) (all_digits (take n word) front) in
    let most = power_grows (length (take n word)) (length word)
    (omega (arith, length-take n word)) in
    omega arith

pub value_small : (word : List ℕ) (n : ℕ) → list_all is_ascii_digit word ≡ true → length word ≤ 19
    → digits_value 10 (take n word) < 10 ^ 19
value_small word n all short =
    let below = value_below word n all in
    let most = power_grows (length word) 19 short in
    omega arith

-- one digit more
pub value_more : (word : List ℕ) (i : ℕ) → list_all is_ascii_digit word ≡ true → i < length word
    → digits_value 10 (take (i + 1) word) ≡ digits_value 10 (take i word) * 10 +
    (get_or word i 0 - 48)
value_more word i all within =
    let digit = All-get_or (λ c. is_ascii_digit c ≡ true) word i 0 within
    (AllPass-from_list_all is_ascii_digit word all) in
    let value = digit_value_digit (get_or word i 0) (in_range (get_or word i 0) digit) in
    let more = digits_value_more 10 word i within in
    omega arith
