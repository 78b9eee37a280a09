-- The word of a number without zeros before it is what the number is written as.
use Rattle.std.proofs.Common.{◌≡◌, ℕ, ◌^◌, ◌<◌, ◌≤◌, inl, inr, Bool, true, false, List, [], ◌∷◌}
use Rattle.std.proofs.Common.{length, Some}
use Rattle.std.proofs.Common.{None, refl, sym, ap, ◌∙◌, arith, get_or, rules, tests}
use Rattle.std.specs.Prelude.{Option, decimal, not, nat_le, ◌==◌, ◌&&◌, if◌then◌else◌}
use Rattle.std.specs.Char.{is_ascii_digit}
use Rattle.std.specs.Int.{IsInRange}
use Rattle.std.specs.List.{list_all}
use Rattle.std.specs.Str.Parse.{digits_value, AllDigits}
use Rattle.std.proofs.lemmas.Bool.{and_from, and_parts, cases_lt, eq-eqb, eqb-true, le-leb}
use Rattle.std.proofs.lemmas.Bool.{leb-true}
use Rattle.std.proofs.lemmas.Fmt.{decimal_is_IsNumeral, decimal-digits_value, first_decimal}
use Rattle.std.proofs.lemmas.Fmt.{length-decimal-le, decimal_digit}
use Rattle.std.proofs.lemmas.Str.Parse.{numerals_by_value, tells_digits, digit_from_value}
use Rattle.line_texts.specs.Numbers.{are_digits, decimal_of, digits_of, is_shortest}
use Rattle.line_texts.proofs.Digits.{all_digits}

is_digit : (c : ℕ) → IsInRange 48 57 c → is_ascii_digit c ≡ true
is_digit c is = search (rules, tests)

digits_all : (ds : List ℕ) → AllDigits 10 ds → list_all is_ascii_digit ds ≡ true
digits_all [] all = refl
digits_all (c ∷ cs) all = rw (is_digit c (digit_from_value c all.0), digits_all cs all.1) refl

-- no zero stands before the number
shortest : (ds : List ℕ) → (get_or ds 0 0 ≡ 48 → length ds ≡ 1) → is_shortest ds ≡ true
shortest [] one = refl
shortest (d ∷ []) one = refl
shortest (d ∷ e ∷ ds) one =
    elim (d == 48) as (λ b. (d == 48) ≡ b → not b ≡ true) [
      | true ↦ λ is. absurd (let few = one (eqb-true d 48 is) in omega (arith, few))
      | false ↦ λ is. refl
    ] refl

one_zero : (ds : List ℕ) → is_shortest ds ≡ true → 0 < length ds → get_or ds 0 0 ≡ 48
    → length ds ≡ 1
one_zero [] is some zero = absurd (omega (arith, some))
one_zero (d ∷ []) is some zero = refl
one_zero (d ∷ e ∷ ds) is some zero = absurd (let here = eq-eqb d 48 zero in
    let no : not true ≡ true = ap not (sym here) ∙ is in cc)

-- of the number 0 the zero is the only digit
one_digit : (n : ℕ) → n < 2 ^ 64 → get_or (decimal n) 0 0 ≡ 48 → length (decimal n) ≡ 1
one_digit n small zero = elim (cases_lt 0 n) [
  | inl some ↦ absurd (let first = first_decimal n some small in omega (arith, first, zero))
  | inr none ↦ let is : n ≡ 0 = omega arith in
      ap (λ m. length (decimal m)) is ∙ ap length (decimal_digit 0 (omega arith))
]

-- a number is read from its text
pub decimal_of-decimal : (n : ℕ) → n < 10 ^ 19 → decimal_of 19 (decimal n) ≡ Some n
decimal_of-decimal n small =
    let fits : n < 2 ^ 64 = omega (arith, small) in
    let is = decimal_is_IsNumeral n fits in
    let one = shortest (decimal n) (one_digit n fits) in
    let few = length-decimal-le 19 n (omega arith) small fits in
    let digits : are_digits 19 (decimal n) ≡ true =
    and_from _ _ (and_from _ _ (le-leb 1 (length (decimal n)) is.0.0)
    (le-leb (length (decimal n)) 19 few)) (digits_all (decimal n) is.0.1) in
    ap (λ b. if b then digits_of 19 (decimal n) else None) one
    ∙ ap (λ b. if b then Some (digits_value 10 (decimal n)) else None) digits
    ∙ ap (λ m. Some m) is.1

-- the parts of a choice that gives something
some_if : (b : Bool) (o : Option ℕ) (n : ℕ) → (if b then o else None) ≡ Some n
    → (b ≡ true) × (o ≡ Some n)
some_if true o n is = (refl, is)
some_if false o n is = absurd cc

-- and no other word is its own
pub decimal-decimal_of : (word : List ℕ) (n : ℕ) → n < 10 ^ 19 → decimal_of 19 word ≡ Some n
    → decimal n ≡ word
decimal-decimal_of word n small is =
    let one = some_if (is_shortest word) (digits_of 19 word) n is in
    let all = some_if (are_digits 19 word) (Some (digits_value 10 word)) n one.1 in
    let value : digits_value 10 word ≡ n = cc in
    let least = nat_le 1 (length word) in
    let most = nat_le (length word) 19 in
    let parts = and_parts (least && most) (list_all is_ascii_digit word) all.0 in
    let sizes = and_parts least most parts.0 in
    let one_more : 1 ≤ length word = leb-true 1 (length word) sizes.0 in
    let some : 0 < length word = omega (arith, one_more) in
    ap decimal (sym value)
    ∙ decimal-digits_value (numerals_by_value _ tells_digits) word (all_digits word parts.1) some
    (one_zero word one.0 some) (omega (arith, value, small))

pub number_found : (word : List ℕ) (n : ℕ) → n < 10 ^ 19 → decimal n ≡ word
    → decimal_of 19 word ≡ Some n
number_found word n small text = ap (decimal_of 19) (sym text) ∙ decimal_of-decimal n small
