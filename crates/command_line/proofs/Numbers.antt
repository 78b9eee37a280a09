-- What `clap` reads where the text of an argument, if there is one, is a number in some ends.
use Rattle.std.proofs.Common.{◌≡◌, ◌≤◌, ap, ℕ, Option, Some, None, refl}
use Rattle.std.specs.Prelude.{Result, Ok, Err, IfSome}
use Rattle.std.specs.Str.Parse.{ExplainsUnsignedError, HasUnsignedDigitsIfOk, ParsesUnsigned}
use Rattle.std.specs.Str.Parse.{digits_value, without_leading_plus}
use Rattle.std.specs.declared.num.ParseIntError.{ParseIntError}
use Rattle.clap.specs.Matches.{TriesOne}
use Rattle.clap.specs.Values.{IsUnsignedIn}
use Rattle.clap.specs.Walk.{Text}
use Rattle.command_line.specs.Readings.{number_in}

-- an answer with what was found
abbrev answer : (E : Type 0) → Option ℕ → Result (Option ℕ) E
answer E found = Ok found

-- it is never refused
pub never_refused : (E : Type 0) (one : Option Text) (least most : ℕ) (error : E)
    → ((text : Text) → one ≡ Some text → IsUnsignedIn least most text)
    → (one ≡ None → Err error ≡ answer E None)
    → ((text : Text) → one ≡ Some text → ParsesUnsigned 64 10 text (Err error))
    → ⊥
never_refused E None least most error within none value =
    let bad = none refl in
    cc
never_refused E (Some text) least most error within none value =
    let is = within text refl in
    value text refl (is.0, is.1)

-- what the reader of `u64` gives of a text
abbrev Gives : Text → Result ℕ ParseIntError → Type 0
Gives text r =
    ParsesUnsigned 64 10 text r × ExplainsUnsignedError 10 text r × HasUnsignedDigitsIfOk text r

-- the number of the text
pub number_read : (one : Option Text) (found : Option ℕ)
    → (one ≡ None → answer ParseIntError found ≡ answer ParseIntError None)
    → ((text : Text) → one ≡ Some text → TriesOne Gives text (answer ParseIntError found))
    → found ≡ number_in one
number_read None found none value =
    let same = none refl in
    cc
number_read (Some text) None none value = absurd (value text refl)
number_read (Some text) (Some number) none value = ap Some (value text refl).0.1

-- which is in the ends
pub number_within : (one : Option Text) (found : Option ℕ) (least most : ℕ)
    → ((text : Text) → one ≡ Some text → IsUnsignedIn least most text) → found ≡ number_in one
    → IfSome found (λ number. (least ≤ number) × (number ≤ most))
number_within None None least most within is = tt
number_within None (Some number) least most within is = cc
number_within (Some text) None least most within is = cc
number_within (Some text) (Some number) least most within is =
    let same : number ≡ digits_value 10 (without_leading_plus text) = cc in
    let ends = within text refl in
    (rw same ends.2, rw same ends.3)
