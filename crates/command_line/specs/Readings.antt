-- How the values are read that `clap` finds for an argument.
-- Source: this project's own.
use Rattle.std.specs.Prelude.{◌≡◌, ℕ, Bool, true, false, List, [], ◌∷◌, Option, Some}
use Rattle.std.specs.Prelude.{None, bytes_eq}
use Rattle.std.specs.Prelude.{codes}
use Rattle.std.specs.Str.Parse.{digits_value, without_leading_plus}
use Rattle.clap.specs.Words.{IsUnsignedIn, Row, Rule, Text, one_of}
use Rattle.clap.specs.declared.builder.value_parser.ValueParser.{ValueParser}
use Rattle.clap.specs.declared.builder.value_parser.ValueParser.TheVariants.{Unsigned}

-- the number that a text is
abbrev pub number_in : Option Text → Option ℕ
number_in None = None
number_in (Some text) = Some (digits_value 10 (without_leading_plus text))

-- whether a flag is there
abbrev pub flag_in : Option Text → Bool
flag_in None = false
flag_in (Some text) = bytes_eq text (codes "true")

-- the texts, of which there may be none
abbrev pub names_in : Option (List Text) → List Text
names_in None = []
names_in (Some names) = names

-- what is found for this id is a number in these ends
pub record IsNumberWithin (id : Text) (least most : ℕ) (rows : List Row) : Type 0 where
  pub number : (text : Text) → one_of id rows ≡ Some text → IsUnsignedIn least most text

-- no id that `clap` gives an argument of its own
abbrev pub IsOwn : Text → Type 0
IsOwn id = (bytes_eq id [] ≡ false) × (bytes_eq id (codes "help") ≡ false)
    × (bytes_eq id (codes "version") ≡ false)

-- the parser is this one, where it is asked for
abbrev pub IsReadBy : Bool → ValueParser → Option ValueParser → Type 0
IsReadBy true parser read = read ≡ Some parser
IsReadBy false parser read = Unit {0}

-- each argument with this id has this parser
abbrev pub AreReadBy : Text → ValueParser → List Rule → Type 0
AreReadBy id parser [] = Unit {0}
AreReadBy id parser (rule ∷ rules) =
    IsReadBy (bytes_eq rule.id id) parser rule.parser × AreReadBy id parser rules

-- what is found for an argument with ends is a number in them
pub record AreAccepted (rules : List Rule) (rows : List Row) : Type 0 where
  pub numbers : (id : Text) (least most : ℕ) → IsOwn id → AreReadBy id (Unsigned least most) rules
      → IsNumberWithin id least most rows
