-- What a command reads in words that it takes, and in words that it refuses.
use Rattle.std.proofs.Common.{◌≡◌, ◌∙◌, ap, sym, subst, List, [], ◌∷◌, Option}
use Rattle.std.proofs.Common.{Some, None, refl}
use Rattle.std.specs.Prelude.{Result, Err, ok_or, option_map}
use Rattle.clap.specs.Words.{App, Kinds, Row, Text, fault_of, matches_of}
use Rattle.command_line.specs.Requests.{Gives, read_by, taken}
use Rattle.command_line.specs.declared.request.WordsFault.{WordsFault}
use Rattle.command_line.specs.declared.request.WordsFault.TheVariants as fault

pub takes : {A : Type 0} (app wanted : App) (reading : List Row → Option A) (words : List Text)
    (rows : List Row) → app ≡ wanted → fault_of app words ≡ [] → rows ≡ matches_of app words
    → read_by wanted reading words ≡ reading rows
takes app wanted reading words rows is free found =
    subst (λ a. read_by a reading words ≡ reading rows) is
    (ap (λ kinds. taken kinds (reading (matches_of app words))) free ∙ ap reading (sym found))

none_taken : {A : Type 0} (kinds : Kinds) (found : Option A) → (kinds ≡ [] → ⊥)
    → taken kinds found ≡ None
none_taken [] found some = absurd (some refl)
none_taken (kind ∷ kinds) found some = refl

pub refuses : {V A : Type 0} (seen : V → A) (app wanted : App) (reading : List Row → Option A)
    (words : List Text) (error : WordsFault) → app ≡ wanted
    → (error ≡ fault.Usage → fault_of app words ≡ [] → ⊥)
    → Gives seen (Err error) (read_by wanted reading words)
refuses seen app wanted reading words fault.Usage is some =
    subst (λ a. read_by a reading words ≡ None) is
    (none_taken (fault_of app words) (reading (matches_of app words)) (some refl))
refuses seen app wanted reading words fault.NoMemory is some = tt

-- a request of a kind is refused where what it is of is
pub refuses_as : {V W A B : Type 0} (seen : V → A) (shown : W → B) (kind : A → B) (error : WordsFault)
    (asked : Option A) → Gives seen (Err error) asked → Gives shown (Err error) (option_map kind asked)
refuses_as seen shown kind fault.Usage asked none = ap (option_map kind) none
refuses_as seen shown kind fault.NoMemory asked none = tt

-- an option's value, or usage where it has none
pub asked_for : {V A : Type 0} (seen : V → A) (found : Option V) (result : Result V WordsFault)
    (asked : Option A) → asked ≡ option_map seen found → result ≡ ok_or found fault.Usage
    → Gives seen result asked
asked_for seen None result asked is gives = subst (λ r. Gives seen r asked) (sym gives) is
asked_for seen (Some value) result asked is gives =
    subst (λ r. Gives seen r asked) (sym gives) is

-- an option seen as it is
pub as_it_is : {A : Type 0} (found : Option A) → found ≡ option_map (λ a. a) found
as_it_is None = refl
as_it_is (Some a) = refl
