use Rattle.std.proofs.Common.{◌≡◌, ◌==◌, ◌∙◌, ℕ, true, List, [], ◌∷◌, Ok, length, refl, sym, arith}
use Rattle.std.proofs.lemmas.Bool.Decides.{nat_tests}
use Rattle.core_machine.specs.declared.events.Event.TheVariants as event
use Rattle.core_replay.specs.Steps.{place_in}
use Rattle.core_replay.proofs.event.read_place.Goals as goal

is_zero : (n : ℕ) → true ≡ (n == 0) → n ≡ 0
is_zero n is = grind (arith, nat_tests)

-- a line that ends here keeps no copy
none_kept : (i count : ℕ) (rest : List ℕ) → length rest ≡ 0
    → Ok (event.Keep i count 0 0) ≡ place_in i count rest
none_kept i count [] ends = refl
none_kept i count (byte ∷ bytes) ends = absurd (omega arith)

pub returns-then-is_empty : goal.returns-then-is_empty
returns-then-is_empty c =
    none_kept c.args.i c.args.count c.args.rest.now
    (is_zero _ (sym c.if-is_empty.true ∙ c.is_empty.ensures))
