use Rattle.std.proofs.Common.{◌≡◌, Option, Some, inr, refl, subst, sym}
use Rattle.heap_c.specs.Handles.{GivesVal, OfHandleOr}
use Rattle.heap_c.specs.Holding.{Mutator}
use Rattle.heap_c.specs.Turns.{NamesNone}
use Rattle.heap_c.specs.declared.codes.Code.TheVariants as code
use Rattle.heap_c.specs.declared.turns.Turns.{Turns}
use Rattle.heap_c.proofs.calls.read.Goals as goal

pub returns-in-None-place : goal.returns-in-None-place
returns-in-None-place c =
    let was = c.args.out.now in
    record {
      read = subst (λ (mine : Option Mutator). OfHandleOr (was ≡ was)
          (λ old new answer. GivesVal c.args.place c.args.field was was old new answer) mine
          (Some c.in-Some.mine.now) code.BadPlace) (sym c.in-Some.ensures.value)
          (inr (
            subst (λ (t : Turns). NamesNone t c.args.place) c.turns-turns.ensures.turns
                c.in-None-place.ensures.names,
            ((refl, refl), refl),
          ));
    }
