use Rattle.std.proofs.Common.{◌≡◌, Option, Some, inl, refl, subst, sym}
use Rattle.heap_c.specs.Handles.{GivesPlace, OfHandleOr}
use Rattle.heap_c.specs.Holding.{Mutator}
use Rattle.heap_c.specs.Turns.{IsNumber}
use Rattle.heap_c.specs.declared.codes.Code.TheVariants as code
use Rattle.heap_c.specs.declared.turns.Turns.{Turns}
use Rattle.heap_c.proofs.calls.make.Goals as goal

pub returns-in-Ok : goal.returns-in-Ok
returns-in-Ok c =
    let was = c.args.place.now in
    let given = c.number.result in
    record {
      made = subst (λ (mine : Option Mutator). OfHandleOr (given ≡ was)
          (λ old new answer. GivesPlace c.args.vals.now was given old new answer) mine
          (Some c.make.new.self) code.Ok) (sym c.in-Some.ensures.value) (
            inl (
              refl,
              (
                c.in-Ok.at,
                (
                  subst (λ (t : Turns). IsNumber t given c.in-Ok.at) c.turns-turns.ensures.turns
                      c.number.ensures.number,
                  c.in-Ok.ensures.made,
                ),
              ),
            ),
            c.in-Ok.ensures.still,
          );
    }
