use Rattle.std.proofs.Common.{◌≡◌, ◌<◌, ℕ, List, Option, Some, inl, inr, refl, subst, sym}
use Rattle.std.specs.Prelude.{MatchOption, slice_get}
use Rattle.cell_making.specs.Makes.{value_at}
use Rattle.heap_c.specs.Handles.{GivesAll, OfHandleOr}
use Rattle.heap_c.specs.Holding.{Mutator, turns_of}
use Rattle.heap_c.specs.Refusing.{IsVal}
use Rattle.heap_c.specs.Turns.{NamesNone, NamesPlace}
use Rattle.heap_c.specs.declared.codes.Code.TheVariants as code
use Rattle.heap_c.specs.declared.turns.Turns.{Turns}
use Rattle.heap_c.specs.declared.values.HeapVal.{HeapVal}
use Rattle.heap_c.proofs.calls.read_all.Goals as goal

pub returns-in-None-place : goal.returns-in-None-place
returns-in-None-place c =
    let was = c.args.out.now in
    record {
      read = subst (λ (mine : Option Mutator). OfHandleOr (was ≡ was)
          (λ old new answer. GivesAll c.args.place was was old new answer) mine
          (Some c.in-Some.mine.now) code.BadPlace) (sym c.in-Some.ensures.value)
          (inr (
            subst (λ (t : Turns). NamesNone t c.args.place) c.turns-turns.ensures.turns
                c.in-None-place.ensures.names,
            ((refl, refl), refl),
          ));
    }

pub returns-in-Ok : goal.returns-in-Ok
returns-in-Ok c =
    let was = c.args.out.now in
    let given = c.give_five.new.out in
    let at = c.in-Some-place.at in
    let values = c.in-Ok.values in
    let turns = c.turns-turns.ensures.turns in
    record {
      read = subst (λ (mine : Option Mutator). OfHandleOr (given ≡ was)
          (λ old new answer. GivesAll c.args.place was given old new answer) mine
          (Some c.read_all.new.self) code.Ok) (sym c.in-Some.ensures.value)
          (inl (
            at,
            (
              subst (λ (t : Turns). NamesPlace t c.args.place at) turns
                  c.in-Some-place.ensures.names,
              (
                inl (
                  refl,
                  (
                    values,
                    (
                      subst (λ (vals : List HeapVal). (i : ℕ) → i < 5
                          → MatchOption (slice_get vals i) ⊥
                          (λ val. IsVal (turns_of c.in-Some.mine.now) val (value_at values i)))
                          (sym c.give_five.ensures.given)
                          (subst (λ (t : Turns). (i : ℕ) → i < 5
                          → MatchOption (slice_get c.vals_of.result i) ⊥
                          (λ val. IsVal t val (value_at values i))) turns c.vals_of.ensures.vals),
                      c.in-Ok.ensures.read,
                    ),
                  ),
                ),
                c.in-Ok.ensures.still,
              ),
            ),
          ));
    }
