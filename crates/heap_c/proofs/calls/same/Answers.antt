use Rattle.std.proofs.Common.{◌≡◌, Bool, Ok, Option, Some, false, inl, refl, subst, sym, true}
use Rattle.std.specs.Prelude.{pos}
use Rattle.heap_c.specs.Calls.{ComparesPlaces}
use Rattle.heap_c.specs.Handles.{GivesSame, OfHandleOr}
use Rattle.heap_c.specs.Holding.{Mutator}
use Rattle.heap_c.specs.declared.codes.Code.TheVariants as code
use Rattle.heap_c.proofs.calls.same.Goals as goal

pub returns-then-is_same : goal.returns-then-is_same
returns-then-is_same c =
    let was = c.args.same.now in
    let first = c.in-Some-place.first in
    let second = c.in-Some-place-2.second in
    record {
      same = subst (λ (mine : Option Mutator). OfHandleOr (pos 1 ≡ was)
          (λ old new answer. GivesSame c.args.one c.args.other was (pos 1) old new answer) mine
          (Some c.is_same.new.self) code.Ok) (sym c.in-Some.ensures.value)
          (inl (
            first,
            (
              c.in-Some-place.ensures.names,
              inl (
                second,
                (
                  c.in-Some-place-2.ensures.names,
                  (
                    inl (
                      refl,
                      (
                        true,
                        (
                          refl,
                          subst (λ (same : Bool). ComparesPlaces c.in-Some.mine.now.owned.held
                              c.is_same.new.self.owned.held first second (Ok same))
                              c.if-is_same.true c.in-Ok.ensures.same,
                        ),
                      ),
                    ),
                    c.in-Ok.ensures.still,
                  ),
                ),
              ),
            ),
          ));
    }

pub returns-else-is_same : goal.returns-else-is_same
returns-else-is_same c =
    let was = c.args.same.now in
    let first = c.in-Some-place.first in
    let second = c.in-Some-place-2.second in
    record {
      same = subst (λ (mine : Option Mutator). OfHandleOr (pos 0 ≡ was)
          (λ old new answer. GivesSame c.args.one c.args.other was (pos 0) old new answer) mine
          (Some c.is_same.new.self) code.Ok) (sym c.in-Some.ensures.value)
          (inl (
            first,
            (
              c.in-Some-place.ensures.names,
              inl (
                second,
                (
                  c.in-Some-place-2.ensures.names,
                  (
                    inl (
                      refl,
                      (
                        false,
                        (
                          refl,
                          subst (λ (same : Bool). ComparesPlaces c.in-Some.mine.now.owned.held
                              c.is_same.new.self.owned.held first second (Ok same))
                              c.if-is_same.false c.in-Ok.ensures.same,
                        ),
                      ),
                    ),
                    c.in-Ok.ensures.still,
                  ),
                ),
              ),
            ),
          ));
    }
