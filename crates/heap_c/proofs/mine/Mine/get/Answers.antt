use Rattle.std.proofs.Common.{arith, inl, inr, refl, subst}
use Rattle.heap_c.specs.Refusing.{IsVal}
use Rattle.heap_c.specs.Turns.{NamesNone, NamesPlace}
use Rattle.heap_c.specs.declared.turns.Turns.{Turns}
use Rattle.heap_c.proofs.mine.Mine.get.Goals as goal

pub returns-in_default : goal.returns-in_default
returns-in_default c = record {
  got = inl (
    omega (arith, c.if-of-eq-REF.true),
    inr (
      subst (λ (t : Turns). NamesNone t c.args.of.n) c.turns-turns.ensures.turns
          c.in_default.ensures.names,
      (refl, refl),
    ),
  );
}

pub returns-in-Ok : goal.returns-in-Ok
returns-in-Ok c =
    let turns = c.turns-turns.ensures.turns in
    record {
      got = inl (
        omega (arith, c.if-of-eq-REF.true),
        inl (
          c.in-Some.place,
          (
            subst (λ (t : Turns). NamesPlace t c.args.of.n c.in-Some.place) turns
                c.in-Some.ensures.names,
            (
              (
                c.in-Ok.value,
                (
                  subst (λ (t : Turns). IsVal t c.val_of.result c.in-Ok.value) turns
                      c.val_of.ensures.val,
                  c.in-Ok.ensures.read,
                ),
              ),
              c.in-Ok.ensures.still,
            ),
          ),
        ),
      );
    }
