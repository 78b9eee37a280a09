use Rattle.std.proofs.Common.{◌≡◌, List, Ok, Option, Some, inl, length, refl, subst, sym}
use Rattle.heap_c.specs.Handles.{GivesAllGot, OfHandleOr}
use Rattle.heap_c.specs.Holding.{Mutator}
use Rattle.heap_c.specs.Records.{GetsAllFields}
use Rattle.heap_c.specs.declared.codes.Code.TheVariants as code
use Rattle.heap_c.specs.declared.values.HeapVal.{HeapVal}
use Rattle.heap_c.proofs.private.get_all.Goals as goal

pub returns-in-Ok : goal.returns-in-Ok
returns-in-Ok c =
    let was = c.args.out.now in
    let given = c.give_five.new.out in
    record {
      got = subst (λ (mine : Option Mutator). OfHandleOr (given ≡ was)
          (λ old new answer. GivesAllGot c.args.of was given old new answer) mine
          (Some c.get_all.new.self) code.Ok) (sym c.in-Some.ensures.value)
          (inl (
            refl,
            subst (λ (vals : List HeapVal). GetsAllFields c.in-Some.mine.now
                c.get_all.new.self c.args.of (length was) (Ok vals)) (sym c.give_five.ensures.given)
                c.in-Ok.ensures.got,
          ));
    }
