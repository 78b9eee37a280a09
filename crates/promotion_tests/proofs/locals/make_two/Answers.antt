use Rattle.minor_heap.specs.declared.fields.MinorField.TheVariants as field
use Rattle.promotion_tests.proofs.Plain.{all_five}
use Rattle.promotion_tests.proofs.locals.make_two.Goals as goal

pub returns : goal.returns
returns c = record {
  local = λ known so.
      let nothing = field.Null in
      let oldest = field.Minor record { number = 0 } in
      let first = c.make-first.ensures.local known so
      (all_five known (field.Num 5) nothing nothing nothing nothing tt tt tt tt tt) in
      let unfit = c.make-unfit.ensures.local known first
      (all_five known (field.Minor record { number = 1 }) nothing nothing nothing nothing tt tt tt
      tt tt) in
      let second = c.make-second.ensures.local known unfit
      (all_five known oldest oldest nothing nothing nothing tt tt tt tt tt) in
      c.make-full.ensures.local known second
      (all_five known nothing nothing nothing nothing nothing tt tt tt tt tt);
}
