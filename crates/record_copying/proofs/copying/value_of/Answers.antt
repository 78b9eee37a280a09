use Rattle.std.proofs.Common.{◌∙◌, ap, sym}
use Rattle.minor_heap.specs.declared.fields.MinorField.{MinorField}
use Rattle.promotion.specs.Copying.{value_of}
use Rattle.record_copying.proofs.copying.value_of.Goals as goal

pub returns-in-Minor : goal.returns-in-Minor
returns-in-Minor c = record {
  value = ap (λ (f : MinorField). value_of c.args.places.now f)
      (sym c.in-Minor.is ∙ c.field.ensures.field);
}
