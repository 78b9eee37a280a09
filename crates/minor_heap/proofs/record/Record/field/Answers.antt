use Rattle.std.proofs.Common.{◌<◌, length, ap, ◌∙◌, sym, arith}
use Rattle.std.specs.Prelude.{List, slice_index_or}
use Rattle.minor_heap.specs.declared.fields.MinorField.{MinorField}
use Rattle.minor_heap.specs.declared.fields.MinorField.TheVariants as field
use Rattle.minor_heap.proofs.Packing.{field_there}
use Rattle.minor_heap.proofs.record.Record.field.Goals as goal

pub returns : goal.returns
returns c =
    let s = c.self.inside in
    let in_kinds : c.args.i < length s.kinds =
    omega (arith, c.requires.range, c.self.invariant.five) in
    let in_words : c.args.i < length s.words = omega (arith, c.requires.range, c.self.told) in
    let there = field_there s.kinds s.words c.args.i in_kinds in_words in
    let read =
    ap (λ (fields : List MinorField). slice_index_or fields c.args.i field.Null) c.self.view_is
    in
    record { field = c.unpacked.ensures.field ∙ sym there ∙ read }
