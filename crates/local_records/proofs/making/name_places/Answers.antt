use Rattle.std.proofs.Common.{◌∙◌, arith, sym}
use Rattle.local_records.specs.Local.{IsFieldBelow}
use Rattle.local_records.proofs.Fields.{all_of, below_next, each_of}
use Rattle.local_records.proofs.making.name_places.Goals as goal

pub name_place-requires : goal.name_place-requires
name_place-requires c = record {
  below = each_of (IsFieldBelow 18446744073709551615) c.args.kinds.now c.args.words.now
      (c.told-kinds ∙ sym c.told-words) c.requires.below c.loop-i.i
      (omega (arith, c.loop-i-test.true, c.told-kinds));
}

pub loop-i-preserved : goal.loop-i-preserved
loop-i-preserved c =
    let so = c.loop-i.invariant in
    let here = c.name_place.ensures in
    record {
      more = omega (arith, here.more, so.more);
      below = below_next c.args.kinds.now c.args.words.now c.loop-i.i c.loop-i.named
          c.name_place.new.named here.more so.below here.below;
      least = λ n le all. here.least n (so.least n le all)
          (each_of (IsFieldBelow n) c.args.kinds.now c.args.words.now
          (c.told-kinds ∙ sym c.told-words) all c.loop-i.i
          (omega (arith, c.loop-i-test.true, c.told-kinds)));
    }

pub returns-clause-below : goal.returns-clause-below
returns-clause-below c =
    all_of (IsFieldBelow c.loop-i.named) c.args.kinds.now c.args.words.now
    (c.told-kinds ∙ sym c.told-words)
    (λ j lt. c.loop-i.invariant.below j (omega (arith, lt, c.told-kinds, c.loop-i-test.false)))
