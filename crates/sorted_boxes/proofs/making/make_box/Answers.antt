use Rattle.mutator_seat.specs.Bound.{bound}
use Rattle.sorted_boxes.proofs.NewBoxes.{raw_fills, raw_new, raw_records, raw_sealed, raw_seals}
use Rattle.sorted_boxes.proofs.making.make_box.Goals as goal

pub fill_fields-requires : goal.fill_fields-requires
fill_fields-requires c = record {
  seat = c.requires.seat;
  may = raw_fills (bound c.args.heap.now c.args.seat.now) c.args.place c.args.fields
      c.args.sorts.now c.requires.raw c.requires.values c.requires.fit;
}

pub seal_box-requires : goal.seal_box-requires
seal_box-requires c = record {
  seat = c.fill_fields.ensures.seat;
  may = raw_seals (bound c.args.heap.now c.args.seat.now) c.args.place c.args.fields
      c.args.sorts.now c.requires.raw c.requires.values c.requires.fit
      (bound c.args.heap.now c.fill_fields.new.seat) c.fill_fields.ensures.filled;
}

pub returns : goal.returns
returns c =
    let was = bound c.args.heap.now c.args.seat.now in
    let filled = bound c.args.heap.now c.fill_fields.new.seat in
    let now = bound c.args.heap.now c.seal_box.new.seat in
    let raw = c.requires.raw in
    let is = c.requires.values in
    let fit = c.requires.fit in
    let sorts = c.args.sorts.now in
    record {
      seat = c.seal_box.ensures.seat;
      made = raw_sealed was c.args.place c.args.fields sorts raw is fit filled
          c.fill_fields.ensures.filled now c.seal_box.ensures.told;
      new = raw_new was c.args.place c.args.fields sorts raw is fit filled
          c.fill_fields.ensures.filled now c.seal_box.ensures.told;
      records = raw_records was c.args.place c.args.fields sorts raw is fit filled
          c.fill_fields.ensures.filled now c.seal_box.ensures.told;
    }
