use Rattle.std.proofs.Common.{ℕ, length, sym, ◌∙◌, ap, arith}
use Rattle.std.specs.Prelude.{slice_set}
use Rattle.cell_making.specs.Makes.{value_at}
use Rattle.mutator_events.specs.declared.values.Value.TheVariants as values
use Rattle.mutator_seat.specs.Bound.{bound}
use Rattle.sorted_rule.specs.Sorts.{sort_of}
use Rattle.sorted_boxes.proofs.Again.{keeps_then, many_again}
use Rattle.sorted_boxes.proofs.NewBoxes.{box_sorts, first_boxes, others_fit, others_null}
use Rattle.sorted_boxes.proofs.NewBoxes.{others_values, raw_records_then, sealed_drops, value_later}
use Rattle.sorted_boxes.proofs.Shown.{dropped_then, false_on, true_both}
use Rattle.sorted_boxes.proofs.making.make_shown.Goals as goal

pub make_box-requires : goal.make_box-requires
make_box-requires c = record {
  seat = c.requires.seat;
  raw = c.requires.raw;
  values = others_values c.args.place c.args.fields c.requires.values;
  fit = others_fit c.args.sorts.now c.args.fields c.requires.fit;
}

pub show-requires : goal.show-requires
show-requires c =
    let new = c.make_box.ensures.new (others_null c.args.fields) in
    record {
      seat = c.make_box.ensures.seat;
      new = new;
      boxed = c.requires.boxed;
      sort = ap (λ (boxes : ℕ). sort_of boxes 1 0) (sym new.first.serves.boxes)
          ∙ first_boxes c.args.sorts.now.boxes 1 c.requires.boxes;
    }

pub put_first-requires : goal.put_first-requires
put_first-requires c =
    let now = bound c.args.heap.now c.make_box.new.seat in
    let named = bound c.args.heap.now c.show.new.seat in
    let given = c.args.fields in
    let sorts = c.args.sorts.now in
    let new = c.make_box.ensures.new (others_null given) in
    let last = new.last in
    let many = many_again now named c.show.ensures.keeps in
    record {
      seat = c.show.ensures.seat;
      held = c.show.ensures.held;
      behind = new.some;
      there = omega (arith, last, many);
      boxed = c.requires.boxed;
      value = value_later c.args.place (length named.seat.me.own.held) (value_at given 0)
          (omega (arith, last, many)) (c.requires.values 0 (omega arith));
      fits = box_sorts sorts c.args.place (value_at given 0) new.some
          (c.requires.fit 0 (omega arith));
    }

pub returns : goal.returns
returns c =
    let was = bound c.args.heap.now c.args.seat.now in
    let now = bound c.args.heap.now c.make_box.new.seat in
    let named = bound c.args.heap.now c.show.new.seat in
    let last = bound c.args.heap.now c.put_first.new.seat in
    let given = c.args.fields in
    let sealed = c.make_box.ensures.made in
    record {
      seat = c.put_first.ensures.seat;
      held = c.put_first.ensures.held;
      records = raw_records_then c.args.sorts.now c.args.place was c.requires.raw now named last
          c.make_box.ensures.records c.show.ensures.records c.put_first.ensures.records;
      made = true_both c.put_first.result
          (λ put keeps. record {
            between = now;
            named = named;
            is_sealed = sealed;
            names = c.show.ensures.named;
            first = put;
            keeps = keeps_then now named last c.show.ensures.keeps keeps;
          }) c.put_first.ensures.put c.put_first.ensures.keeps;
      lost = false_on c.put_first.result
          (λ drops. sealed_drops was now c.args.place (slice_set given 0 values.Null) sealed last
          (dropped_then now named last c.args.place c.show.ensures.keeps drops))
          c.put_first.ensures.lost;
    }
