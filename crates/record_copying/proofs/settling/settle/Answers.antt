use Rattle.std.proofs.Common.{◌∙◌, refl, sym, arith}
use Rattle.std.specs.Prelude.{slice_index_or}
use Rattle.mutator_seat.specs.Bound.{bound}
use Rattle.record_copying.proofs.AfterRoots.{may_settle, roots_held, settled_as}
use Rattle.record_copying.proofs.settling.settle.Goals as goal

pub hold_copies-requires : goal.hold_copies-requires
hold_copies-requires g c =
    let a = bound c.args.heap.now c.args.seat.now in
    let fit = sym c.held_len-first.ensures.len ∙ sym c.held_len-first.ensures.known in
    record {
      seat = c.requires.seat;
      inside = c.requires.inside;
      fit = fit;
      room = c.requires.room;
      stand = λ i d lt. let stands = c.requires.stand i d lt in
          omega (arith, stands, c.requires.fits);
      there = roots_held a c.args.minor.now.records c.args.roots.now
          (λ r. slice_index_or c.args.places.now r.number 0) fit c.requires.copied;
    }

pub keep-requires : goal.keep-requires
keep-requires g c =
    let a = bound c.args.heap.now c.args.seat.now in
    let b = bound c.args.heap.now c.hold_copies.new.seat in
    record {
      seat = c.hold_copies.ensures.seat;
      may = may_settle a b c.args.minor.now.records c.args.roots.now
          (λ r. slice_index_or c.args.places.now r.number 0) c.args.base c.held_len-first.result
          _ c.hold_copies.ensures.appended c.requires.base c.held_len-first.ensures.len refl
          c.requires.inside c.requires.some c.requires.room;
    }

pub returns : goal.returns
returns g c =
    let a = bound c.args.heap.now c.args.seat.now in
    let b = bound c.args.heap.now c.hold_copies.new.seat in
    record {
      seat = c.keep.ensures.seat;
      settled = settled_as a b c.args.minor.now.records c.args.roots.now
          (λ r. slice_index_or c.args.places.now r.number 0) c.args.base c.held_len-first.result
          _ c.hold_copies.ensures.appended c.requires.base c.held_len-first.ensures.len refl
          (bound c.args.heap.now c.keep.new.seat)
          (sym c.held_len-first.ensures.len ∙ sym c.held_len-first.ensures.known)
          c.requires.copied c.keep.ensures.told;
    }
