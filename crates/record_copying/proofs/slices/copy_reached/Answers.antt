use Rattle.std.proofs.Common.{arith}
use Rattle.mutator_seat.specs.Bound.{bound}
use Rattle.mutator_seat.specs.Claims.{anything}
use Rattle.promotion.proofs.Growing.{grown_none, still_records}
use Rattle.promotion.proofs.Reaching.{marks_closed}
use Rattle.record_copying.proofs.Slicing.{roots_done}
use Rattle.record_copying.proofs.Standing.{all_share_still, keep_none, terms_stay}
use Rattle.record_copying.proofs.slices.copy_reached.Goals as goal

pub returns-then-are_copied-clause-grown : goal.returns-then-are_copied-clause-grown
returns-then-are_copied-clause-grown g c = record {
  count = 0;
  few = omega arith;
  grown = grown_none (bound c.args.heap.now c.args.seat.now);
}

pub returns-then-are_copied-clause-keeps : goal.returns-then-are_copied-clause-keeps
returns-then-are_copied-clause-keeps g c = keep_none c.args.copied.now c.args.places.now

pub copy_marked-progress-requires-clause-closed : goal.copy_marked-progress-requires-clause-closed
copy_marked-progress-requires-clause-closed g c =
    marks_closed c.args.minor.now.records c.args.roots.now c.mark_span-span.new.marks
    c.mark_span-span.ensures.marks

pub returns-clause-done : goal.returns-clause-done
returns-clause-done g c is =
    roots_done c.args.minor.now.records c.args.roots.now c.mark_span-span.new.marks
    c.copy_marked-progress.new.copied (λ r leads. (c.mark_span-span.ensures.marks r).1 leads)
    (c.copy_marked-progress.ensures.done is)

pub returns-clause-shares : goal.returns-clause-shares
returns-clause-shares g c =
    all_share_still c.args.seat.now.me.known c.copy_marked-progress.new.seat.me.known
    c.args.minor.now.records c.requires.shares
    (still_records anything (bound c.args.heap.now c.args.seat.now)
    (bound c.args.heap.now c.copy_marked-progress.new.seat)
    c.copy_marked-progress.ensures.grown.grown.grown)

pub returns-clause-terms : goal.returns-clause-terms
returns-clause-terms g c =
    terms_stay c.args.seat.now.me.known c.copy_marked-progress.new.seat.me.known
    c.args.minor.now.records c.requires.shares
    (still_records anything (bound c.args.heap.now c.args.seat.now)
    (bound c.args.heap.now c.copy_marked-progress.new.seat)
    c.copy_marked-progress.ensures.grown.grown.grown)
