use Rattle.std.proofs.Common.{◌∙◌, arith, sym}
use Rattle.mutator_seat.specs.Bound.{bound}
use Rattle.heap_c.proofs.Enduring.{owned_first}
use Rattle.heap_c.proofs.Lengths.{narrows_longer}
use Rattle.heap_c.proofs.Moved.{mine_as}
use Rattle.heap_c.proofs.owned.narrow.Goals as goal

pub returns-clause-owned : goal.returns-clause-owned
returns-clause-owned c =
    let heap = c.args.heap.now in
    let was = c.args.seat.now in
    let now = c.keep.new.seat in
    let owned = c.requires.owned in
    let inside = c.requires.inside in
    let holds = c.keep.ensures.held in
    let kept = narrows_longer (bound heap was) (bound heap now) c.args.base c.args.place
    c.args.count c.requires.stays.within c.keep.ensures.narrows in
    owned_first heap was now c.args.sorts.now c.keep.new.sorts c.args.local.now owned
    (mine_as heap was now c.args.sorts.now c.keep.new.sorts owned.mine c.keep.ensures.seat holds
    (owned.mine.held inside) c.keep.ensures.narrows.pass)
    (holds.inside ∙ sym inside) c.args.base c.requires.stays.named c.keep.ensures.records
    (λ m le few. omega (
      arith,
      le,
      kept,
      c.held_len-held.ensures.len,
      c.held_len-held.ensures.known,
    ))
