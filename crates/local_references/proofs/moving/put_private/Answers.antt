use Rattle.std.proofs.Common.{◌+◌, ◌<◌, arith, length, subst, ℕ}
use Rattle.std.specs.Prelude.{slice_index_or}
use Rattle.local_references.specs.declared.roots.Root.TheVariants as root
use Rattle.local_references.specs.Roots.{IsMoved}
use Rattle.local_references.proofs.Ranks.{next_rank, next_to_move, one_moved, rank_few, rank_within}
use Rattle.local_references.proofs.moving.put_private.Goals as goal

pub moved-requires : goal.moved-requires
moved-requires c =
    let old = c.args.slots.now in
    let i = c.loop-i.i in
    let d = root.Null in
    let x = slice_index_or c.loop-i.slots i d in
    let lt : i < length old = omega (arith, c.loop-i-test.true, c.loop-i.invariant.so.many) in
    let more = next_rank old i x lt
    (next_to_move old c.loop-i.slots c.args.refs.now i d lt c.loop-i.invariant.so) in
    let within = rank_within old (i + 1) in
    record {
      there = omega (arith, more, within, c.requires.many, c.loop-i.invariant.next);
    }

pub overflow_add-next : goal.overflow_add-next
overflow_add-next c =
    let old = c.args.slots.now in
    let i = c.loop-i.i in
    let d = root.Null in
    let x = slice_index_or c.loop-i.slots i d in
    let lt : i < length old = omega (arith, c.loop-i-test.true, c.loop-i.invariant.so.many) in
    let more = next_rank old i x lt
    (next_to_move old c.loop-i.slots c.args.refs.now i d lt c.loop-i.invariant.so) in
    let few = rank_few old (i + 1) in
    omega (arith, more, few, c.loop-i.invariant.next, c.records_of-next.ensures.count)

pub loop-i-preserved : goal.loop-i-preserved
loop-i-preserved c =
    let old = c.args.slots.now in
    let i = c.loop-i.i in
    let d = root.Null in
    let x = slice_index_or c.loop-i.slots i d in
    let lt : i < length old = omega (arith, c.loop-i-test.true, c.loop-i.invariant.so.many) in
    let is = next_to_move old c.loop-i.slots c.args.refs.now i d lt c.loop-i.invariant.so in
    let more = next_rank old i x lt is in
    let now = subst (λ (n : ℕ). IsMoved c.args.refs.now n x c.moved.result) c.loop-i.invariant.next
    c.moved.ensures.moved in
    record {
      so = one_moved old c.loop-i.slots c.args.refs.now i x c.moved.result lt c.loop-i.invariant.so
          is now;
      next = omega (arith, more, c.loop-i.invariant.next, c.records_of-next.ensures.count);
    }
