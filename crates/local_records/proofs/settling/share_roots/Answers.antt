use Rattle.std.proofs.Common.{◌<◌, ◌+◌, ◌∙◌, List, ap, arith, length}
use Rattle.local_references.specs.declared.roots.Root.{Root}
use Rattle.local_references.specs.Roots.{Stack, slot_at}
use Rattle.local_records.specs.Settling.{cells_in, shared_at}
use Rattle.local_records.proofs.Places.{count_next, count_within, next_as_was, share_next}
use Rattle.local_records.proofs.Places.{upto_many}
use Rattle.local_records.proofs.settling.share_roots.Goals as goal

pub root-root-requires : goal.root-root-requires
root-root-requires c =
    let many = ap (λ (xs : List Root). length xs) c.loop-i.invariant.so in
    let same = upto_many c.args.first c.args.stack.now.roots c.loop-i.i in
    record { there = omega (arith, many, same, c.loop-i-test.true) }

pub set-requires : goal.set-requires
set-requires c =
    let many = ap (λ (xs : List Root). length xs) c.loop-i.invariant.so in
    let same = upto_many c.args.first c.args.stack.now.roots c.loop-i.i in
    record { there = omega (arith, many, same, c.loop-i-test.true) }

pub overflow_add-next : goal.overflow_add-next
overflow_add-next c =
    let roots = c.args.stack.now.roots in
    let i = c.loop-i.i in
    let lt : i < length roots = omega (arith, c.loop-i-test.true) in
    let is = c.root-root.ensures.root
    ∙ ap (λ (xs : List Root). slot_at xs i) c.loop-i.invariant.so
    ∙ next_as_was c.args.first roots i in
    let count = c.cells_in-next.ensures.count ∙ ap cells_in is in
    let next = count_next roots i lt in
    let within = count_within roots (i + 1) in
    omega (arith, count, next, within, c.loop-i.invariant.next, c.requires.fits)

pub loop-i-preserved : goal.loop-i-preserved
loop-i-preserved c =
    let roots = c.args.stack.now.roots in
    let i = c.loop-i.i in
    let so = c.loop-i.invariant in
    let lt : i < length roots = omega (arith, c.loop-i-test.true) in
    let is = c.root-root.ensures.root ∙ ap (λ (xs : List Root). slot_at xs i) so.so
    ∙ next_as_was c.args.first roots i in
    let count = c.cells_in-next.ensures.count ∙ ap cells_in is in
    let next = count_next roots i lt in
    record {
      so = ap (λ (s : Stack). s.roots) c.set.ensures.set
          ∙ share_next c.args.first roots c.loop-i.stack.roots i c.loop-i.next
          c.shared_at.result lt so.so so.next
          (c.shared_at.ensures.shared ∙ ap (λ (x : Root). shared_at c.loop-i.next x) is);
      next = omega (arith, count, next, so.next);
      most = ap (λ (s : Stack). s.room) c.set.ensures.set ∙ so.most;
    }
