use Rattle.minor_heap.specs.Record.{field_of}
use Rattle.heap_c.proofs.Naming.{can_be}
use Rattle.heap_c.proofs.records.laid.Goals as goal

pub returns : goal.returns
returns c =
    let first = c.in_ok-first.first in
    let second = c.in_ok-second.second in
    let third = c.in_ok-third.third in
    let fourth = c.in_ok-fourth.fourth in
    let fifth = c.in_ok-fifth.fifth in
    record {
      means = can_be c.args.turns c.args.sorts.now c.args.local.now c.args.kinds c.args.words
          (field_of first.kind first.word) (field_of second.kind second.word)
          (field_of third.kind third.word) (field_of fourth.kind fourth.word)
          (field_of fifth.kind fifth.word) c.in_ok-first.ensures.means
          c.in_ok-second.ensures.means c.in_ok-third.ensures.means
          c.in_ok-fourth.ensures.means c.in_ok-fifth.ensures.means;
    }
