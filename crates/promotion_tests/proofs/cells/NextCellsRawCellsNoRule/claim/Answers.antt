use Rattle.mutator_seat.specs.Bound.{bound}
use Rattle.mutator_seat.proofs.Seeking.{look_seeks, seeking_then}
use Rattle.mutator_seat.proofs.Tries.{claimed_then}
use Rattle.promotion_tests.proofs.cells.NextCellsRawCellsNoRule.claim.Goals as goal

pub returns-in-Some-clause-got : goal.returns-in-Some-clause-got
returns-in-Some-clause-got c =
    let was = bound c.args.heap.now c.args.seat.now in
    let first = bound c.args.heap.now c.look_once.new.seat in
    let last = bound c.args.heap.now c.try_cell.new.seat in
    claimed_then was first last c.in-Some.place
    (look_seeks was first c.look_once.result c.look_once.ensures.told) c.in-Some.ensures.got

pub returns-in-None-clause-none : goal.returns-in-None-clause-none
returns-in-None-clause-none c =
    let was = bound c.args.heap.now c.args.seat.now in
    let first = bound c.args.heap.now c.look_once.new.seat in
    let last = bound c.args.heap.now c.try_cell.new.seat in
    seeking_then was first last
    (look_seeks was first c.look_once.result c.look_once.ensures.told) c.in-None.ensures.seeking
