use Rattle.mutator_seat.specs.Bound.{bound}
use Rattle.mutator_seat.proofs.Seeking.{seeking_then}
use Rattle.mutator_seat.proofs.Tries.{claimed_then}
use Rattle.heap_c.proofs.claiming.claim.Goals as goal

pub returns-in-Some-clause-got : goal.returns-in-Some-clause-got
returns-in-Some-clause-got c =
    let heap = c.args.heap.now in
    claimed_then (bound heap c.args.seat.now) (bound heap c.look_or_answer-control.new.seat)
    (bound heap c.try_blocks.new.seat) c.in-Some.place
    c.look_or_answer-control.ensures.none.sought c.in-Some.ensures.got

pub returns-in-None-clause-none : goal.returns-in-None-clause-none
returns-in-None-clause-none c =
    let heap = c.args.heap.now in
    seeking_then (bound heap c.args.seat.now) (bound heap c.look_or_answer-control.new.seat)
    (bound heap c.try_blocks.new.seat) c.look_or_answer-control.ensures.none.sought
    c.in-None.ensures.none.sought
