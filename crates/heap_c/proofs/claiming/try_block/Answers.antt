use Rattle.mutator_seat.specs.Bound.{bound}
use Rattle.heap_c.proofs.Claims.{got_if, none_if}
use Rattle.heap_c.proofs.claiming.try_block.Goals as goal

pub returns-in-None-clause-none : goal.returns-in-None-clause-none
returns-in-None-clause-none c =
    let heap = c.args.heap.now in
    none_if c.try_cells-in-None.result (bound heap c.args.seat.now)
    (bound heap c.try_cells.new.seat) (bound heap c.try_cells-in-None.new.seat)
    c.in-None.ensures.none c.try_cells-in-None.ensures.none

pub returns-in-None-clause-got : goal.returns-in-None-clause-got
returns-in-None-clause-got c =
    let heap = c.args.heap.now in
    got_if c.try_cells-in-None.result (bound heap c.args.seat.now)
    (bound heap c.try_cells.new.seat) (bound heap c.try_cells-in-None.new.seat)
    c.in-None.ensures.none c.try_cells-in-None.ensures.got
