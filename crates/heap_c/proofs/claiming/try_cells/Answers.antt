use Rattle.mutator_seat.specs.Bound.{bound}
use Rattle.mutator_seat.proofs.Tries.{claimed_then}
use Rattle.heap_c.proofs.Claims.{finds_none, inside_again, none_then, room_again}
use Rattle.heap_c.proofs.claiming.try_cells.Goals as goal

pub loop-cell-init : goal.loop-cell-init
loop-cell-init c =
    (c.requires.seat, finds_none (bound c.args.heap.now c.args.seat.now) c.requires.mode)

pub try_cell-requires-clause-inside : goal.try_cell-requires-clause-inside
try_cell-requires-clause-inside c =
    inside_again (bound c.args.heap.now c.args.seat.now) (bound c.args.heap.now c.loop-cell.seat)
    c.loop-cell.invariant.1 c.requires.inside

pub try_cell-requires-clause-room : goal.try_cell-requires-clause-room
try_cell-requires-clause-room c =
    room_again (bound c.args.heap.now c.args.seat.now) (bound c.args.heap.now c.loop-cell.seat)
    c.loop-cell.invariant.1 c.requires.room

pub loop-cell-preserved : goal.loop-cell-preserved
loop-cell-preserved c =
    let heap = c.args.heap.now in (
      c.try_cell.ensures.seat,
      none_then (bound heap c.args.seat.now) (bound heap c.loop-cell.seat)
          (bound heap c.try_cell.new.seat) c.loop-cell.invariant.1 (record {
            mode = c.in_default.ensures.mode;
            sought = c.in_default.ensures.seeking;
          }),
    )

pub returns-in-Some-clause-got : goal.returns-in-Some-clause-got
returns-in-Some-clause-got c =
    let heap = c.args.heap.now in
    claimed_then (bound heap c.args.seat.now) (bound heap c.loop-cell.seat)
    (bound heap c.try_cell.new.seat) c.in-Some.place c.loop-cell.invariant.1.sought
    c.in-Some.ensures.got
