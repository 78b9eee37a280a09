use Rattle.mutator_seat.specs.Bound.{bound}
use Rattle.mutator_seat.proofs.Tries.{claimed_then}
use Rattle.heap_c.proofs.Claims.{finds_none, inside_again, none_then, room_again}
use Rattle.heap_c.proofs.claiming.try_blocks.Goals as goal

pub loop-tried-init : goal.loop-tried-init
loop-tried-init c =
    (c.requires.seat, finds_none (bound c.args.heap.now c.args.seat.now) c.requires.mode)

pub try_block-requires-clause-inside : goal.try_block-requires-clause-inside
try_block-requires-clause-inside c =
    inside_again (bound c.args.heap.now c.args.seat.now) (bound c.args.heap.now c.loop-tried.seat)
    c.loop-tried.invariant.1 c.requires.inside

pub try_block-requires-clause-room : goal.try_block-requires-clause-room
try_block-requires-clause-room c =
    room_again (bound c.args.heap.now c.args.seat.now) (bound c.args.heap.now c.loop-tried.seat)
    c.loop-tried.invariant.1 c.requires.room

pub loop-tried-preserved : goal.loop-tried-preserved
loop-tried-preserved c =
    let heap = c.args.heap.now in (
      c.try_block.ensures.seat,
      none_then (bound heap c.args.seat.now) (bound heap c.loop-tried.seat)
          (bound heap c.try_block.new.seat) c.loop-tried.invariant.1
          c.in_default-try_block.ensures.none,
    )

pub returns-in-Some-try_block-clause-got : goal.returns-in-Some-try_block-clause-got
returns-in-Some-try_block-clause-got c =
    let heap = c.args.heap.now in
    claimed_then (bound heap c.args.seat.now) (bound heap c.loop-tried.seat)
    (bound heap c.try_block.new.seat) c.in-Some-try_block.place c.loop-tried.invariant.1.sought
    c.in-Some-try_block.ensures.got
