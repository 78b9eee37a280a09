use Rattle.std.proofs.Common.{◌∷◌, [], arith, inl, refl}
use Rattle.held_places.proofs.Going.{many_held}
use Rattle.mutator_seat.specs.Bound.{bound}
use Rattle.heap_c.specs.Holding.{held_by}
use Rattle.heap_c.proofs.Lengths.{narrows_longer}
use Rattle.heap_c.proofs.using.make_at.Goals as goal

pub keep-requires-clause-kept : goal.keep-requires-clause-kept
keep-requires-clause-kept c =
    let more = c.in-Ok.ensures.made.1.1.1.0.0 in
    let many = many_held (bound c.args.heap.now c.args.seat.now)
    (bound c.args.heap.now c.make.new.seat) (more.0 ∷ []) more.1 in
    omega (arith, many, c.held_len.ensures.len)

pub keep-requires-clause-others : goal.keep-requires-clause-others
keep-requires-clause-others c =
    let more = c.in-Ok.ensures.made.1.1.1.0.0 in
    let at = c.in-Ok.ensures.made.1.1.0 in
    let many = many_held (bound c.args.heap.now c.args.seat.now)
    (bound c.args.heap.now c.make.new.seat) (more.0 ∷ []) more.1 in
    omega (arith, many, at)

pub keep-requires-clause-room : goal.keep-requires-clause-room
keep-requires-clause-room c =
    let more = c.in-Ok.ensures.made.1.1.1.0.0 in
    let many = many_held (bound c.args.heap.now c.args.seat.now)
    (bound c.args.heap.now c.make.new.seat) (more.0 ∷ []) more.1 in
    omega (arith, many, c.held_len.ensures.len, c.room-room.ensures)

pub returns-in-Ok-clause-made : goal.returns-in-Ok-clause-made
returns-in-Ok-clause-made c =
    inl (
      refl,
      (
        c.in-Ok.place,
        (
          held_by c.args.heap.now c.make.new.seat c.make.new.sorts,
          (
            c.in-Ok.ensures.made,
            (
              c.in-Ok.ensures.made.1.0,
              (c.keep.ensures.narrows, (c.keep.ensures.same, c.keep.ensures.moved)),
            ),
          ),
        ),
      ),
    )

pub returns-in-Ok-clause-records : goal.returns-in-Ok-clause-records
returns-in-Ok-clause-records c =
    λ place t lt is. c.keep.ensures.records place t lt (c.in-Ok.ensures.records place t is)

pub returns-in-Ok-clause-longer : goal.returns-in-Ok-clause-longer
returns-in-Ok-clause-longer c =
    let heap = c.args.heap.now in
    let made = bound heap c.make.new.seat in
    let more = c.in-Ok.ensures.made.1.1.1.0.0 in
    let many = many_held (bound heap c.args.seat.now) made (more.0 ∷ []) more.1 in
    let kept = narrows_longer made (bound heap c.keep.new.seat) c.args.first c.in-Ok.place 1
    (omega (arith, many, c.held_len.ensures.len, c.if-held_len-first.false))
    c.keep.ensures.narrows in
    λ m le few. omega (arith, le, kept, c.held_len-held.ensures.len, c.held_len-held.ensures.known)
