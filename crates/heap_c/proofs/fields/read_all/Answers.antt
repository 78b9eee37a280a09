use Rattle.std.proofs.Common.{arith}
use Rattle.mutator_seat.specs.Bound.{bound}
use Rattle.heap_c.proofs.Lengths.{gave_all_longer}
use Rattle.heap_c.proofs.fields.read_all.Goals as goal

pub returns-clause-longer : goal.returns-clause-longer
returns-clause-longer c =
    let more = gave_all_longer (bound c.args.heap.now c.args.seat.now)
    (bound c.args.heap.now c.read_all-values.new.seat) c.args.place c.read_all-values.result
    c.read_all-values.ensures.gave in
    omega (
      arith,
      more,
      c.held_len.ensures.len,
      c.held_len.ensures.known,
      c.held_len-held.ensures.len,
      c.held_len-held.ensures.known,
    )
