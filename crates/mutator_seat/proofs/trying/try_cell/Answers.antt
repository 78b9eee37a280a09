use Rattle.std.proofs.Common.{ap}
use Rattle.heap_table.specs.Seats.{SeatView}
use Rattle.mutator_seat.specs.Bound.{bound}
use Rattle.mutator_seat.proofs.Tries.{claimed_at, claimed_held, missed_at, missed_seeks}
use Rattle.mutator_seat.proofs.trying.try_cell.Goals as goal

pub returns-then-claim-clause-got : goal.returns-then-claim-clause-got
returns-then-claim-clause-got g c =
    let heap = c.args.heap.now in
    let told = c.if-claim.ensures.told in
    claimed_at (bound heap c.args.seat.now) (bound heap c.claim.new.self) c.args.cell
    c.held_len-place.result told.0 told.1 (ap (λ (s : SeatView _). bound heap s) told.2)
    c.held_len-place.ensures.len (λ got. c.if-claim.ensures.new got)

pub returns-then-claim-clause-cell : goal.returns-then-claim-clause-cell
returns-then-claim-clause-cell g c =
    let heap = c.args.heap.now in
    let told = c.if-claim.ensures.told in
    claimed_held (bound heap c.args.seat.now) (bound heap c.claim.new.self) c.args.cell told.0
    told.1 (ap (λ (s : SeatView _). bound heap s) told.2)

pub returns-else-claim-clause-none : goal.returns-else-claim-clause-none
returns-else-claim-clause-none g c =
    let heap = c.args.heap.now in
    let told = c.if-claim.ensures.told in
    missed_at (bound heap c.args.seat.now) (bound heap c.claim.new.self) c.args.cell told.0 told.1
    (ap (λ (s : SeatView _). bound heap s) told.2)

pub returns-else-claim-clause-seeking : goal.returns-else-claim-clause-seeking
returns-else-claim-clause-seeking g c =
    let heap = c.args.heap.now in
    let told = c.if-claim.ensures.told in
    missed_seeks (bound heap c.args.seat.now) (bound heap c.claim.new.self) c.args.cell told.0
    told.1 (ap (λ (s : SeatView _). bound heap s) told.2)
