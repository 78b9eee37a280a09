use Rattle.std.proofs.Common.{◌<◌, ◌≤◌, arith, length, refl}
use Rattle.cell_tests.proofs.Rounds.{kept_one, read_none, read_some}
use Rattle.cell_tests.proofs.Sums.{picks_still}
use Rattle.core_machine.specs.declared.events.Event.TheVariants as event
use Rattle.cell_tests.proofs.working.read_counter.Goals as goal

pub read-found-requires-clause-rule : goal.read-found-requires-clause-rule
read-found-requires-clause-rule c =
    picks_still c.args.seat.now.me (event.Read c.args.seat.now.me.number 0 0) (λ s l. refl)

pub returns-then-held_len-gt1-clause-within : goal.returns-then-held_len-gt1-clause-within
returns-then-held_len-gt1-clause-within c =
    let told = c.read-found.ensures.told in
    let more : 1 < length c.read-found.new.self.me.own.held =
    omega (arith, c.held_len.ensures.len, c.if-held_len-gt1.true) in
    let some_cell = read_some c.args.heap.now c.args.sum c.args.seat.now c.requires.within.0
    c.requires.within.1 c.read-found.new.self c.read-found.ensures.table _ told.0 told.2.new
    more in
    kept_one c.args.heap.now c.args.sum c.read-found.new.self _ some_cell.0 _ some_cell.1
    c.keep.new.self c.keep.ensures.told

pub returns-else-held_len-gt1-clause-within : goal.returns-else-held_len-gt1-clause-within
returns-else-held_len-gt1-clause-within c =
    let told = c.read-found.ensures.told in
    let few : length c.read-found.new.self.me.own.held ≤ 1 =
    omega (arith, c.held_len.ensures.len, c.if-held_len-gt1.false) in
    read_none c.args.heap.now c.args.sum c.args.seat.now c.requires.within.0
    c.requires.within.1 c.read-found.new.self c.read-found.ensures.table _ told.0 told.2.new few
