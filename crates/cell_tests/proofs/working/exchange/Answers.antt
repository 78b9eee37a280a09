use Rattle.std.proofs.Common.{◌≡◌, ◌+◌, ℕ, ap, subst, arith}
use Rattle.cell_tests.specs.Working.{IsIn}
use Rattle.cell_tests.specs.declared.counter.Added.{Added}
use Rattle.cell_tests.proofs.Rounds.{looked, not_written, written}
use Rattle.cell_tests.proofs.Sums.{picks_add}
use Rattle.core_machine.specs.Places.{cell_at}
use Rattle.heap_rule.specs.Lore.{nothing_learned}
use Rattle.heap_table.specs.Seats.{SeatView}
use Rattle.cell_tests.proofs.working.exchange.Goals as goal

pub write-requires-clause-rule : goal.write-requires-clause-rule
write-requires-clause-rule c =
    let seen = looked c.args.heap.now c.args.sum c.args.seat.now c.requires.within.0
    c.requires.within.1 c.look.result c.look.new.self c.look.ensures.told in
    picks_add c.look.new.self.me c.args.count
    (ap (λ (s : SeatView Added). cell_at s.me.own.held 0) seen.is)

pub returns-in-Ok-clause-within : goal.returns-in-Ok-clause-within
returns-in-Ok-clause-within c =
    let seen = looked c.args.heap.now c.args.sum c.args.seat.now c.requires.within.0
    c.requires.within.1 c.look.result c.look.new.self c.look.ensures.told in
    written c.args.heap.now c.args.sum c.look.new.self _ seen c.write.new.self
    c.write.ensures.table nothing_learned c.args.count c.in-Ok.ensures.made.new

pub returns-in-Err-clause-within : goal.returns-in-Err-clause-within
returns-in-Err-clause-within c =
    let seen = looked c.args.heap.now c.args.sum c.args.seat.now c.requires.within.0
    c.requires.within.1 c.look.result c.look.new.self c.look.ensures.told in
    let nothing_more : c.args.sum ≡ c.args.sum + 0 = omega arith in
    subst (λ (n : ℕ). IsIn c.args.heap.now n c.write.new.self) nothing_more
    (not_written c.args.heap.now c.args.sum c.look.new.self _ seen c.write.new.self
    c.write.ensures.table nothing_learned c.args.count c.in-Err.field-0.found c.in-Err.ensures.moved.0
    c.in-Err.ensures.moved.1.new)
