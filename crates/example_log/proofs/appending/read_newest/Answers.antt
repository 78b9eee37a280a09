use Rattle.std.proofs.Common.{arith}
use Rattle.cell_making.proofs.OneRead.{may_read_anchor, reads_none}
use Rattle.heap_rule.proofs.Picking.{read_picks}
use Rattle.example_log.specs.Logging.{KeepsLog, is_fixed}
use Rattle.example_log.proofs.Finding.{appends_none, holds_newest}
use Rattle.example_log.proofs.appending.read_newest.Goals as goal

pub read-requires-clause-may : goal.read-requires-clause-may
read-requires-clause-may c = may_read_anchor 8 c.args.m.now c.requires.rests (omega arith)

pub read-requires-clause-rule : goal.read-requires-clause-rule
read-requires-clause-rule c =
    read_picks KeepsLog is_fixed c.args.m.now.seat.me c.args.m.now.seat.me.number 0 0

pub returns-clause-found : goal.returns-clause-found
returns-clause-found c =
    let told = c.read.ensures.told in
    holds_newest c.args.m.now c.read.new.self c.read.ensures.heap c.read.ensures.table
    c.requires.rests told.0 told.2

pub returns-clause-same : goal.returns-clause-same
returns-clause-same c =
    let told = c.read.ensures.told in
    appends_none _ _ (reads_none c.args.m.now c.read.new.self c.read.ensures.heap
    c.read.ensures.table 0 0 c.requires.rests.loose.is_in.some told.0 told.2)
