use Rattle.std.proofs.Common.{◌∙◌, sym}
use Rattle.cell_making.proofs.OneRead.{reads_none}
use Rattle.heap_rule.proofs.Picking.{read_picks}
use Rattle.held_places.proofs.ReadValues.{found_number, number_alone}
use Rattle.example_log.specs.Logging.{KeepsLog, is_fixed}
use Rattle.example_log.proofs.Finding.{appends_none, holds_number, may_read_number, number_found}
use Rattle.example_log.proofs.appending.read_number.Goals as goal

pub read-requires-clause-may : goal.read-requires-clause-may
read-requires-clause-may c = may_read_number c.args.m.now c.requires.some

pub read-requires-clause-rule : goal.read-requires-clause-rule
read-requires-clause-rule c =
    read_picks KeepsLog is_fixed c.args.m.now.seat.me c.args.m.now.seat.me.number 1 0

pub unreachable-requires : goal.unreachable-requires
unreachable-requires c =
    let told = c.read.ensures.told in
    number_alone _ _ told.0 c.read.result told.1
    (number_found c.args.m.now c.read.new.self c.read.ensures.heap c.read.ensures.table
    c.requires.some told.0 told.2) c.in-Null.is

pub returns-clause-found : goal.returns-clause-found
returns-clause-found c =
    let told = c.read.ensures.told in
    holds_number c.args.m.now c.read.new.self c.read.ensures.heap c.read.ensures.table
    c.requires.some told.0 told.2 c.in-Num.number
    (found_number _ c.in-Num.number told.0 (sym c.in-Num.is ∙ told.1))

pub returns-clause-same : goal.returns-clause-same
returns-clause-same c =
    let told = c.read.ensures.told in
    appends_none _ _ (reads_none c.args.m.now c.read.new.self c.read.ensures.heap
    c.read.ensures.table 1 0 c.requires.some.holds.entry.there told.0 told.2)
