use Rattle.std.proofs.Common.{◌∙◌, sym}
use Rattle.heap_rule.specs.NoRule.{no_field_is_fixed}
use Rattle.cell_making.proofs.OneRead.{reads_none}
use Rattle.heap_rule.proofs.Picking.{read_picks}
use Rattle.held_places.proofs.ReadValues.{found_number, number_alone}
use Rattle.example_root.specs.Rule.{HasKept}
use Rattle.example_root.proofs.Finding.{holds_read, may_read_record, number_found, number_is}
use Rattle.example_root.proofs.Finding.{has_of, reads_number, record_there}
use Rattle.example_root.proofs.places.read_number.Goals as goal

pub read-requires-clause-may : goal.read-requires-clause-may
read-requires-clause-may c = may_read_record c.args.m.now c.requires.holds

pub read-requires-clause-rule : goal.read-requires-clause-rule
read-requires-clause-rule c =
    read_picks HasKept no_field_is_fixed c.args.m.now.seat.me c.args.m.now.seat.me.number 2 0

pub unreachable-requires : goal.unreachable-requires
unreachable-requires c =
    let told = c.read.ensures.told in
    number_alone _ _ told.0 c.read.result told.1
    (number_found c.args.m.now c.read.new.self c.read.ensures.heap c.read.ensures.table
    c.requires.holds.number c.requires.holds.holds told.0 told.2) c.in-Null.is

pub returns-clause-number : goal.returns-clause-number
returns-clause-number c n at =
    let told = c.read.ensures.told in
    number_is c.args.m.now c.read.new.self c.read.ensures.heap c.read.ensures.table
    told.0 told.2 c.in-Num.number n
    (found_number _ c.in-Num.number told.0 (sym c.in-Num.is ∙ told.1)) at

pub returns-clause-holds : goal.returns-clause-holds
returns-clause-holds c =
    let told = c.read.ensures.told in
    holds_read c.args.m.now c.read.new.self c.read.ensures.heap c.read.ensures.table
    c.requires.holds told.0 told.2 c.in-Num.number
    (found_number _ c.in-Num.number told.0 (sym c.in-Num.is ∙ told.1))

pub returns-clause-same : goal.returns-clause-same
returns-clause-same c =
    let told = c.read.ensures.told in
    has_of _ _ _ (reads_none c.args.m.now c.read.new.self c.read.ensures.heap
    c.read.ensures.table 2 0
    (record_there c.requires.holds.number c.args.m.now c.requires.holds.holds) told.0 told.2)

pub returns-clause-reads : goal.returns-clause-reads
returns-clause-reads c =
    let told = c.read.ensures.told in
    reads_number c.args.m.now c.read.new.self c.read.ensures.heap c.read.ensures.table
    c.requires.holds told.0 told.2 c.in-Num.number
    (found_number _ c.in-Num.number told.0 (sym c.in-Num.is ∙ told.1))
