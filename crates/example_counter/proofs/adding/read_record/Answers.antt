use Rattle.heap_rule.proofs.Picking.{read_picks}
use Rattle.example_counter.specs.Counting.{Counts}
use Rattle.heap_rule.specs.NoRule.{no_field_is_fixed}
use Rattle.example_counter.proofs.Anchors.{adds_read}
use Rattle.example_counter.proofs.Numbers.{may_read_record, number_found}
use Rattle.example_counter.proofs.adding.read_record.Goals as goal

pub read-requires-clause-may : goal.read-requires-clause-may
read-requires-clause-may c = may_read_record c.args.m.now c.requires.some

pub read-requires-clause-rule : goal.read-requires-clause-rule
read-requires-clause-rule c =
    read_picks Counts no_field_is_fixed c.args.m.now.seat.me c.args.m.now.seat.me.number 1 0

pub returns-clause-found : goal.returns-clause-found
returns-clause-found c =
    let told = c.read.ensures.told in
    number_found c.args.m.now c.read.new.self told.0 c.requires.some told.2 c.read.result told.1

pub returns-clause-same : goal.returns-clause-same
returns-clause-same c =
    let told = c.read.ensures.told in
    adds_read c.args.m.now c.read.new.self told.0 1 c.read.ensures.heap told.2
