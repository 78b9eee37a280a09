use Rattle.heap_rule.proofs.Picking.{read_picks}
use Rattle.example_counter.specs.Counting.{Counts}
use Rattle.heap_rule.specs.NoRule.{no_field_is_fixed}
use Rattle.example_counter.proofs.Anchors.{adds_read, found_held, may_read_anchor}
use Rattle.example_counter.proofs.adding.read_anchor.Goals as goal

pub read-requires-clause-may : goal.read-requires-clause-may
read-requires-clause-may c = may_read_anchor c.args.m.now c.requires.rests

pub read-requires-clause-rule : goal.read-requires-clause-rule
read-requires-clause-rule c =
    read_picks Counts no_field_is_fixed c.args.m.now.seat.me c.args.m.now.seat.me.number 0 0

pub returns-clause-found : goal.returns-clause-found
returns-clause-found c =
    let told = c.read.ensures.told in
    found_held c.args.m.now c.read.new.self told.0 c.requires.rests c.read.ensures.heap told.2
    c.read.result told.1

pub returns-clause-same : goal.returns-clause-same
returns-clause-same c =
    let told = c.read.ensures.told in
    adds_read c.args.m.now c.read.new.self told.0 0 c.read.ensures.heap told.2
