use Rattle.heap_rule.specs.NoRule.{no_field_is_fixed}
use Rattle.cell_making.proofs.OneRead.{reads_none}
use Rattle.heap_rule.proofs.Picking.{read_picks}
use Rattle.example_root.specs.Rule.{HasKept}
use Rattle.example_root.proofs.Finding.{holds_kept, may_read_box, has_of, reads_box}
use Rattle.example_root.proofs.places.hold_kept.Goals as goal

pub read-requires-clause-may : goal.read-requires-clause-may
read-requires-clause-may c = may_read_box c.args.m.now c.requires.holds

pub read-requires-clause-rule : goal.read-requires-clause-rule
read-requires-clause-rule c =
    read_picks HasKept no_field_is_fixed c.args.m.now.seat.me c.args.m.now.seat.me.number 1 0

pub returns-clause-found : goal.returns-clause-found
returns-clause-found c n keeps =
    let told = c.read.ensures.told in
    holds_kept c.args.m.now c.read.new.self c.read.ensures.heap c.read.ensures.table
    c.requires.holds told.0 told.2 c.requires.first n keeps

pub returns-clause-same : goal.returns-clause-same
returns-clause-same c =
    let told = c.read.ensures.told in
    has_of _ _ _ (reads_none c.args.m.now c.read.new.self c.read.ensures.heap
    c.read.ensures.table 1 0 c.requires.holds.box.there told.0 told.2)

pub returns-clause-reads : goal.returns-clause-reads
returns-clause-reads c =
    let told = c.read.ensures.told in
    reads_box c.args.m.now c.read.new.self c.read.ensures.heap c.read.ensures.table
    c.requires.holds told.0 told.2 c.requires.first c.requires.keeps.number c.requires.keeps.is
