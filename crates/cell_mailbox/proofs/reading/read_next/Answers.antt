use Rattle.std.proofs.Common.{sym, ◌∙◌}
use Rattle.heap_rule.proofs.Picking.{read_picks}
use Rattle.mail_rule.specs.Mail.{HoldsMail, is_fixed}
use Rattle.cell_mailbox.proofs.Finding.{finds_last, finds_next, next_no_number}
use Rattle.cell_mailbox.proofs.Pacing.{paces_read}
use Rattle.cell_mailbox.proofs.reading.read_next.Goals as goal

pub read-requires-clause-rule : goal.read-requires-clause-rule
read-requires-clause-rule c =
    let v = c.args.m.now.seat.me in read_picks HoldsMail is_fixed v v.number c.args.place 3

pub unreachable-requires : goal.unreachable-requires
unreachable-requires c =
    let told = c.read.ensures.told in
    let is = c.requires.item in
    next_no_number c.args.m.now c.read.new.self c.read.ensures.heap c.read.ensures.table
    c.args.place is.0 is.1 told.0 told.2 _ (sym c.in-Num.is ∙ told.1)

pub returns-in-Held-clause-next : goal.returns-in-Held-clause-next
returns-in-Held-clause-next c =
    let told = c.read.ensures.told in
    let is = c.requires.item in
    finds_next c.args.m.now c.read.new.self c.read.ensures.heap c.read.ensures.table
    c.args.place is.0 is.1 told.0 told.2 c.in-Held.next (sym c.in-Held.is ∙ told.1)

pub returns-in-Null-clause-none : goal.returns-in-Null-clause-none
returns-in-Null-clause-none c =
    let told = c.read.ensures.told in
    let is = c.requires.item in
    finds_last c.args.m.now c.read.new.self c.read.ensures.heap c.read.ensures.table
    c.args.place is.0 is.1 told.0 told.2 (sym c.in-Null.is ∙ told.1)

pub returns-in-Held-clause-pace : goal.returns-in-Held-clause-pace
returns-in-Held-clause-pace c =
    let told = c.read.ensures.told in
    paces_read c.args.m.now c.read.new.self c.args.place 3 told.0 told.2

pub returns-in-Null-clause-pace : goal.returns-in-Null-clause-pace
returns-in-Null-clause-pace c =
    let told = c.read.ensures.told in
    paces_read c.args.m.now c.read.new.self c.args.place 3 told.0 told.2
