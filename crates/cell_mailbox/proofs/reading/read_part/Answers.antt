use Rattle.std.proofs.Common.{sym, ◌∙◌}
use Rattle.heap_rule.proofs.Picking.{read_picks}
use Rattle.mail_rule.specs.Mail.{HoldsMail, is_fixed}
use Rattle.cell_mailbox.proofs.Finding.{finds_part, part_is}
use Rattle.cell_mailbox.proofs.Pacing.{paces_read}
use Rattle.held_places.proofs.ReadValues.{number_alone}
use Rattle.cell_mailbox.proofs.reading.read_part.Goals as goal

pub read-requires-clause-rule : goal.read-requires-clause-rule
read-requires-clause-rule c =
    let v = c.args.m.now.seat.me in
    read_picks HoldsMail is_fixed v v.number c.args.place c.args.part

pub unreachable-requires : goal.unreachable-requires
unreachable-requires c =
    let told = c.read.ensures.told in
    let is = c.requires.item in
    number_alone _ _ told.0 c.read.result told.1
    (part_is c.args.m.now c.read.new.self c.read.ensures.heap c.read.ensures.table c.args.place
    c.args.part c.requires.part is.0 is.1 told.0 told.2 is.0 is.1) c.in-Null.is

pub returns : goal.returns
returns c =
    let told = c.read.ensures.told in
    let is = c.requires.item in
    record {
      part = finds_part c.args.m.now c.read.new.self c.read.ensures.heap c.read.ensures.table
          c.args.place c.args.part c.requires.part is.0 is.1 told.0 told.2 c.in-Num.number
          (sym c.in-Num.is ∙ told.1);
      pace = paces_read c.args.m.now c.read.new.self c.args.place c.args.part told.0 told.2;
    }
