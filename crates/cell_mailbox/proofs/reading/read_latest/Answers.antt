use Rattle.std.proofs.Common.{sym, ◌∙◌}
use Rattle.heap_rule.proofs.Picking.{read_picks}
use Rattle.mail_rule.specs.Mail.{HoldsMail, is_fixed}
use Rattle.cell_mailbox.proofs.Finding.{finds_latest, latest_cell}
use Rattle.cell_mailbox.proofs.Pacing.{paces_read}
use Rattle.held_places.proofs.ReadValues.{held_alone}
use Rattle.cell_mailbox.proofs.reading.read_latest.Goals as goal

pub read-requires-clause-rule : goal.read-requires-clause-rule
read-requires-clause-rule c =
    let v = c.args.m.now.seat.me in read_picks HoldsMail is_fixed v v.number 0 0

pub unreachable-requires : goal.unreachable-requires
unreachable-requires c =
    let told = c.read.ensures.told in
    let cell = latest_cell c.args.m.now c.read.new.self c.read.ensures.heap c.read.ensures.table
    c.requires.inside told.0 told.2 in
    held_alone _ cell.0 told.0 c.read.result told.1 cell.1 c.in-Null.is

pub returns : goal.returns
returns c =
    let told = c.read.ensures.told in
    record {
      item = finds_latest c.args.m.now c.read.new.self c.read.ensures.heap c.read.ensures.table
          c.requires.inside told.0 told.2 c.in-Held.place (sym c.in-Held.is ∙ told.1);
      pace = paces_read c.args.m.now c.read.new.self 0 0 told.0 told.2;
    }
