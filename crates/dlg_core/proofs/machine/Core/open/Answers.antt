use Rattle.std.proofs.Common.{replicate, subst, sym}
use Rattle.dlg_core.proofs.Safety.{consistent_safe}
use Rattle.dlg_core.proofs.Starts.{opening_consistent}
use Rattle.dlg_core.proofs.Throughout.{first_rows_named}
use Rattle.dlg_core.specs.Consistent.{IsConsistent}
use Rattle.dlg_core.proofs.machine.Core.open.Goals as goal

pub open-requires-clause-names : goal.open-requires-clause-names
open-requires-clause-names c = first_rows_named c.args.cells c.args.first.now c.requires.few_rows
    c.requires.rows

pub invariant_of-result : goal.invariant_of-result
invariant_of-result c = record {
  range = c.in_ok-machine.ensures.range;
  consistent = subst IsConsistent (sym c.in_ok-machine.ensures.opening)
      (opening_consistent c.args.cells
      (replicate c.args.mutators c.args.room) c.args.first.now c.requires.few_rows
      c.requires.rows);
}

pub returns-clause-safe : goal.returns-clause-safe
returns-clause-safe c =
    consistent_safe c.in_ok-machine.machine
    (subst IsConsistent (sym c.in_ok-machine.ensures.opening)
    (opening_consistent c.args.cells
    (replicate c.args.mutators c.args.room) c.args.first.now c.requires.few_rows
    c.requires.rows))
