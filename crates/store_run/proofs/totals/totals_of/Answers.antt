use Rattle.std.proofs.Common.{◌∙◌, ap, arith, sym}
use Rattle.cell_words.specs.declared.controls.Control.{Control}
use Rattle.closed_heap.proofs.Counting.{free_and_used}
use Rattle.store_run.proofs.totals.totals_of.Goals as goal

pub returns-clause-totals : goal.returns-clause-totals
returns-clause-totals c = λ at.
    let used = c.used_cells-used.ensures.used at.core at.shown in
    let claims = at.balanced.claims in
    let all = free_and_used at.core at.shaped in
    record {
      commands = c.commands_in.ensures.count;
      versions = c.versions_in.ensures.count;
      claimed = omega (arith, used, claims, at.freed_is);
      freed = sym at.freed_is;
      used = used;
      free = omega (arith, used, all, at.shown.cells_are, c.cells.ensures.cells, c.from.ensures);
      cycles = c.from-2.ensures
          ∙ ap (λ (k : Control). k.cycles) (c.control.ensures.control at.core at.shown);
      nodes = c.latest_nodes.ensures.nodes at.core at.keep at.trees at.shown at.versions;
    }
