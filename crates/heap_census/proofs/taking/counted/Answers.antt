use Rattle.std.proofs.Common.{arith, get_or, length}
use Rattle.heap_census.specs.declared.layouts.Role.TheVariants as role
use Rattle.heap_census.specs.declared.numbers.Census.{Census}
use Rattle.heap_census.specs.Flags.{has_role, no_roles}
use Rattle.heap_census.specs.Times.{is_often, never}
use Rattle.heap_census.proofs.Totals.{IsCounted, count_at, counted_is_census, counted_adds_up}
use Rattle.heap_census.proofs.taking.counted.Goals as goal

pub returns : goal.returns
returns g c = λ h shows tells shared sound.
    let marks = c.args.marks.now in
    let named = c.args.times.now in
    let size = g.C.Cells.size c.args.cells.now in
    let fit = g.met.C.Cells.fits c.args.cells.now h shows in
    let x : Census = record {
      cells = c.from.result;
      free = c.count_free.result;
      versions = c.count_role.result;
      nodes = c.count_role-2.result;
      entries = c.count_role-3.result;
      texts = c.count_role-4.result;
      shared = c.count_shared.result;
      floating = c.count_floating.result;
    } in
    let k : IsCounted h marks named size x = record {
      cells = omega (arith, c.from.ensures, c.cells.ensures);
      free = c.count_free.ensures h shows;
      versions = count_at (λ n. has_role (get_or marks n no_roles) role.Version) x.versions
          (length marks) size c.count_role.ensures c.requires.marks;
      nodes = count_at (λ n. has_role (get_or marks n no_roles) role.Node) x.nodes
          (length marks) size c.count_role-2.ensures c.requires.marks;
      entries = count_at (λ n. has_role (get_or marks n no_roles) role.Entry) x.entries
          (length marks) size c.count_role-3.ensures c.requires.marks;
      texts = count_at (λ n. has_role (get_or marks n no_roles) role.Text) x.texts
          (length marks) size c.count_role-4.ensures c.requires.marks;
      shared = count_at (λ n. is_often (get_or named n never)) x.shared (length named) size
          c.count_shared.ensures c.requires.times;
      floating = c.count_floating.ensures h shows;
    } in (
      counted_is_census h marks named size x fit tells shared c.requires.times k,
      counted_adds_up h marks named size x fit tells sound k,
    )
