use Rattle.std.proofs.Common.{subst, sym, ap, ◌∙◌, replicate, false, []}
use Rattle.dlg_core.specs.Kept.{IsKept}
use Rattle.dlg_core.specs.Search.{RootsSoFar, with_found}
use Rattle.dlg_core.proofs.Searching.{roots_start, roots_more}
use Rattle.dlg_core.proofs.machine.Core.found_roots.Goals as goal

pub loop-m-init : goal.loop-m-init
loop-m-init c =
    let kept : IsKept c.args.self.now = subst IsKept c.self.view_is c.self.invariant in
    subst (RootsSoFar c.args.self.now 0)
    (ap (λ n. with_found (record { marks = replicate n false; waiting = [] }) 0)
    (sym (c.cells.ensures.cells ∙ ap (λ s. s.cells) c.self.view_is))
    ∙ ap (λ f. with_found f 0) (sym c.in_ok-found.ensures.nothing) ∙ sym c.in_ok-add.ensures.added)
    (roots_start c.args.self.now kept.range.shape)

pub loop-m-preserved : goal.loop-m-preserved
loop-m-preserved c = roots_more c.args.self.now c.loop-m.m c.loop-m.found c.add_held.new.found
    c.loop-m.invariant
    c.in_ok-add_held.ensures.grows c.in_ok-add_held.ensures.held
