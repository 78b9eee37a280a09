use Rattle.std.proofs.Common.{◌≡◌, false, get_or, subst, sym, ap, refl, ◌∙◌}
use Rattle.dlg_core.specs.Search.{has_found}
use Rattle.dlg_core.specs.Kept.{IsKept}
use Rattle.dlg_core.proofs.Searching.{search_more, search_done, next_below, next_reachable}
use Rattle.dlg_core.proofs.machine.Core.is_reachable.Goals as goal

pub add_named-requires-clause-cell : goal.add_named-requires-clause-cell
add_named-requires-clause-cell c =
    next_below c.args.self.now c.loop-next.found c.take.new.self.waiting c.in-Some.next
    c.loop-next.invariant c.in-Some.ensures.taken

pub add_named-requires-clause-reachable : goal.add_named-requires-clause-reachable
add_named-requires-clause-reachable c =
    next_reachable c.args.self.now c.loop-next.found c.take.new.self.waiting c.in-Some.next
    c.loop-next.invariant c.in-Some.ensures.taken

pub loop-next-preserved : goal.loop-next-preserved
loop-next-preserved c = search_more c.args.self.now c.loop-next.found c.take.new.self
    c.add_named.new.found c.in-Some.next c.loop-next.invariant
    c.take.ensures.marks c.in-Some.ensures.taken c.in_ok-add_named.ensures.grows
    c.in_ok-add_named.ensures.named

pub returns : goal.returns
returns c =
    let kept : IsKept c.args.self.now = subst IsKept c.self.view_is c.self.invariant in
    let same : c.has.result ≡ has_found c.loop-next.found c.args.cell =
    c.has.ensures.found ∙ ap (λ marks. get_or marks c.args.cell false) c.take.ensures.marks in
    record {
      reachable = (
        (λ is. c.loop-next.invariant.sound c.args.cell (sym same ∙ is)),
        (λ r. same ∙ search_done c.args.self.now c.loop-next.found c.args.cell kept.range.shape
            kept.consistent c.loop-next.invariant
            (c.in_default.ensures.none.0 refl) r),
      );
    }
