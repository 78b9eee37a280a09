use Rattle.std.proofs.Common.{subst, sym, ◌∙◌, ap}
use Rattle.std.proofs.lemmas.Bool.{not-false}
use Rattle.core_machine.specs.State.{held_of, presence_of}
use Rattle.dlg_core.specs.Kept.{IsKept}
use Rattle.dlg_core.proofs.Searching.{held_next, held_done}
use Rattle.dlg_core.proofs.machine.Core.add_held.Goals as goal

pub loop-place-preserved : goal.loop-place-preserved
loop-place-preserved c =
    let kept : IsKept c.args.self.now = subst IsKept c.self.view_is c.self.invariant in
    held_next c.args.self.now c.args.m c.loop-place.place-index _ c.places-place-items.result.now
    c.args.found.now c.loop-place.found
    c.add.new.self kept.range.shape
    (c.places-place-items.ensures.places ∙ ap (λ s. held_of s c.args.m) c.self.view_is)
    (sym (ap (λ s. (presence_of s c.args.m).inside) c.self.view_is)
    ∙ sym (ap (λ p. p.inside) c.presence.ensures.presence)
    ∙ not-false _ c.if-not-presence.false)
    c.loop-place-test.true c.requires c.loop-place.invariant c.in_ok-add.ensures.added

pub returns-clause-held : goal.returns-clause-held
returns-clause-held c =
    held_done c.args.self.now c.args.m c.loop-place.place-index c.places-place-items.result.now
    c.args.found.now c.loop-place.found
    c.loop-place.invariant
    (c.places-place-items.ensures.places ∙ ap (λ s. held_of s c.args.m) c.self.view_is)
    c.loop-place-test.false
