use Rattle.std.proofs.Common.{subst}
use Rattle.core_machine.specs.Next.{next}
use Rattle.core_machine.specs.Takes.{Takes}
use Rattle.dlg_core.specs.Kept.{IsKept}
use Rattle.dlg_core.proofs.Finishing.Cycles.{takes_next, takes_ok, turn_leads}
use Rattle.dlg_core.proofs.Finishing.Turns.{planned}
use Rattle.dlg_core.proofs.machine.Core.turn.Goals as goal

-- the look has left the state as it was
pub unwrap-requires : goal.unwrap-requires
unwrap-requires c =
    let s = c.args.self.now in
    let e = c.args.event in
    let t = c.apply.new.self in
    let kept = subst IsKept c.self.view_is c.self.invariant in
    takes_ok c.apply.result s t e
    (subst (λ q. Takes c.apply.result q (next q e) t) c.look-looks.ensures.stays
    c.apply.ensures.event)
    (planned s e kept c.requires.way c.requires.plain).happens

pub returns-clause-leads : goal.returns-clause-leads
returns-clause-leads c =
    let s = c.args.self.now in
    let e = c.args.event in
    let t = c.apply.new.self in
    let kept = subst IsKept c.self.view_is c.self.invariant in
    turn_leads s t e kept c.requires.way c.requires.plain
    (takes_next c.apply.result s t e
    (subst (λ q. Takes c.apply.result q (next q e) t) c.look-looks.ensures.stays
    c.apply.ensures.event)
    (planned s e kept c.requires.way c.requires.plain).happens)
