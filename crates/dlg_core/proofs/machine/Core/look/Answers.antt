use Rattle.std.proofs.Common.{◌≡◌, ◌+◌, ap, length, refl, subst, sym, ◌∙◌}
use Rattle.core_machine.specs.Next.{after, can}
use Rattle.core_machine.specs.declared.events.Event.{Event}
use Rattle.core_machine.specs.declared.events.Event.TheVariants as event
use Rattle.core_machine.proofs.Ranges.Events.{when_some}
use Rattle.dlg_core.specs.Kept.{IsKept}
use Rattle.dlg_core.specs.PlainCycle.{look_before, turn_with}
use Rattle.dlg_core.proofs.Finishing.Cycles.{looks_at, takes_next, takes_ok}
use Rattle.dlg_core.proofs.machine.Core.look.Goals as goal

pub unwrap-requires : goal.unwrap-requires
unwrap-requires c =
    let s = c.args.self.now in
    let look = event.Poll c.in-AnswerOut.m in
    let first = looks_at s c.args.event look (subst IsKept c.self.view_is c.self.invariant)
    c.requires.way c.requires.plain (ap look_before c.in-AnswerOut.is) in
    takes_ok c.apply.result s c.apply.new.self look c.apply.ensures.event first.0

pub returns-in-AnswerOut : goal.returns-in-AnswerOut
returns-in-AnswerOut c =
    let s = c.args.self.now in
    let look = event.Poll c.in-AnswerOut.m in
    let first = looks_at s c.args.event look (subst IsKept c.self.view_is c.self.invariant)
    c.requires.way c.requires.plain (ap look_before c.in-AnswerOut.is) in
    let took = takes_next c.apply.result s c.apply.new.self look c.apply.ensures.event first.0 in
    record {
      stays = sym (when_some (can s look) (after s look) c.apply.new.self took).1 ∙ first.1;
      many = sym (ap (λ e. length (turn_with e)) c.in-AnswerOut.is);
    }

one : (e : Event) → ((i : _) (over : _) → e ≡ event.AnswerOut i over → ⊥)
    → 0 + 1 ≡ length (turn_with e)
one (event.AnswerOut i over) other = absurd (other i over refl)
one _ other = refl

pub returns-in_default : goal.returns-in_default
returns-in_default c = record { stays = refl; many = one c.args.event c.in_default.not-AnswerOut }
