-- A step that was refused tells nothing.
use Rattle.std.proofs.Common.{◌≡◌, ◌∙◌, ap, refl, subst, sym, is_ok, Result, Ok, Err, Option}
use Rattle.std.proofs.Common.{String}
use Rattle.std.specs.declared.alloc.Global.{Global}
use Rattle.core_machine.specs.Takes.{Takes}
use Rattle.core_machine.specs.declared.events.Event.{Event}
use Rattle.core_machine.specs.declared.machine.NotNow.{NotNow}
use Rattle.core_replay.specs.Outcomes.{outcome_by, told_by}
use Rattle.core_replay.specs.Replay.{Leads, after_event}
use Rattle.core_replay.specs.Standing.{Standing, taken_by}
use Rattle.core_replay.specs.Turns.{Outcome, Went}
use Rattle.core_replay.proofs.replaying.Replaying.step.Goals as goal
use Rattle.core_replay.proofs.replaying.Replaying.step.Goals.{in-Take, in-Plain, then-went}
use Rattle.core_replay.proofs.replaying.Replaying.step.Goals.{else-went}

took : (p q : Standing) (e : Event) (result : Result (Unit {0}) NotNow)
    → Takes result p (taken_by p e) q
    → outcome_by (is_ok result) q ≡ after_event p (taken_by p e)
took p q e (Ok done) is = rw is refl
took p q e (Err refusal) is = rw is.0 (ap Outcome.Stopped is.1)

pub returns-clause-outcome : goal.returns-clause-outcome
returns-clause-outcome c =
    let last = c.match-step.self in
    let told : told_by c.if-went.result last ≡ outcome_by c.match-step.went last =
    elim c.if-went.branch [
      | then-went w ↦
          ap (λ (o : Option (String Global)). told_by o last) w.result-is
          ∙ ap (λ bytes. Went bytes last) w.new.ensures.bytes
          ∙ ap (λ b. outcome_by b last) (sym w.if-went.true)
      | else-went w ↦
          ap (λ (o : Option (String Global)). told_by o last) w.result-is
          ∙ ap (λ b. outcome_by b last) (sym w.if-went.false)
    ] in
    subst (λ (o : Outcome). Leads c.args.self.now c.args.step o) (sym told)
    (elim c.match-step.branch [
      | in-Take w ↦
          rw (w.in-Take.is, w.went-is, w.is_ok-went.ensures.value, w.self-is)
          (took c.args.self.now w.take.new.self w.in-Take.event w.take.result w.take.ensures.event)
      | in-Plain w ↦ rw (w.in-Plain.is, w.went-is, w.self-is) w.plain-went.ensures.outcome
    ])
