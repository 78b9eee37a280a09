use Rattle.std.proofs.Common.{[], arith, refl, subst}
use Rattle.core_replay.specs.Standing.{IsReplayed, Standing}
use Rattle.core_replay.specs.Turns.{Went, Stopped, ends, goes_on}
use Rattle.core_replay.proofs.Turning.{left_few}
use Rattle.core_replay.proofs.replaying.Replaying.plain.Goals as goal

pub turn-requires : goal.turn-requires
turn-requires c =
    let few = left_few c.args.self.now.core
    (subst (λ (p : Standing). IsReplayed p.core) c.self.view_is c.self.invariant) in
    let so_far = c.loop.invariant.few in
    omega arith

pub returns-in-Posted-clause-outcome : goal.returns-in-Posted-clause-outcome
returns-in-Posted-clause-outcome c = c.loop.invariant.leads (Went [] c.turn.new.self)
    (ends c.in-Posted.ensures.turn)

pub returns-in-Posted-clause-few : goal.returns-in-Posted-clause-few
returns-in-Posted-clause-few c =
    let few = left_few c.args.self.now.core
    (subst (λ (p : Standing). IsReplayed p.core) c.self.view_is c.self.invariant) in
    let so_far = c.loop.invariant.few in
    omega arith

pub loop-preserved : goal.loop-preserved
loop-preserved c =
    let falls = c.in-GoesOn.ensures.falls refl in
    let so_far = c.loop.invariant.few in
    record {
      leads = (λ outcome later. c.loop.invariant.leads outcome
          (goes_on c.turn.new.self c.in-GoesOn.ensures.turn later));
      few = omega arith;
    }

pub returns-in-Stuck-clause-outcome : goal.returns-in-Stuck-clause-outcome
returns-in-Stuck-clause-outcome c = c.loop.invariant.leads (Stopped c.turn.new.self)
    (ends c.in-Stuck.ensures.turn)

pub returns-in-Stuck-clause-few : goal.returns-in-Stuck-clause-few
returns-in-Stuck-clause-few c =
    let few = left_few c.args.self.now.core
    (subst (λ (p : Standing). IsReplayed p.core) c.self.view_is c.self.invariant) in
    let so_far = c.loop.invariant.few in
    omega arith
