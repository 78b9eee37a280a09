use Rattle.std.proofs.Common.{Some, ap, subst, sym, ◌≡◌, ◌∙◌}
use Rattle.core_replay.specs.Standing.{IsReplayed, Standing}
use Rattle.core_replay.specs.Turns.{Ends, Stopped, turned}
use Rattle.dlg_core.specs.PlainCycle.{look_before}
use Rattle.core_replay.proofs.Counts.{few_both, few_look, few_none, looked_few, room_left, taken_one}
use Rattle.core_replay.proofs.Turning.{turn_falls, turn_refused, turn_taken, turn_unlooked}
use Rattle.core_replay.specs.declared.replaying.Turned.TheVariants as turned_so
use Rattle.core_replay.proofs.replaying.Replaying.turn_with.Goals as goal

stuck : {A : Type 0} → turned_so.Stuck ≡ turned_so.GoesOn → A
stuck is = absurd cc

posted : {A : Type 0} → turned_so.Posted ≡ turned_so.GoesOn → A
posted is = absurd cc

pub returns-in-Err-clause-turn : goal.returns-in-Err-clause-turn
returns-in-Err-clause-turn c =
    turn_unlooked c.args.self.now c.args.event c.requires.plain c.in-Err.ensures.look.0
    ∙ ap (λ p. Ends (Stopped p)) (sym c.in-Err.ensures.look.1)

pub returns-in-Err-take-clause-turn : goal.returns-in-Err-take-clause-turn
returns-in-Err-take-clause-turn c =
    turn_refused c.args.self.now c.look.new.self c.args.event
    c.requires.plain c.in_default.ensures.look
    c.in-Err-take.ensures.event.0
    ∙ ap (λ p. Ends (Stopped p)) (sym c.in-Err-take.ensures.event.1)

pub returns-then-posts-clause-turn : goal.returns-then-posts-clause-turn
returns-then-posts-clause-turn c =
    turn_taken c.args.self.now c.look.new.self c.take.new.self c.args.event
    c.requires.plain c.in_default.ensures.look
    c.in_default-take.ensures.event
    ∙ ap (λ b. turned b c.look.new.self (Some c.take.new.self))
    (sym c.posts.ensures ∙ c.if-posts.true)

pub returns-else-posts-clause-turn : goal.returns-else-posts-clause-turn
returns-else-posts-clause-turn c =
    turn_taken c.args.self.now c.look.new.self c.take.new.self c.args.event
    c.requires.plain c.in_default.ensures.look
    c.in_default-take.ensures.event
    ∙ ap (λ b. turned b c.look.new.self (Some c.take.new.self))
    (sym c.posts.ensures ∙ c.if-posts.false)

pub returns-else-posts-clause-falls : goal.returns-else-posts-clause-falls
returns-else-posts-clause-falls c =
    let replayed = subst (λ (p : Standing). IsReplayed p.core) c.self.view_is c.self.invariant in
    λ goes_on. turn_falls c.args.self.now c.look.new.self c.take.new.self c.args.event replayed
    c.requires.plain
    c.in_default.ensures.look c.in_default-take.ensures.event
    (sym c.posts.ensures ∙ c.if-posts.false)

pub returns-in-Err-clause-falls : goal.returns-in-Err-clause-falls
returns-in-Err-clause-falls c = λ goes_on. stuck goes_on

pub returns-in-Err-clause-few : goal.returns-in-Err-clause-few
returns-in-Err-clause-few c =
    few_none c.args.self.now c.look.new.self c.in-Err.ensures.look.1

pub take-requires : goal.take-requires
take-requires c =
    room_left c.args.self.now c.look.new.self
    (looked_few c.args.self.now c.look.new.self (look_before c.args.event)
    c.in_default.ensures.look) c.requires.room

pub returns-in-Err-take-clause-falls : goal.returns-in-Err-take-clause-falls
returns-in-Err-take-clause-falls c = λ goes_on. stuck goes_on

pub returns-in-Err-take-clause-few : goal.returns-in-Err-take-clause-few
returns-in-Err-take-clause-few c =
    few_look c.args.self.now c.look.new.self c.take.new.self
    (looked_few c.args.self.now c.look.new.self (look_before c.args.event)
    c.in_default.ensures.look) c.in-Err-take.ensures.event.1

pub returns-then-posts-clause-falls : goal.returns-then-posts-clause-falls
returns-then-posts-clause-falls c = λ goes_on. posted goes_on

pub returns-then-posts-clause-few : goal.returns-then-posts-clause-few
returns-then-posts-clause-few c =
    few_both c.args.self.now c.look.new.self c.take.new.self
    (looked_few c.args.self.now c.look.new.self (look_before c.args.event)
    c.in_default.ensures.look)
    (taken_one c.look.new.self c.take.new.self c.args.event c.in_default-take.ensures.event)

pub returns-else-posts-clause-few : goal.returns-else-posts-clause-few
returns-else-posts-clause-few c =
    few_both c.args.self.now c.look.new.self c.take.new.self
    (looked_few c.args.self.now c.look.new.self (look_before c.args.event)
    c.in_default.ensures.look)
    (taken_one c.look.new.self c.take.new.self c.args.event c.in_default-take.ensures.event)
