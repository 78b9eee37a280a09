use Rattle.std.proofs.Common.{◌^◌, ◌<◌, ◌∙◌, arith, subst, sym}
use Rattle.dlg_core.specs.Kept.{IsKept}
use Rattle.dlg_core.proofs.Finishing.Cycles.{finished, less_left, room_left, so_far_more}
use Rattle.dlg_core.proofs.Finishing.Cycles.{so_far_none}
use Rattle.dlg_core.proofs.machine.Core.turns.Goals as goal

pub overflow_add-taken : goal.overflow_add-taken
overflow_add-taken c =
    let start = subst IsKept c.self.view_is c.self.invariant in
    let kept = subst IsKept c.self-in-loop-taken.view_is c.self-in-loop-taken.invariant in
    let few : c.args.self.now.mutators < 2 ^ 32
    = omega (arith, c.mutators-mutators.type_inv, c.mutators-mutators.ensures.mutators) in
    let room = room_left c.args.self.now c.loop-taken.self c.loop-taken.taken c.turn-taken.result
    c.unwrap-event.result c.requires c.loop-taken.invariant kept
    (sym c.next_plain.ensures.event ∙ c.unwrap-event.ensures) c.turn-taken.ensures.many
    start.range.few_cells few in
    omega arith

pub loop-taken-init : goal.loop-taken-init
loop-taken-init c = so_far_none c.args.self.now c.requires

pub loop-taken-preserved : goal.loop-taken-preserved
loop-taken-preserved c =
    let q = c.loop-taken.self in
    let kept = subst IsKept c.self-in-loop-taken.view_is c.self-in-loop-taken.invariant in
    so_far_more c.args.self.now q c.turn-taken.new.self c.loop-taken.taken c.turn-taken.result
    c.unwrap-event.result c.loop-taken.invariant kept
    (sym c.next_plain.ensures.event ∙ c.unwrap-event.ensures) c.turn-taken.ensures.leads
    c.turn-taken.ensures.many (sym c.ends_cycle.ensures ∙ c.if-ends_cycle.false)

pub loop-taken-smaller : goal.loop-taken-smaller
loop-taken-smaller c =
    let q = c.loop-taken.self in
    let kept = subst IsKept c.self-in-loop-taken.view_is c.self-in-loop-taken.invariant in
    less_left q c.turn-taken.new.self c.unwrap-event.result kept c.loop-taken.invariant.way
    (sym c.next_plain.ensures.event ∙ c.unwrap-event.ensures) c.turn-taken.ensures.leads
    (sym c.ends_cycle.ensures ∙ c.if-ends_cycle.false)

pub returns-then-ends_cycle-clause-finished : goal.returns-then-ends_cycle-clause-finished
returns-then-ends_cycle-clause-finished c =
    let q = c.loop-taken.self in
    let kept = subst IsKept c.self-in-loop-taken.view_is c.self-in-loop-taken.invariant in
    finished c.args.self.now q c.turn-taken.new.self c.loop-taken.taken c.turn-taken.result
    c.unwrap-event.result c.requires c.loop-taken.invariant kept
    (sym c.next_plain.ensures.event ∙ c.unwrap-event.ensures) c.turn-taken.ensures.leads
    c.turn-taken.ensures.many (sym c.ends_cycle.ensures ∙ c.if-ends_cycle.true)
