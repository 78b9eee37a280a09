use Rattle.std.proofs.Common.{◌≡◌, ◌+◌, ℕ, suc, [], ◌∷◌, length, take}
use Rattle.std.proofs.Common.{arith, subst}
use Rattle.doc_model.specs.declared.command.Command.{Command}
use Rattle.client_threads.specs.Going.{Went}
use Rattle.client_threads.proofs.Going.{went_all, went_few, went_next, went_none, went_some}
use Rattle.client_threads.proofs.answering.answer_all.Goals as goal

pub loop-index-init : goal.loop-index-init
loop-index-init g c =
    went_none c.args.session.now c.args.m.now c.reserve_entries.new.session c.args.m.now
    (c.reserve_entries.ensures.may c.args.m.now c.requires.may)
    (c.reserve_entries.ensures.same c.args.m.now) c.reserve_entries.ensures.entries

pub take_turn-requires-clause-may : goal.take_turn-requires-clause-may
take_turn-requires-clause-may g c = c.loop-index.invariant.may

pub take_turn-requires-clause-few : goal.take_turn-requires-clause-few
take_turn-requires-clause-few g c =
    went_few c.args.script.now c.args.session.now c.args.m.now c.loop-index.index
    c.loop-index.session c.loop-index.m c.loop-index.invariant c.loop-index-test.true
    c.requires.short c.requires.none

pub returns-then-not-take_turn : goal.returns-then-not-take_turn
returns-then-not-take_turn g c = record {
  answers = went_some c.args.script.now c.args.session.now c.args.m.now c.loop-index.index
      c.loop-index.session c.loop-index.m c.loop-index.invariant c.take_turn.new.session
      c.take_turn.new.m c.if-not-take_turn.ensures.went;
}

pub loop-index-preserved : goal.loop-index-preserved
loop-index-preserved g c =
    let same : suc c.loop-index.index ≡ c.loop-index.index + 1 = omega arith in
    subst
    (λ (k : ℕ). Went (take k c.args.script.now) c.args.session.now c.args.m.now
    c.take_turn.new.session c.take_turn.new.m) same
    (went_next c.args.script.now c.args.session.now c.args.m.now c.loop-index.index
    c.loop-index.session c.loop-index.m c.loop-index.invariant c.index-script-index.result
    c.loop-index-test.true c.take_turn.new.session c.take_turn.new.m
    (subst
    (λ (d : Command). Went (d ∷ []) c.loop-index.session c.loop-index.m c.take_turn.new.session
    c.take_turn.new.m) c.index-script-index.is c.if-not-take_turn.ensures.went))

pub returns : goal.returns
returns g c =
    let last = c.loop-index.auto.index-end in
    let past = c.loop-index-test.false in
    let same : c.loop-index.index ≡ length c.args.script.now = omega (arith, last, past) in
    record {
      answers = went_all c.args.script.now c.args.session.now c.loop-index.session c.args.m.now
          c.loop-index.m
          (subst
          (λ (k : ℕ). Went (take k c.args.script.now) c.args.session.now c.args.m.now
          c.loop-index.session c.loop-index.m) same c.loop-index.invariant);
    }
