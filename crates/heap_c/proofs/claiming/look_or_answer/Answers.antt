use Rattle.mutator_seat.specs.Bound.{bound}
use Rattle.mutator_seat.specs.Claims.{Seeking}
use Rattle.mutator_seat.specs.Stretches.{LookAndAnswer}
use Rattle.mutator_seat.proofs.Calm.{calm_as}
use Rattle.mutator_seat.proofs.Seeking.{answer_seeks, look_seeks, seeking_then}
use Rattle.heap_c.proofs.claiming.look_or_answer.Goals as goal

pub returns-then-ne-clause-none : goal.returns-then-ne-clause-none
returns-then-ne-clause-none c =
    let heap = c.args.heap.now in
    record {
      mode = c.look_once-control.ensures.mode;
      sought = look_seeks (bound heap c.args.seat.now) (bound heap c.look_once-control.new.seat)
          c.look_once-control.result c.look_once-control.ensures.told;
    }

pub returns-clause-none : goal.returns-clause-none
returns-clause-none c =
    let heap = c.args.heap.now in
    let was = bound heap c.args.seat.now in
    let looked = bound heap c.look_once-control.new.seat in
    let answered = bound heap c.answer-answered.new.seat in
    let now = bound heap c.look_once.new.seat in
    let number = looked.seat.me.number in
    let own = looked.seat.me.presence.status in
    let how = c.answer-answered.result in
    let answers = calm_as (LookAndAnswer number own how) Seeking looked answered
    (answer_seeks number own how) c.answer-answered.ensures.calm in
    record {
      mode = c.look_once.ensures.mode;
      sought = seeking_then was looked now
          (look_seeks was looked c.look_once-control.result c.look_once-control.ensures.told)
          (seeking_then looked answered now answers
          (look_seeks answered now c.look_once.result c.look_once.ensures.told));
    }
