use Rattle.std.proofs.Common.{◌∙◌, refl, sym}
use Rattle.std.proofs.lemmas.Bool.{true≢false}
use Rattle.std.proofs.lemmas.Result.{err_from_is_err_and}
use Rattle.client_session.proofs.Turning.{answered_late, may_lost}
use Rattle.client_session.proofs.journal.Journal.turns.Goals as goal
use Rattle.client_history.proofs.States.{lost_still, lost_then, reads_still, reads_then}

pub loop-init : goal.loop-init
loop-init g c =
    let s = g.H.ClientHeap.state c.args.heap.now in
    (lost_still s c.requires.ready, (refl, λ is. reads_still s))

pub returns-in-Some-ended-clause-answered : goal.returns-in-Some-ended-clause-answered
returns-in-Some-ended-clause-answered g c =
    let state = g.H.ClientHeap.state in
    answered_late c.args.self.now c.args.command.now (state c.args.heap.now) (state c.loop.heap)
    (state c.turn.new.heap) c.in-Some-ended.given c.loop.invariant.0
    (rw c.in-Some-ended.is at c.in_ok-ended.ensures.ends)

pub returns-in-Some-ended-clause-reads : goal.returns-in-Some-ended-clause-reads
returns-in-Some-ended-clause-reads g c = λ is.
    reads_then (c.loop.invariant.1.1 is) (c.in_ok-ended.ensures.reads is)

pub returns-in_err-ended-clause-reads : goal.returns-in_err-ended-clause-reads
returns-in_err-ended-clause-reads g c = λ is.
    reads_then (c.loop.invariant.1.1 is) (c.in_err-ended.ensures.reads is)

pub loop-preserved : goal.loop-preserved
loop-preserved g c =
    let outrun = rw c.in-None-ended.is at c.in_ok-ended.ensures.ends in (
      lost_then c.loop.invariant.0 outrun.lost,
      (
        c.in_ok-ended.ensures.lent ∙ c.loop.invariant.1.0,
        λ is. reads_then (c.loop.invariant.1.1 is) (c.in_ok-ended.ensures.reads is),
      ),
    )

pub turn-requires : goal.turn-requires
turn-requires g c = record {
  may = may_lost c.requires.may c.loop.invariant.0;
  ready = c.loop.invariant.0.ready;
}

pub returns-in-Some-ended-clause-settled : goal.returns-in-Some-ended-clause-settled
returns-in-Some-ended-clause-settled g c = c.in_ok-ended.ensures.settled

pub returns-in-Some-ended-clause-lent : goal.returns-in-Some-ended-clause-lent
returns-in-Some-ended-clause-lent g c = c.in_ok-ended.ensures.lent ∙ c.loop.invariant.1.0

pub returns-in_err-ended-clause-lost : goal.returns-in_err-ended-clause-lost
returns-in_err-ended-clause-lost g c =
    let failed = err_from_is_err_and c.from_residual.result c.from_residual.ensures.1 in
    rw failed.1
    (lost_then c.loop.invariant.0 c.in_err-ended.ensures.ends)

pub returns-in_err-ended-clause-settled : goal.returns-in_err-ended-clause-settled
returns-in_err-ended-clause-settled g c = c.in_err-ended.ensures.settled

pub returns-in_err-ended-clause-lent : goal.returns-in_err-ended-clause-lent
returns-in_err-ended-clause-lent g c = c.in_err-ended.ensures.lent ∙ c.loop.invariant.1.0

pub returns-in_err-ended-clause-spared : goal.returns-in_err-ended-clause-spared
returns-in_err-ended-clause-spared g c = λ plain.
    absurd (true≢false (sym (c.in_err-ended.ensures.spared plain)))
