use Rattle.client_session.proofs.Turning.{ends_late, ends_on, ends_ready, gives_on, gives_reads}
use Rattle.client_session.proofs.Turning.{gives_ready, may_lost}
use Rattle.client_session.proofs.journal.Journal.turn.Goals as goal
use Rattle.client_history.proofs.States.{reads_then}

pub try_once-ended-requires : goal.try_once-ended-requires
try_once-ended-requires g c =
    let settled = c.settle.ensures in
    record {
      may = may_lost c.requires.may (gives_ready settled.room settled.gives_back);
      room = settled.room;
    }

pub returns-clause-ends : goal.returns-clause-ends
returns-clause-ends g c =
    let state = g.H.ClientHeap.state in
    let before = c.settle.ensures in
    let j = c.args.self.now in
    let command = c.args.command.now in
    let s = state c.args.heap.now in
    let t = state c.settle.new.self in
    let u = state c.try_once-ended.new.heap in
    let w = state c.give_back.new.held in
    let r = c.try_once-ended.result in
    let ended = ends_late j command s t u r (gives_ready before.room before.gives_back)
    c.try_once-ended.ensures.ends in
    ends_on j command s u w r ended
    (gives_on (ends_ready j command s u r ended) c.give_back.ensures.gives_back)

pub returns-clause-reads : goal.returns-clause-reads
returns-clause-reads g c = λ is.
    reads_then (gives_reads c.settle.ensures.gives_back)
    (reads_then (c.try_once-ended.ensures.reads is) (gives_reads c.give_back.ensures.gives_back))
