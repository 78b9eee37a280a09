use Rattle.std.proofs.Common.{ap, rules}
use Rattle.client_heap.specs.Lent.{Lent}
use Rattle.client_heap.proofs.Lending.{same_identity}
use Rattle.client_run.proofs.Answering.{answered_so, unanswered_so}
use Rattle.client_run.proofs.over.answer_over.Goals as goal

pub returns-clause-answered : goal.returns-clause-answered
returns-clause-answered g c =
    answered_so c.args.command.now _ _ _ _ c.answer-answered.result (search rules) (search rules)

pub returns-clause-unanswered : goal.returns-clause-unanswered
returns-clause-unanswered g c =
    unanswered_so c.args.command.now _ _ _ _ c.answer-answered.result (search rules)
    (search rules) (search rules) (search rules)

pub returns-clause-same : goal.returns-clause-same
returns-clause-same g c =
    let bound = g.M.ClientSeat.bound in
    let lent = c.answer-answered.ensures.lent in
    let same = same_identity (bound c.new-heap.result.m.now)
    (bound c.answer-answered.new.heap.m.now) (ap (λ (l : Lent). l.mutator) lent) in
    record {
      mutator = search (rules, same);
      limits = search rules;
      client = search rules;
      minor_room = search rules;
      promoter = search rules;
    }

pub returns-clause-queue : goal.returns-clause-queue
returns-clause-queue g c =
    let lent = c.answer-answered.ensures.lent in
    let same = ap (λ (l : Lent). l.queue) lent in search (rules, same)
