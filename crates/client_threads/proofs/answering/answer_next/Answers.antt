use Rattle.client_threads.proofs.Going.{went_none, went_on}
use Rattle.client_threads.proofs.answering.answer_next.Goals as goal

pub returns-in-Ok : goal.returns-in-Ok
returns-in-Ok g c =
    let told = c.in-Ok.ensures in
    record {
      went = went_on c.args.session.now c.args.m.now c.answer.new.self c.answer.new.m
          c.args.command.now _ told.may told.same told.answered;
    }

pub returns-in-Err : goal.returns-in-Err
returns-in-Err g c =
    let told = c.in-Err.ensures in
    record {
      went = went_none c.args.session.now c.args.m.now c.answer.new.self c.answer.new.m told.may
          told.same told.unanswered.entries;
    }
