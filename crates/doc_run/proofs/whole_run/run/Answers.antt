use Rattle.command_line.specs.Requests.{request_of}
use Rattle.doc_run.proofs.Calling.{calls, failures}
use Rattle.doc_run.proofs.Ending.{promised}
use Rattle.doc_run.proofs.whole_run.run.Goals as goal

pub returns : goal.returns
returns g c =
    let holds = g.H.Shelf.holds c.args.shelf.now in
    let asked = request_of c.args.words.now in
    let result = c.write.result in
    let answered = c.answer_request.result in
    let decided = c.answer_request.ensures.decided in
    let reads = c.answer_request.ensures.reads in
    let at = c.write.ensures.status in
    let ended = c.write.ensures.ended in
    let all = promised holds asked result _ _ at answered decided ended in
    record {
      status = at;
      finished = all.finished;
      dumped = all.dumped;
      mailed = all.mailed;
      completed = all.completed;
      refused = all.refused;
      due = all.due;
      failed = failures holds asked result at _ _ _ _ _ _ _ _ _ _ _ _ _ _ _ answered decided ended
          reads c.write.ensures.cause c.write.ensures.want;
      written = all.written;
      calls = calls holds asked result at _ _ _ _ _ _ _ _ _ _ _ _ _
          c.write.ensures.unbroken c.write.ensures.orderly answered ended reads;
    }
