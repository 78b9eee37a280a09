use Rattle.std.proofs.Common.{Err, Ok, Some}
use Rattle.doc_run.specs.Request.{asked_of}
use Rattle.doc_run.proofs.Deciding.{file_answers, file_refuses, refused_by}
use Rattle.doc_run.proofs.Fetching.{read_one, renamed}
use Rattle.doc_run.proofs.reading.answer_file.Goals as goal

pub returns-in-Ok : goal.returns-in-Ok
returns-in-Ok g c =
    let holds = g.H.Shelf.holds c.args.shelf.now in
    let reading = c.args.reading in
    let name = c.args.name.now in
    record {
      decided = file_answers holds reading name c.in-Ok.text c.in-Ok.ensures.answer;
      reads = read_one holds reading name (Ok c.in-Ok.text) _ _ _ _ _ _ _ _ _
          c.in-Ok.ensures.answer c.in-Ok.ensures.read c.in-Ok.ensures.opens c.in-Ok.ensures.calls
          c.in-Ok.ensures.unbroken c.in-Ok.ensures.orderly;
    }

pub returns-in-Err : goal.returns-in-Err
returns-in-Err g c =
    let holds = g.H.Shelf.holds c.args.shelf.now in
    let reading = c.args.reading in
    let name = c.args.name.now in
    let asked = Some (asked_of reading name) in
    let fault = c.in-Err.fault in
    record {
      decided = refused_by holds asked c.by.result fault c.by.ensures.fault c.by.ensures.dumped
          (file_refuses holds reading name fault c.in-Err.ensures.answer);
      reads = renamed holds asked _ _ _ _ _ _ _ _ _ c.by.result.fault fault c.by.ensures.fault
          (read_one holds reading name (Err fault) _ _ _ _ _ _ _ _ _ c.in-Err.ensures.answer
          c.in-Err.ensures.read c.in-Err.ensures.opens c.in-Err.ensures.calls
          c.in-Err.ensures.unbroken c.in-Err.ensures.orderly);
    }
