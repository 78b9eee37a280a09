use Rattle.std.proofs.Common.{Err, None, refl}
use Rattle.command_line.specs.Requests.{request_of}
use Rattle.command_line.specs.declared.request.Request.TheVariants as code
use Rattle.script_files.specs.declared.fault.Fault.TheVariants.{Memory, Usage}
use Rattle.doc_run.proofs.ByRequest.{decided_as, known, memory_refuses, none_asked}
use Rattle.doc_run.proofs.ByRequest.{usage_refuses}
use Rattle.doc_run.proofs.Deciding.{refused_by}
use Rattle.doc_run.proofs.Fetching.{reads_as, renamed, unread_made, unread_none, unread_wanted}
use Rattle.doc_run.proofs.requests.answer_request.Goals as goal

pub returns-in-Ok-Run : goal.returns-in-Ok-Run
returns-in-Ok-Run g c =
    let holds = g.H.Shelf.holds c.args.shelf.now in
    let is = known _ _ _ (code.Run c.in-Ok-Run.run') c.all.ensures c.in-Ok-Run.ensures.request
    c.in-Ok-Run.field-0-is in
    record {
      decided = decided_as holds _ _ _ is c.run_scripts.ensures.decided;
      reads = reads_as holds _ _ _ _ _ _ _ _ _ _ _ _ is c.run_scripts.ensures.reads;
    }

pub returns-in-Ok-Image : goal.returns-in-Ok-Image
returns-in-Ok-Image g c =
    let holds = g.H.Shelf.holds c.args.shelf.now in
    let is = known _ _ _ (code.Image c.in-Ok-Image.run') c.all.ensures c.in-Ok-Image.ensures.request
    c.in-Ok-Image.field-0-is in
    record {
      decided = decided_as holds _ _ _ is c.run_scripts-in-Ok-Image.ensures.decided;
      reads = reads_as holds _ _ _ _ _ _ _ _ _ _ _ _ is c.run_scripts-in-Ok-Image.ensures.reads;
    }

pub returns-in-Ok-Dump : goal.returns-in-Ok-Dump
returns-in-Ok-Dump g c =
    let holds = g.H.Shelf.holds c.args.shelf.now in
    let is = known _ _ _ (code.Dump c.in-Ok-Dump.names) c.all.ensures c.in-Ok-Dump.ensures.request
    c.in-Ok-Dump.field-0-is in
    record {
      decided = decided_as holds _ _ _ is c.dump_beside.ensures.decided;
      reads = reads_as holds _ _ _ _ _ _ _ _ _ _ _ _ is c.dump_beside.ensures.reads;
    }

pub returns-in-Ok-Census : goal.returns-in-Ok-Census
returns-in-Ok-Census g c =
    let holds = g.H.Shelf.holds c.args.shelf.now in
    let is = known _ _ _ (code.Census c.in-Ok-Census.name) c.all.ensures c.in-Ok-Census.ensures.request
    c.in-Ok-Census.field-0-is in
    record {
      decided = decided_as holds _ _ _ is c.answer_file.ensures.decided;
      reads = reads_as holds _ _ _ _ _ _ _ _ _ _ _ _ is c.answer_file.ensures.reads;
    }

pub returns-in-Ok-Replay : goal.returns-in-Ok-Replay
returns-in-Ok-Replay g c =
    let holds = g.H.Shelf.holds c.args.shelf.now in
    let is = known _ _ _ (code.Replay c.in-Ok-Replay.name) c.all.ensures c.in-Ok-Replay.ensures.request
    c.in-Ok-Replay.field-0-is in
    record {
      decided = decided_as holds _ _ _ is c.answer_file-in-Ok-Replay.ensures.decided;
      reads = reads_as holds _ _ _ _ _ _ _ _ _ _ _ _ is c.answer_file-in-Ok-Replay.ensures.reads;
    }

pub returns-in-Ok-Load : goal.returns-in-Ok-Load
returns-in-Ok-Load g c =
    let holds = g.H.Shelf.holds c.args.shelf.now in
    let is = known _ _ _ (code.Load c.in-Ok-Load.name) c.all.ensures c.in-Ok-Load.ensures.request
    c.in-Ok-Load.field-0-is in
    record {
      decided = decided_as holds _ _ _ is c.answer_file-in-Ok-Load.ensures.decided;
      reads = reads_as holds _ _ _ _ _ _ _ _ _ _ _ _ is c.answer_file-in-Ok-Load.ensures.reads;
    }

pub returns-in-Ok-Mail : goal.returns-in-Ok-Mail
returns-in-Ok-Mail g c =
    let holds = g.H.Shelf.holds c.args.shelf.now in
    let is = known _ _ _ (code.Mail c.in-Ok-Mail.mail) c.all.ensures c.in-Ok-Mail.ensures.request
    c.in-Ok-Mail.field-0-is in
    record {
      decided = decided_as holds _ _ _ is c.run_mail.ensures.decided;
      reads = reads_as holds _ _ _ _ _ _ _ _ _ _ _ _ is c.run_mail.ensures.reads;
    }

pub returns-in-Ok-Gen : goal.returns-in-Ok-Gen
returns-in-Ok-Gen g c =
    let holds = g.H.Shelf.holds c.args.shelf.now in
    let is = known _ _ _ (code.Gen c.in-Ok-Gen.made) c.all.ensures c.in-Ok-Gen.ensures.request
    c.in-Ok-Gen.field-0-is in
    let decided = c.run_generated.ensures.decided holds in
    record {
      decided = decided_as holds _ _ _ is decided;
      reads = reads_as holds _ _ _ _ _ _ _ _ _ _ _ _ is
          (unread_made holds _ _ _ _ _ c.in-Ok-Gen.made _ decided);
    }

pub returns-in-Err-Usage : goal.returns-in-Err-Usage
returns-in-Err-Usage g c =
    let holds = g.H.Shelf.holds c.args.shelf.now in
    let none = none_asked _ _ _ c.all.ensures c.in-Err-Usage.ensures.request
    c.in-Err-Usage.field-0-is in
    record {
      decided = decided_as holds _ _ (Err c.by.result) none (refused_by holds None c.by.result Usage
          c.by.ensures.fault c.by.ensures.dumped (usage_refuses holds));
      reads = reads_as holds _ _ _ _ _ _ _ _ _ _ _ _ none
          (renamed holds None _ _ _ _ _ _ _ _ _ c.by.result.fault Usage c.by.ensures.fault
          (unread_none holds _ _ _ _ _ None Usage (λ file e. cc) refl));
    }

pub returns-in-Err-NoMemory : goal.returns-in-Err-NoMemory
returns-in-Err-NoMemory g c =
    let holds = g.H.Shelf.holds c.args.shelf.now in
    let asked = request_of c.args.words.now in
    let refusal = c.by-in-Err-NoMemory in
    record {
      decided = refused_by holds asked refusal.result Memory refusal.ensures.fault
          refusal.ensures.dumped (memory_refuses holds asked None refl);
      reads = renamed holds asked _ _ _ _ _ _ _ _ _ refusal.result.fault Memory
          refusal.ensures.fault (unread_wanted holds _ _ _ _ _ asked);
    }
