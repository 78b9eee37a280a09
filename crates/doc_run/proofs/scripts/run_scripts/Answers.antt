use Rattle.std.proofs.Common.{None, Some}
use Rattle.command_line.specs.Requests.{run_asked_by}
use Rattle.script_files.specs.declared.fault.Fault.TheVariants.{Memory}
use Rattle.doc_run.specs.Request.{asked_for}
use Rattle.doc_run.proofs.Deciding.{refused_by, scripts_answer, scripts_refuse}
use Rattle.doc_run.proofs.Fetching.{reads_for, renamed, then_wanted}
use Rattle.doc_run.proofs.scripts.run_scripts.Goals as goal

pub returns-in-Err : goal.returns-in-Err
returns-in-Err g c =
    let holds = g.H.Shelf.holds c.args.shelf.now in
    let report = c.args.report in
    let run = run_asked_by c.args.run.now in
    let asked = Some (asked_for report run) in
    let fault = c.in-Err.fault in
    record {
      decided = refused_by holds asked c.by.result fault c.by.ensures.fault c.by.ensures.dumped
          (scripts_refuse holds report run fault c.in-Err.ensures.finished);
      reads = renamed holds asked _ _ _ _ _ _ _ _ _ c.by.result.fault fault c.by.ensures.fault
          (reads_for holds report run (Some fault) _ _ _ _ _ _ _ _ _ c.in-Err.ensures.reads);
    }

pub returns : goal.returns
returns g c =
    let holds = g.H.Shelf.holds c.args.shelf.now in
    let report = c.args.report in
    let run = run_asked_by c.args.run.now in
    let f = c.in-Ok.ran.finished in
    record {
      decided = scripts_answer holds report run f c.in-Ok.ran.forms.items c.in-Ok-report_text.text
          c.in-Ok.ensures.finished c.in-Ok-report_text.ensures;
      reads = reads_for holds report run None _ _ _ _ _ _ _ _ _ c.in-Ok.ensures.reads;
    }

pub returns-in_default-clause-reads : goal.returns-in_default-clause-reads
returns-in_default-clause-reads g c =
    let holds = g.H.Shelf.holds c.args.shelf.now in
    let report = c.args.report in
    let run = run_asked_by c.args.run.now in
    let asked = Some (asked_for report run) in
    let refusal = c.by-in_default in
    renamed holds asked _ _ _ _ _ _ _ _ _ refusal.result.fault Memory refusal.ensures.fault
    (then_wanted holds asked _ _ _ _ _ _ _ _ _
    (reads_for holds report run None _ _ _ _ _ _ _ _ _ c.in-Ok.ensures.reads))
