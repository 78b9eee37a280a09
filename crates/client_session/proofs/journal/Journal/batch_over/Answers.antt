use Rattle.std.proofs.Common.{◌∙◌, ap, arith, refl, sym}
use Rattle.client_session.proofs.Batches.{batch_full, batch_made, batch_outrun, batch_refused}
use Rattle.client_session.proofs.Commits.{never_wants}
use Rattle.client_session.proofs.Rooms.{may_on}
use Rattle.client_session.proofs.journal.Journal.batch_over.Goals as goal
use Rattle.client_history.proofs.Spared.{all_spared}
use Rattle.client_history.proofs.States.{none_lost, none_then}
use Rattle.client_history.specs.Progress.{runs_out}
use Rattle.doc_model.specs.declared.command.Command.TheVariants as command

pub commit-ended-requires : goal.commit-ended-requires
commit-ended-requires g c =
    let works = c.in-Made.ensures.works in
    record {
      may = may_on c.requires.may works.none;
      room = works.room;
      version = works.version;
      node = works.node;
      seen = let is = works.number in
          let later = works.none.lasts.passes.seen in
          omega (arith, is, later, c.requires.seen);
    }

pub returns-in-Made-clause-ends : goal.returns-in-Made-clause-ends
returns-in-Made-clause-ends g c = λ s may begins.
    c.commit-ended.ensures.ends (command.Batch c.args.edits.now) s
    (batch_made c.args.self.now c.args.edits.now c.args.opened may begins c.in-Made.made
    c.in-Made.ensures.works)
    refl

pub returns-in-Ok-clause-ends : goal.returns-in-Ok-clause-ends
returns-in-Ok-clause-ends g c = λ s may begins.
    let works = c.in-Refused.ensures.works in
    let told = c.in-Ok.ensures in
    batch_refused c.args.self.now c.args.edits.now c.args.opened may begins c.in-Refused.fault
    c.in-Ok.given works.0 works.1 told.reply told.kept told.place

pub returns-in-Err-clause-ends : goal.returns-in-Err-clause-ends
returns-in-Err-clause-ends g c = λ s may begins.
    let stopped = c.in-Refused.ensures.works.0 in
    none_lost stopped.ready (none_then begins.read.none stopped.none)

pub returns-in-Err-clause-spared : goal.returns-in-Err-clause-spared
returns-in-Err-clause-spared g c =
    let works = c.in-Refused.ensures.works in
    absurd (never_wants c.in-Refused.fault c.in-Err.ensures.wants
    (ap runs_out (sym works.1) ∙ all_spared _ c.args.edits.now _))

pub returns-in-Outrun-clause-ends : goal.returns-in-Outrun-clause-ends
returns-in-Outrun-clause-ends g c = λ s may begins.
    let works = c.in-Outrun.ensures.works in
    batch_outrun c.args.self.now c.args.edits.now c.args.opened may begins works.0 works.1

pub returns-in-Full-clause-ends : goal.returns-in-Full-clause-ends
returns-in-Full-clause-ends g c = λ s may begins.
    let works = c.in-Full.ensures.works in
    batch_full c.args.self.now c.args.edits.now c.args.opened may begins works.0 works.1
