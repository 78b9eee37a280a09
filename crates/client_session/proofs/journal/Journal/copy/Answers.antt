use Rattle.std.proofs.Common.{Result, ◌∙◌, ap, arith, refl}
use Rattle.client_session.proofs.Editing.{edits_none}
use Rattle.client_session.proofs.Regrafts.{copied_carried, edit_works}
use Rattle.client_session.proofs.Rooms.{full_ends, may_on}
use Rattle.client_session.proofs.journal.Journal.copy.Goals as goal
use Rattle.client_history.proofs.Spared.{attached_spared}
use Rattle.client_history.proofs.States.{none_then}
use Rattle.client_history.specs.Progress.{runs_out}
use Rattle.doc_model.specs.declared.command.Command.TheVariants as command
use Rattle.doc_model.specs.Answers.{attached}
use Rattle.doc_tree.specs.Tree.{DocTree, node}
use Rattle.doc_tree.specs.declared.edit.EditFault.{EditFault}

pub finish_along-ended-requires : goal.finish_along-ended-requires
finish_along-ended-requires g c =
    let begins = c.in-Ok.ensures.begins in
    let edits = c.attached-edited.ensures in
    record {
      may = may_on c.requires.may (none_then begins.read.none (edits_none edits.edits));
      room = let x = begins.room in let y = edits.edits.room in omega (arith, x, y);
      version = edits.still.versions c.in-Ok.opened.version begins.holds.version;
      root = edits.still.nodes c.in-Ok.opened.root begins.holds.node;
      node = edits.node;
      seen = let x = begins.read.seen in let y = edits.edits.lasts.passes.seen in
          omega (arith, x, y);
    }

pub returns-in-Ok-clause-ends : goal.returns-in-Ok-clause-ends
returns-in-Ok-clause-ends g c =
    let h = g.H.ClientHeap in
    let j = c.args.self.now in
    let s = h.state c.args.heap.now in
    let source = c.args.«from».now in
    let to = c.args.to.now in
    let copy = command.Copy source to in
    let edit : DocTree → Result DocTree EditFault = λ d. attached to d (node source d) in
    let begins = c.in-Ok.ensures.begins in
    let edits = c.attached-edited.ensures in
    c.finish_along-ended.ensures.ends copy edit s
    (edit_works j copy c.in-Ok.opened 8 edit _ c.requires.may
    (record {
      carried = copied_carried c.args.to c.args.«from»;
      spared = λ d. attached_spared to d (node source d);
      answers = λ v trees. refl;
      needs = λ v. refl;
    })
    begins edits.edits edits.still edits.tree)

pub returns-in-Err-clause-ends : goal.returns-in-Err-clause-ends
returns-in-Err-clause-ends g c =
    full_ends c.args.self.now (command.Copy c.args.«from».now c.args.to.now) c.in-Err.shown
    c.requires.may refl c.in-Err.ensures.full

pub returns-in-Ok-clause-spared : goal.returns-in-Ok-clause-spared
returns-in-Ok-clause-spared g c =
    c.finish_along-ended.ensures.spared
    (ap runs_out c.attached-edited.ensures.tree ∙ attached_spared c.args.to.now _ _)
