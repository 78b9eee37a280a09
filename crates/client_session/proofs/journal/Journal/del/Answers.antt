use Rattle.std.proofs.Common.{◌∙◌, ap, arith, refl, sym}
use Rattle.client_session.proofs.Editing.{edited_begun, edits_none}
use Rattle.client_session.proofs.Rooms.{full_ends, may_on}
use Rattle.client_session.proofs.journal.Journal.del.Goals as goal
use Rattle.client_history.proofs.Spared.{delete_spared}
use Rattle.client_history.proofs.States.{none_then}
use Rattle.client_history.specs.Progress.{runs_out}
use Rattle.doc_model.specs.declared.command.Command.TheVariants as command
use Rattle.doc_tree.specs.Edits.{delete}

pub finish_deletion-ended-requires : goal.finish_deletion-ended-requires
finish_deletion-ended-requires g c =
    let begins = c.in-Ok.ensures.begins in
    let edits = c.delete-edited.ensures in
    record {
      may = may_on c.requires.may (none_then begins.read.none (edits_none edits.edits));
      room = let x = begins.room in let y = edits.edits.room in omega (arith, x, y);
      version = edits.still.versions c.in-Ok.opened.version begins.holds.version;
      root = edits.still.nodes c.in-Ok.opened.root begins.holds.node;
      node = edits.node;
      seen = let x = begins.read.seen in let y = edits.edits.lasts.passes.seen in
          omega (arith, x, y);
    }

pub returns-in-Ok-clause-ends : goal.returns-in-Ok-clause-ends
returns-in-Ok-clause-ends g c =
    let h = g.H.ClientHeap in
    let j = c.args.self.now in
    let path = c.args.path.now in
    let begins = c.in-Ok.ensures.begins in
    let edits = c.delete-edited.ensures in
    c.finish_deletion-ended.ensures.ends (h.state c.args.heap.now) (
      c.requires.may,
      (
        none_then begins.read.none (edits_none edits.edits),
        (
          edited_begun j (command.Del path) c.in-Ok.opened 0 (delete path) _ c.requires.may
              begins edits.edits edits.tree (delete_spared path) (λ trees. refl),
          edits.tree
              ∙ ap (delete path)
              (sym (edits.still.trees c.in-Ok.opened.root begins.holds.node)),
        ),
      ),
    )

pub returns-in-Err-clause-ends : goal.returns-in-Err-clause-ends
returns-in-Err-clause-ends g c =
    full_ends c.args.self.now (command.Del c.args.path.now) c.in-Err.shown
    c.requires.may refl c.in-Err.ensures.full

pub returns-in-Ok-clause-spared : goal.returns-in-Ok-clause-spared
returns-in-Ok-clause-spared g c =
    c.finish_deletion-ended.ensures.spared
    (ap runs_out c.delete-edited.ensures.tree ∙ delete_spared c.args.path.now _)
