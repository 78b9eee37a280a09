use Rattle.std.proofs.Common.{◌∙◌, ap, arith, refl}
use Rattle.client_session.proofs.Editing.{edits_none}
use Rattle.client_session.proofs.Regrafts.{published_carried, edit_works}
use Rattle.client_session.proofs.Rooms.{full_ends, may_on}
use Rattle.client_session.proofs.journal.Journal.publish.Goals as goal
use Rattle.client_history.proofs.Spared.{attach_spared}
use Rattle.client_history.proofs.States.{none_then}
use Rattle.client_history.specs.Progress.{runs_out}
use Rattle.doc_model.specs.declared.command.Command.TheVariants as command
use Rattle.doc_records.specs.Trees.{tree_of}
use Rattle.doc_tree.specs.Edits.{attach}
use Rattle.doc_tree.specs.Tree.{DocTree}

pub finish_along-ended-requires : goal.finish_along-ended-requires
finish_along-ended-requires g c =
    let begins = c.in-Ok.ensures.begins in
    let edits = c.attach-edited.ensures in
    record {
      may = may_on c.requires.may (none_then begins.read.none (edits_none edits.edits));
      room = let x = begins.room in let y = edits.edits.room in omega (arith, x, y);
      version = edits.still.versions c.in-Ok.opened.version begins.holds.version;
      root = edits.still.nodes c.in-Ok.opened.root begins.holds.node;
      node = edits.node;
      seen = let x = begins.read.seen in let y = edits.edits.lasts.passes.seen in
          omega (arith, x, y);
    }

pub returns-in-Ok-clause-ends : goal.returns-in-Ok-clause-ends
returns-in-Ok-clause-ends g c =
    let h = g.H.ClientHeap in
    let j = c.args.self.now in
    let s = h.state c.args.heap.now in
    let path = c.args.path.now in
    let draft = tree_of s.draft in
    let publish = command.Publish path in
    let begins = c.in-Ok.ensures.begins in
    let edits = c.attach-edited.ensures in
    let root = (h.shown c.begin.new.heap).tree c.in-Ok.opened.root in
    c.finish_along-ended.ensures.ends publish (attach path draft) s
    (edit_works j publish c.in-Ok.opened 0 (attach path draft) _ c.requires.may
    (record {
      carried = published_carried c.args.path draft;
      spared = attach_spared path draft;
      answers = λ v trees. refl;
      needs = λ v. refl;
    })
    begins edits.edits edits.still
    (edits.tree
    ∙ ap (λ (d : DocTree). attach path d root)
    (c.draft-draft.ensures.tree ∙ ap tree_of begins.read.none.draft)))

pub returns-in-Err-clause-ends : goal.returns-in-Err-clause-ends
returns-in-Err-clause-ends g c =
    full_ends c.args.self.now (command.Publish c.args.path.now) c.in-Err.shown
    c.requires.may refl c.in-Err.ensures.full

pub returns-in-Ok-clause-spared : goal.returns-in-Ok-clause-spared
returns-in-Ok-clause-spared g c =
    c.finish_along-ended.ensures.spared
    (ap runs_out c.attach-edited.ensures.tree ∙ attach_spared c.args.path.now _ _)
