use Rattle.std.proofs.Common.{◌≤◌, ◌∙◌, arith, ap, sym}
use Rattle.client_session.proofs.Drafts.{dput_ends, dput_full_ends, dput_refused_ends, drafts_of}
use Rattle.client_session.proofs.Commits.{never_wants}
use Rattle.client_session.proofs.Editing.{edits_none}
use Rattle.client_session.proofs.Rooms.{same_none}
use Rattle.client_session.proofs.journal.Journal.draft_put.Goals as goal
use Rattle.client_history.proofs.States.{none_lost, none_then}
use Rattle.client_history.proofs.Spared.{set_text_spared}
use Rattle.client_history.specs.Progress.{runs_out}
use Rattle.doc_tree.specs.Edits.{set_text}

pub returns-in-Err-clause-ends : goal.returns-in-Err-clause-ends
returns-in-Err-clause-ends g c =
    let made = c.in-Err.ensures in
    dput_full_ends c.args.self.now c.args.path.now c.requires.may c.args.text.now
    (same_none made.pass made.draft made.small made.lasts)
    (let x = made.kept in omega (arith, x, c.requires.room)) made.full

pub returns-in-Ok-refused-clause-ends : goal.returns-in-Ok-refused-clause-ends
returns-in-Ok-refused-clause-ends g c =
    let h = g.H.ClientHeap in
    let made = c.in-Ok.ensures in
    let told = c.in-Ok-refused.ensures in
    let room : 9_000 ≤ (h.state c.set_text.new.self).room =
    (let x = made.room in let y = c.set_text.ensures.edits.room in omega (arith, x, y)) in
    dput_refused_ends c.args.self.now c.args.path.now c.requires.may c.args.text.now
    c.in-Err-set_text.fault c.in-Ok-refused.given 0
    (same_none made.pass made.draft made.small made.lasts) c.set_text.ensures.edits
    (ap (set_text c.args.path.now c.args.text.now) (sym c.draft-draft.ensures.tree)
    ∙ sym c.in-Err-set_text.ensures.tree) room told.reply told.kept told.place

pub returns-in-Ok-set_text-clause-ends : goal.returns-in-Ok-set_text-clause-ends
returns-in-Ok-set_text-clause-ends g c =
    let h = g.H.ClientHeap in
    let made = c.in-Ok.ensures in
    let set = c.set_draft.ensures in
    let tree = (h.shown c.set_text.new.self).tree c.in-Ok-set_text.at in
    let room : 9_000 ≤ (h.state c.set_draft.new.self).room =
    (let x = made.room in
    let y = c.set_text.ensures.edits.room in
    let z = set.room in
    omega (arith, x, y, z)) in
    dput_ends c.args.self.now c.args.path.now c.requires.may c.args.text.now tree 0
    (same_none made.pass made.draft made.small made.lasts) c.set_text.ensures.edits
    (ap (set_text c.args.path.now c.args.text.now) (sym c.draft-draft.ensures.tree)
    ∙ sym c.in-Ok-set_text.ensures.tree) (drafts_of set.pass set.draft set.lasts) room

pub returns-in-Err-refused-clause-ends : goal.returns-in-Err-refused-clause-ends
returns-in-Err-refused-clause-ends g c =
    let made = c.in-Ok.ensures in
    let edits = c.set_text.ensures.edits in
    none_lost (let x = made.room in let y = edits.room in omega (arith, x, y))
    (none_then (same_none made.pass made.draft made.small made.lasts) (edits_none edits))

pub returns-in-Err-refused-clause-lent : goal.returns-in-Err-refused-clause-lent
returns-in-Err-refused-clause-lent g c = c.set_text.ensures.lent ∙ c.in-Ok.ensures.lent

pub returns-in-Ok-refused-clause-lent : goal.returns-in-Ok-refused-clause-lent
returns-in-Ok-refused-clause-lent g c = c.set_text.ensures.lent ∙ c.in-Ok.ensures.lent

pub returns-in-Ok-set_text-clause-lent : goal.returns-in-Ok-set_text-clause-lent
returns-in-Ok-set_text-clause-lent g c =
    c.set_draft.ensures.lent ∙ c.set_text.ensures.lent ∙ c.in-Ok.ensures.lent

pub returns-in-Err-refused-clause-spared : goal.returns-in-Err-refused-clause-spared
returns-in-Err-refused-clause-spared g c =
    absurd (never_wants c.in-Err-set_text.fault c.in-Err-refused.ensures.wants
    (ap runs_out c.in-Err-set_text.ensures.tree
    ∙ set_text_spared c.args.path.now c.args.text.now _))
