use Rattle.std.proofs.Common.{◌∙◌, ◌+◌, arith, drop, refl}
use Rattle.client_session.proofs.Batches.{last_working, next_working, works_first, works_full}
use Rattle.client_session.proofs.Batches.{works_on, works_outrun, works_refused}
use Rattle.client_session.proofs.batching.make_all.Goals as goal

pub loop-edit-init : goal.loop-edit-init
loop-edit-init g c =
    let h = g.H.ClientHeap in
    record {
      working = works_first (h.state c.args.heap.now) (h.shown c.args.heap.now) c.args.opened
          c.args.edits.now c.requires.version c.requires.node c.requires.room;
      lent = refl;
    }

pub room_for-requires-clause-room : goal.room_for-requires-clause-room
room_for-requires-clause-room g c = c.loop-edit.invariant.working.room

pub room_for-requires-clause-version : goal.room_for-requires-clause-version
room_for-requires-clause-version g c = c.loop-edit.invariant.working.version

pub room_for-requires-clause-node : goal.room_for-requires-clause-node
room_for-requires-clause-node g c = c.loop-edit.invariant.working.node

pub room_for-requires-clause-seen : goal.room_for-requires-clause-seen
room_for-requires-clause-seen g c =
    let is = c.loop-edit.invariant.working.number in
    let more = c.loop-edit.invariant.working.none.lasts.passes.seen in
    let seen = c.requires.seen in omega (arith, is, more, seen)

pub loop-edit-preserved : goal.loop-edit-preserved
loop-edit-preserved g c =
    let edits = c.args.edits.now in
    let k = c.loop-edit.edit-index in
    let e = c.edit-item.result in
    record {
      working = works_on e (drop (k + 1) edits) c.loop-edit.working c.in-Ok-Some.roomy
          (next_working edits k e c.loop-edit-test.true c.edit-item.is
          c.loop-edit.invariant.working)
          c.room_for.ensures.none (rw c.in-Ok-Some.field-0-is at c.in-Ok-Some.ensures.moves)
          c.edited.ensures.edits c.in-Ok.root c.edited.ensures.still c.in-Ok.ensures.node
          c.in-Ok.ensures.tree;
      lent = c.edited.ensures.lent ∙ c.room_for.ensures.lent ∙ c.loop-edit.invariant.lent;
    }

pub returns-in-Err-edited-clause-works : goal.returns-in-Err-edited-clause-works
returns-in-Err-edited-clause-works g c =
    let edits = c.args.edits.now in
    let k = c.loop-edit.edit-index in
    let e = c.edit-item.result in
    works_refused e (drop (k + 1) edits) c.loop-edit.working c.in-Ok-Some.roomy
    (next_working edits k e c.loop-edit-test.true c.edit-item.is c.loop-edit.invariant.working)
    c.room_for.ensures.none (rw c.in-Ok-Some.field-0-is at c.in-Ok-Some.ensures.moves)
    c.edited.ensures.edits c.in-Err-edited.fault c.in-Err-edited.ensures.tree

pub returns-in-Err-edited-clause-lent : goal.returns-in-Err-edited-clause-lent
returns-in-Err-edited-clause-lent g c =
    c.edited.ensures.lent ∙ c.room_for.ensures.lent ∙ c.loop-edit.invariant.lent

pub returns-in-Ok-None-clause-works : goal.returns-in-Ok-None-clause-works
returns-in-Ok-None-clause-works g c =
    works_outrun c.loop-edit.invariant.working c.room_for.ensures.none c.room_for.ensures.kept
    (c.in-Ok-None.ensures.newer cc)

pub returns-in-Ok-None-clause-lent : goal.returns-in-Ok-None-clause-lent
returns-in-Ok-None-clause-lent g c = c.room_for.ensures.lent ∙ c.loop-edit.invariant.lent

pub returns-in-Err-clause-works : goal.returns-in-Err-clause-works
returns-in-Err-clause-works g c =
    works_full c.loop-edit.invariant.working c.room_for.ensures.none c.room_for.ensures.kept
    c.in-Err.ensures.full

pub returns-in-Err-clause-lent : goal.returns-in-Err-clause-lent
returns-in-Err-clause-lent g c = c.room_for.ensures.lent ∙ c.loop-edit.invariant.lent

pub returns-clause-works : goal.returns-clause-works
returns-clause-works g c =
    let past = c.loop-edit-test.false in
    last_working c.args.edits.now c.loop-edit.edit-index (omega (arith, past))
    c.loop-edit.invariant.working

pub returns-clause-lent : goal.returns-clause-lent
returns-clause-lent g c = c.loop-edit.invariant.lent
