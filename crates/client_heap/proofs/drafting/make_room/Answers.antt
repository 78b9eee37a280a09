use Rattle.client_heap.proofs.Aged.{aged_sound}
use Rattle.client_heap.proofs.drafting.make_room.Goals as goal

pub returns-then-age_draft-clause-sound : goal.returns-then-age_draft-clause-sound
returns-then-age_draft-clause-sound g c =
    let did = c.age_draft.ensures in
    aged_sound c.args.m.now c.args.nursery.now.heap c.age_draft.new.nursery.heap did.room did.fewer
    c.args.draft.now c.age_draft.new.draft did.draft c.args.base.now c.requires.sound

pub collect_draft-requires-clause-sound : goal.collect_draft-requires-clause-sound
collect_draft-requires-clause-sound g c =
    let did = c.age_draft.ensures in
    aged_sound c.args.m.now c.args.nursery.now.heap c.age_draft.new.nursery.heap did.room did.fewer
    c.args.draft.now c.age_draft.new.draft did.draft c.args.base.now c.requires.sound
