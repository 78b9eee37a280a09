use Rattle.client_heap.proofs.Aged.{aged_node, aged_sound}
use Rattle.client_heap.proofs.making.make_room_for.Goals as goal

pub returns-then-enough-clause-sound : goal.returns-then-enough-clause-sound
returns-then-enough-clause-sound g c =
    let did = c.age_both-next.ensures in
    aged_sound c.args.m.now c.args.nursery.now.heap c.age_both-next.new.nursery.heap did.room
    did.fewer c.args.draft.now c.age_both-next.new.draft did.draft c.args.base.now c.requires.sound

pub returns-then-enough-clause-node : goal.returns-then-enough-clause-node
returns-then-enough-clause-node g c =
    let did = c.age_both-next.ensures in
    aged_node c.args.m.now c.args.nursery.now.heap c.age_both-next.new.nursery.heap did.room
    did.fewer c.args.tree c.age_both-next.result.0 did.tree c.requires.node

pub collect_pair-requires-clause-sound : goal.collect_pair-requires-clause-sound
collect_pair-requires-clause-sound g c =
    let did = c.age_both-next.ensures in
    aged_sound c.args.m.now c.args.nursery.now.heap c.age_both-next.new.nursery.heap did.room
    did.fewer c.args.draft.now c.age_both-next.new.draft did.draft c.args.base.now c.requires.sound

pub collect_pair-requires-clause-node : goal.collect_pair-requires-clause-node
collect_pair-requires-clause-node g c =
    let did = c.age_both-next.ensures in
    aged_node c.args.m.now c.args.nursery.now.heap c.age_both-next.new.nursery.heap did.room
    did.fewer c.args.tree c.age_both-next.result.0 did.tree c.requires.node
