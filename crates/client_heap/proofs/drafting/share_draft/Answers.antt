use Rattle.std.proofs.Common.{arith, ap, length}
use Rattle.client_trees.proofs.Resting.{rests_stands}
use Rattle.client_trees.specs.declared.at.NodeAt.TheVariants as at
use Rattle.client_heap.proofs.Drafts.{draft_node, few_cleared, few_sound}
use Rattle.client_heap.proofs.Resting.{draft_on, sound_on}
use Rattle.client_heap.proofs.drafting.share_draft.Goals as goal

pub share_node-requires-clause-some : goal.share_node-requires-clause-some
share_node-requires-clause-some g c =
    let some = c.requires.sound.some in
    let kept = c.requires.sound.kept in omega (arith, some, kept)

pub share_node-requires-clause-node : goal.share_node-requires-clause-node
share_node-requires-clause-node g c =
    draft_node c.args.m.now c.args.minor.now (at.Minor c.args.r) c.args.base c.requires.sound

pub share_node-requires-clause-room : goal.share_node-requires-clause-room
share_node-requires-clause-room g c =
    let ready = c.requires.ready in omega (arith, ready)

pub returns-in-Ok-clause-shared : goal.returns-in-Ok-clause-shared
returns-in-Ok-clause-shared g c =
    few_sound c.args.m.now c.share_node.new.m c.args.minor.now c.share_node.new.minor
    (at.Minor c.args.r) c.args.base c.requires.sound c.share_node.ensures.follows
    c.in-Ok.ensures.emptied (at.Shared 1) 2 (omega arith) (omega arith) c.in-Ok.ensures.held
    c.in-Ok.ensures.node

pub returns-in-Ok-clause-cleared : goal.returns-in-Ok-clause-cleared
returns-in-Ok-clause-cleared g c =
    few_cleared c.args.m.now c.share_node.new.m c.args.minor.now c.share_node.new.minor
    (at.Minor c.args.r) c.args.base c.requires.sound c.share_node.ensures.follows
    c.in-Ok.ensures.emptied 2 c.in-Ok.ensures.held (omega arith)

pub returns-in-Ok-clause-kept : goal.returns-in-Ok-clause-kept
returns-in-Ok-clause-kept g c =
    let none = ap (λ (xs : _). length xs) c.in-Ok.ensures.emptied in
    let held = c.in-Ok.ensures.held in
    let some = c.requires.sound.some in
    let kept = c.requires.sound.kept in
    let there = rests_stands _ _ _ c.requires.sound.stands in
    omega (arith, none, held, some, kept, there)

pub returns-in-Err-clause-sound : goal.returns-in-Err-clause-sound
returns-in-Err-clause-sound g c =
    let same = ap (λ (xs : _). length xs) c.in-Err.ensures.unchanged in
    let ready = c.requires.sound.ready in
    sound_on _ c.args.m.now c.share_node.new.m c.args.minor.now c.share_node.new.minor
    c.in-Err.ensures.refused (at.Minor c.args.r) c.args.base c.requires.sound
    c.requires.sound.kept (omega (arith, same, ready))

pub returns-in-Err-clause-same : goal.returns-in-Err-clause-same
returns-in-Err-clause-same g c =
    draft_on _ c.args.m.now c.share_node.new.m c.args.minor.now c.share_node.new.minor
    c.in-Err.ensures.refused (at.Minor c.args.r) c.args.base c.requires.sound
    c.requires.sound.kept

pub returns-in-Err-clause-kept : goal.returns-in-Err-clause-kept
returns-in-Err-clause-kept g c =
    let same = ap (λ (xs : _). length xs) c.in-Err.ensures.unchanged in
    let held = c.in-Err.ensures.same in omega (arith, same, held)
