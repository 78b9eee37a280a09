use Rattle.std.proofs.Common.{◌∙◌, arith, rules}
use Rattle.client_trees.proofs.Resting.{rests_stands}
use Rattle.client_heap.proofs.Copies.{copy_node, copy_term, node_shares, refused_carries}
use Rattle.client_heap.proofs.Copies.{refused_follows, refused_full, refused_held, shared_held}
use Rattle.client_heap.proofs.Copies.{shared_is, stays_follows}
use Rattle.client_heap.proofs.collecting.share_node.Goals as goal

pub collect-requires-clause-stand : goal.collect-requires-clause-stand
collect-requires-clause-stand g c =
    let stands = rests_stands _ _ _ c.requires.node.stands in search (rules, stands)

pub collect-requires-clause-shares : goal.collect-requires-clause-shares
collect-requires-clause-shares g c = node_shares _ _ _ _ c.requires.node.stands

pub returns-in-Ok-clause-node : goal.returns-in-Ok-clause-node
returns-in-Ok-clause-node g c =
    let m = c.args.m.now in
    let n = c.collect.new.m in
    let old = c.args.minor.now in
    let fit = c.held_len-held.ensures.known ∙ c.held_len-held.ensures.len in
    let two = shared_held m n old c.args.r c.in-Ok.ensures.collected fit c.requires.some in
    copy_node m n old c.collect.new.minor c.args.r c.requires.node 1 (omega (arith, two))
    (shared_is m n old c.args.r c.in-Ok.ensures.collected fit c.requires.some)

pub returns-in-Ok-clause-term : goal.returns-in-Ok-clause-term
returns-in-Ok-clause-term g c =
    let m = c.args.m.now in
    let n = c.collect.new.m in
    let old = c.args.minor.now in
    let fit = c.held_len-held.ensures.known ∙ c.held_len-held.ensures.len in
    let two = shared_held m n old c.args.r c.in-Ok.ensures.collected fit c.requires.some in
    copy_term m n old c.collect.new.minor c.args.r c.requires.node 1 (omega (arith, two))
    (shared_is m n old c.args.r c.in-Ok.ensures.collected fit c.requires.some)

pub returns-in-Ok-clause-held : goal.returns-in-Ok-clause-held
returns-in-Ok-clause-held g c =
    let fit = c.held_len-held.ensures.known ∙ c.held_len-held.ensures.len in
    shared_held c.args.m.now c.collect.new.m c.args.minor.now c.args.r
    c.in-Ok.ensures.collected fit c.requires.some

pub returns-in-Ok-clause-follows : goal.returns-in-Ok-clause-follows
returns-in-Ok-clause-follows g c =
    let did = c.in-Ok.ensures.collected in
    stays_follows _ c.args.m.now c.collect.new.m did.adds did.stays c.args.minor.now
    c.collect.new.minor c.collect.ensures.minor_room

pub returns-in-Ok-clause-pass : goal.returns-in-Ok-clause-pass
returns-in-Ok-clause-pass g c = c.in-Ok.ensures.collected.stays.pass

pub returns-in-Err-clause-full : goal.returns-in-Err-clause-full
returns-in-Err-clause-full g c =
    refused_full c.args.m.now c.collect.new.m _ c.in-Err.ensures.full

pub returns-in-Err-clause-refused : goal.returns-in-Err-clause-refused
returns-in-Err-clause-refused g c =
    refused_carries c.args.m.now c.collect.new.m _ c.in-Err.ensures.full c.args.minor.now
    c.collect.new.minor c.len-records.ensures.ordered c.collect.ensures.minor_room
    c.in-Err.ensures.unchanged

pub returns-in-Err-clause-same : goal.returns-in-Err-clause-same
returns-in-Err-clause-same g c =
    refused_held c.args.m.now c.collect.new.m _ c.in-Err.ensures.full

pub returns-in-Err-clause-follows : goal.returns-in-Err-clause-follows
returns-in-Err-clause-follows g c =
    refused_follows c.args.m.now c.collect.new.m _ c.in-Err.ensures.full c.args.minor.now
    c.collect.new.minor c.collect.ensures.minor_room

pub returns-in-Err-clause-pass : goal.returns-in-Err-clause-pass
returns-in-Err-clause-pass g c = c.in-Err.ensures.full.stays.pass
