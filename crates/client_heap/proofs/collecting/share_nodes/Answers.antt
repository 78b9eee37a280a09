use Rattle.std.proofs.Common.{◌∙◌}
use Rattle.client_heap.proofs.Copies.{refused_carries, refused_follows, refused_full, refused_held}
use Rattle.client_heap.proofs.Copies.{stays_follows}
use Rattle.client_heap.proofs.Pairs.{nodes_copied, nodes_held, nodes_known, nodes_share}
use Rattle.client_heap.proofs.Pairs.{nodes_stand}
use Rattle.client_heap.proofs.collecting.share_nodes.Goals as goal

pub collect-requires-clause-stand : goal.collect-requires-clause-stand
collect-requires-clause-stand g c =
    nodes_stand c.args.m.now c.args.minor.now c.args.roots.now c.requires.nodes

pub collect-requires-clause-shares : goal.collect-requires-clause-shares
collect-requires-clause-shares g c =
    nodes_share c.args.m.now c.args.minor.now c.args.roots.now c.requires.nodes

pub returns-in-Ok-clause-copied : goal.returns-in-Ok-clause-copied
returns-in-Ok-clause-copied g c = λ k r lt is.
    let fit = c.held_len-held.ensures.known ∙ c.held_len-held.ensures.len in
    nodes_copied c.args.m.now c.collect.new.m c.args.minor.now c.args.roots.now
    c.held_len-held.result c.in-Ok.ensures.collected fit c.held_len-held.ensures.len _ k r
    c.in-Ok.ensures.base lt is

pub returns-in-Ok-clause-known : goal.returns-in-Ok-clause-known
returns-in-Ok-clause-known g c =
    let fit = c.held_len-held.ensures.known ∙ c.held_len-held.ensures.len in
    nodes_known c.args.m.now c.collect.new.m c.args.minor.now c.args.roots.now
    c.held_len-held.result c.in-Ok.ensures.collected fit c.held_len-held.ensures.len

pub returns-in-Ok-clause-held : goal.returns-in-Ok-clause-held
returns-in-Ok-clause-held g c =
    let fit = c.held_len-held.ensures.known ∙ c.held_len-held.ensures.len in
    nodes_held c.args.m.now c.collect.new.m c.args.minor.now c.args.roots.now
    c.held_len-held.result c.in-Ok.ensures.collected fit c.held_len-held.ensures.len

pub returns-in-Ok-clause-follows : goal.returns-in-Ok-clause-follows
returns-in-Ok-clause-follows g c =
    let did = c.in-Ok.ensures.collected in
    stays_follows _ c.args.m.now c.collect.new.m did.adds did.stays c.args.minor.now
    c.collect.new.minor c.collect.ensures.minor_room

pub returns-in-Ok-clause-pass : goal.returns-in-Ok-clause-pass
returns-in-Ok-clause-pass g c = c.in-Ok.ensures.collected.stays.pass

pub returns-in-Err-clause-full : goal.returns-in-Err-clause-full
returns-in-Err-clause-full g c =
    refused_full c.args.m.now c.collect.new.m _ c.in-Err.ensures.full

pub returns-in-Err-clause-refused : goal.returns-in-Err-clause-refused
returns-in-Err-clause-refused g c =
    refused_carries c.args.m.now c.collect.new.m _ c.in-Err.ensures.full c.args.minor.now
    c.collect.new.minor c.len-records.ensures.ordered c.collect.ensures.minor_room
    c.in-Err.ensures.unchanged

pub returns-in-Err-clause-same : goal.returns-in-Err-clause-same
returns-in-Err-clause-same g c =
    refused_held c.args.m.now c.collect.new.m _ c.in-Err.ensures.full

pub returns-in-Err-clause-follows : goal.returns-in-Err-clause-follows
returns-in-Err-clause-follows g c =
    refused_follows c.args.m.now c.collect.new.m _ c.in-Err.ensures.full c.args.minor.now
    c.collect.new.minor c.collect.ensures.minor_room

pub returns-in-Err-clause-pass : goal.returns-in-Err-clause-pass
returns-in-Err-clause-pass g c = c.in-Err.ensures.full.stays.pass
