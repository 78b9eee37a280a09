use Rattle.std.proofs.Common.{◌∙◌, arith}
use Rattle.client_trees.proofs.Resting.{rests_stands}
use Rattle.client_heap.proofs.Copies.{copy_node, copy_tree, node_shares, promoted_carries}
use Rattle.client_heap.proofs.Copies.{promoted_held, promoted_is, refused_carries, refused_full}
use Rattle.client_heap.proofs.Copies.{refused_held}
use Rattle.std.proofs.Common.{refl}
use Rattle.client_heap.proofs.publishing.promote.Goals as goal

pub promote-requires-clause-stands : goal.promote-requires-clause-stands
promote-requires-clause-stands g c = rests_stands _ _ _ c.requires.node.stands

pub promote-requires-clause-shares : goal.promote-requires-clause-shares
promote-requires-clause-shares g c = node_shares _ _ _ _ c.requires.node.stands

pub returns-in-Ok-clause-node : goal.returns-in-Ok-clause-node
returns-in-Ok-clause-node g c =
    let m = c.args.m.now in
    let n = c.promote.new.m in
    let minor = c.args.minor.now in
    let fit = c.held_len-held.ensures.known ∙ c.held_len-held.ensures.len in
    let more = promoted_held m n minor c.args.r c.in-Ok.ensures.promoted fit in
    copy_node m n minor minor c.args.r c.requires.node c.in-Ok.place
    (let is = c.in-Ok.ensures.place in omega (arith, more, is))
    (promoted_is m n minor c.args.r c.in-Ok.ensures.promoted fit c.in-Ok.place
    c.in-Ok.ensures.place)

pub returns-in-Ok-clause-tree : goal.returns-in-Ok-clause-tree
returns-in-Ok-clause-tree g c =
    let m = c.args.m.now in
    let n = c.promote.new.m in
    let minor = c.args.minor.now in
    let fit = c.held_len-held.ensures.known ∙ c.held_len-held.ensures.len in
    let more = promoted_held m n minor c.args.r c.in-Ok.ensures.promoted fit in
    copy_tree m n minor minor c.args.r c.requires.node c.in-Ok.place
    (let is = c.in-Ok.ensures.place in omega (arith, more, is))
    (promoted_is m n minor c.args.r c.in-Ok.ensures.promoted fit c.in-Ok.place
    c.in-Ok.ensures.place)

pub returns-in-Ok-clause-carries : goal.returns-in-Ok-clause-carries
returns-in-Ok-clause-carries g c =
    let fit = c.held_len-held.ensures.known ∙ c.held_len-held.ensures.len in
    promoted_carries c.args.m.now c.promote.new.m c.args.minor.now c.args.r
    c.in-Ok.ensures.promoted fit c.len-records.ensures.ordered

pub returns-in-Ok-clause-held : goal.returns-in-Ok-clause-held
returns-in-Ok-clause-held g c =
    let fit = c.held_len-held.ensures.known ∙ c.held_len-held.ensures.len in
    let more = promoted_held c.args.m.now c.promote.new.m c.args.minor.now c.args.r
    c.in-Ok.ensures.promoted fit in
    omega (arith, more)

pub returns-in-Ok-clause-pass : goal.returns-in-Ok-clause-pass
returns-in-Ok-clause-pass g c = c.in-Ok.ensures.promoted.stays.pass

pub returns-in-Err-clause-full : goal.returns-in-Err-clause-full
returns-in-Err-clause-full g c =
    refused_full c.args.m.now c.promote.new.m _ c.in-Err.ensures.full

pub returns-in-Err-clause-carries : goal.returns-in-Err-clause-carries
returns-in-Err-clause-carries g c =
    refused_carries c.args.m.now c.promote.new.m _ c.in-Err.ensures.full c.args.minor.now
    c.args.minor.now c.len-records.ensures.ordered refl refl

pub returns-in-Err-clause-held : goal.returns-in-Err-clause-held
returns-in-Err-clause-held g c =
    let same = refused_held c.args.m.now c.promote.new.m _ c.in-Err.ensures.full in
    omega (arith, same)

pub returns-in-Err-clause-pass : goal.returns-in-Err-clause-pass
returns-in-Err-clause-pass g c = c.in-Err.ensures.full.stays.pass
