use Rattle.std.proofs.Common.{◌-◌, ◌∙◌, ap, arith, length}
use Rattle.client_heap.specs.Shared.{shared_place}
use Rattle.client_heap.specs.Shows.{node_term}
use Rattle.client_heap.proofs.Carrying.{follows_then}
use Rattle.client_heap.proofs.Drafts.{draft_node}
use Rattle.client_heap.proofs.Pairs.{held_node, held_term, pair_sound, term_on}
use Rattle.client_heap.proofs.Resting.{draft_on, sound_on}
use Rattle.client_heap.proofs.making.share_pair.Goals as goal

pub share_both-requires-clause-some : goal.share_both-requires-clause-some
share_both-requires-clause-some g c =
    let some = c.requires.sound.some in
    let kept = c.requires.sound.kept in omega (arith, some, kept)

pub share_both-requires-clause-first : goal.share_both-requires-clause-first
share_both-requires-clause-first g c =
    draft_node c.args.m.now c.args.minor.now c.args.draft c.args.base c.requires.sound

pub share_both-requires-clause-room : goal.share_both-requires-clause-room
share_both-requires-clause-room g c = let ready = c.requires.ready in omega (arith, ready)

pub keep_pair-requires-clause-first : goal.keep_pair-requires-clause-first
keep_pair-requires-clause-first g c =
    let is = c.place_of-x.ensures in
    let there = c.in-Ok.ensures.first.there in omega (arith, is, there)

pub keep_pair-requires-clause-second : goal.keep_pair-requires-clause-second
keep_pair-requires-clause-second g c =
    let is = c.place_of-y.ensures
    ∙ ap (λ k. shared_place (k - 1) c.args.tree) c.held_len-held.ensures.len in
    let there = c.in-Ok.ensures.second.there in omega (arith, is, there)

pub keep_pair-requires-clause-room : goal.keep_pair-requires-clause-room
keep_pair-requires-clause-room g c =
    let held = c.in-Ok.ensures.held in
    let same = c.share_both.ensures.follows.room in
    let ready = c.requires.ready in omega (arith, held, same, ready)

pub returns-in-Ok-clause-shared : goal.returns-in-Ok-clause-shared
returns-in-Ok-clause-shared g c =
    let m = c.args.m.now in
    let p = c.share_both.new.m in
    let n = c.keep_pair.new.m in
    let old = c.args.minor.now in
    let new = c.share_both.new.minor in
    let held = c.keep_pair.ensures.held in
    let term = node_term m old c.args.draft in
    pair_sound m n old new c.args.draft c.args.base c.requires.sound
    (follows_then c.share_both.ensures.follows c.keep_pair.ensures.carries.follows)
    (ap (λ (xs : _). length xs) c.in-Ok.ensures.emptied) held
    (held_node n new 1 term
    (term_on p n (shared_place c.in-Ok.first c.args.draft) c.place_of-x.result 1 term
    c.in-Ok.ensures.first c.place_of-x.ensures c.keep_pair.ensures.first)
    c.requires.sound.node (omega (arith, held)))

pub returns-in-Ok-clause-term : goal.returns-in-Ok-clause-term
returns-in-Ok-clause-term g c =
    let m = c.args.m.now in
    let p = c.share_both.new.m in
    let n = c.keep_pair.new.m in
    let term = node_term m c.args.minor.now c.args.draft in
    held_term n c.share_both.new.minor 1 term
    (term_on p n (shared_place c.in-Ok.first c.args.draft) c.place_of-x.result 1 term
    c.in-Ok.ensures.first c.place_of-x.ensures c.keep_pair.ensures.first)

pub returns-in-Ok-clause-node : goal.returns-in-Ok-clause-node
returns-in-Ok-clause-node g c =
    let m = c.args.m.now in
    let p = c.share_both.new.m in
    let n = c.keep_pair.new.m in
    let held = c.keep_pair.ensures.held in
    let term = node_term m c.args.minor.now c.args.tree in
    held_node n c.share_both.new.minor 2 term
    (term_on p n (shared_place (length p.seat.me.own.held - 1) c.args.tree) c.place_of-y.result 2
    term c.in-Ok.ensures.second
    (c.place_of-y.ensures
    ∙ ap (λ k. shared_place (k - 1) c.args.tree) c.held_len-held.ensures.len)
    c.keep_pair.ensures.second)
    c.requires.node.node (omega (arith, held))

pub returns-in-Ok-clause-tree : goal.returns-in-Ok-clause-tree
returns-in-Ok-clause-tree g c =
    let m = c.args.m.now in
    let p = c.share_both.new.m in
    let n = c.keep_pair.new.m in
    let term = node_term m c.args.minor.now c.args.tree in
    held_term n c.share_both.new.minor 2 term
    (term_on p n (shared_place (length p.seat.me.own.held - 1) c.args.tree) c.place_of-y.result 2
    term c.in-Ok.ensures.second
    (c.place_of-y.ensures
    ∙ ap (λ k. shared_place (k - 1) c.args.tree) c.held_len-held.ensures.len)
    c.keep_pair.ensures.second)

pub returns-in-Ok-clause-follows : goal.returns-in-Ok-clause-follows
returns-in-Ok-clause-follows g c =
    follows_then c.share_both.ensures.follows c.keep_pair.ensures.carries.follows

pub returns-in-Err-clause-sound : goal.returns-in-Err-clause-sound
returns-in-Err-clause-sound g c =
    let same = ap (λ (xs : _). length xs) c.in-Err.ensures.unchanged in
    let ready = c.requires.sound.ready in
    sound_on _ c.args.m.now c.share_both.new.m c.args.minor.now c.share_both.new.minor
    c.in-Err.ensures.refused c.args.draft c.args.base c.requires.sound
    c.requires.sound.kept (omega (arith, same, ready))

pub returns-in-Err-clause-same : goal.returns-in-Err-clause-same
returns-in-Err-clause-same g c =
    draft_on _ c.args.m.now c.share_both.new.m c.args.minor.now c.share_both.new.minor
    c.in-Err.ensures.refused c.args.draft c.args.base c.requires.sound
    c.requires.sound.kept

pub returns-in-Err-clause-kept : goal.returns-in-Err-clause-kept
returns-in-Err-clause-kept g c =
    let same = ap (λ (xs : _). length xs) c.in-Err.ensures.unchanged in
    let held = c.in-Err.ensures.same in omega (arith, same, held)
