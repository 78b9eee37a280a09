use Rattle.std.proofs.Common.{arith, ap, length}
use Rattle.client_trees.specs.declared.at.NodeAt.TheVariants as at
use Rattle.client_heap.proofs.Drafts.{cleared_node, cleared_term, few_cleared, few_sound}
use Rattle.client_heap.proofs.Resting.{draft_on, sound_on}
use Rattle.client_heap.proofs.drafting.clear_around.Goals as goal

pub clear_records-requires-clause-room : goal.clear_records-requires-clause-room
clear_records-requires-clause-room g c =
    let ready = c.requires.ready in omega (arith, ready)

pub returns-in-Ok-clause-sound : goal.returns-in-Ok-clause-sound
returns-in-Ok-clause-sound g c =
    let m = c.args.m.now in
    let n = c.clear_records.new.m in
    let old = c.args.minor.now in
    let new = c.clear_records.new.minor in
    let sound = c.requires.sound in
    few_sound m n old new (at.Shared c.args.place) c.args.base sound c.clear_records.ensures.follows
    c.in-Ok.ensures.emptied (at.Shared c.args.place) c.args.base sound.some c.requires.few
    c.in-Ok.ensures.held
    (cleared_node m n old new c.args.place c.args.base sound c.in-Ok.ensures.held
    c.in-Ok.ensures.known)

pub returns-in-Ok-clause-term : goal.returns-in-Ok-clause-term
returns-in-Ok-clause-term g c =
    cleared_term c.args.m.now c.clear_records.new.m c.args.minor.now c.clear_records.new.minor
    c.args.place c.args.base c.requires.sound c.in-Ok.ensures.held c.in-Ok.ensures.known

pub returns-in-Ok-clause-cleared : goal.returns-in-Ok-clause-cleared
returns-in-Ok-clause-cleared g c =
    few_cleared c.args.m.now c.clear_records.new.m c.args.minor.now c.clear_records.new.minor
    (at.Shared c.args.place) c.args.base c.requires.sound c.clear_records.ensures.follows
    c.in-Ok.ensures.emptied c.args.base c.in-Ok.ensures.held c.requires.few

pub returns-in-Ok-clause-kept : goal.returns-in-Ok-clause-kept
returns-in-Ok-clause-kept g c =
    let none = ap (λ (xs : _). length xs) c.in-Ok.ensures.emptied in
    let held = c.in-Ok.ensures.held in
    let kept = c.requires.sound.kept in omega (arith, none, held, kept)

pub returns-in-Err-clause-sound : goal.returns-in-Err-clause-sound
returns-in-Err-clause-sound g c =
    let same = ap (λ (xs : _). length xs) c.in-Err.ensures.unchanged in
    let ready = c.requires.sound.ready in
    sound_on _ c.args.m.now c.clear_records.new.m c.args.minor.now c.clear_records.new.minor
    c.in-Err.ensures.refused (at.Shared c.args.place) c.args.base c.requires.sound
    c.requires.sound.kept (omega (arith, same, ready))

pub returns-in-Err-clause-term : goal.returns-in-Err-clause-term
returns-in-Err-clause-term g c =
    draft_on _ c.args.m.now c.clear_records.new.m c.args.minor.now c.clear_records.new.minor
    c.in-Err.ensures.refused (at.Shared c.args.place) c.args.base c.requires.sound
    c.requires.sound.kept

pub returns-in-Err-clause-kept : goal.returns-in-Err-clause-kept
returns-in-Err-clause-kept g c =
    let same = ap (λ (xs : _). length xs) c.in-Err.ensures.unchanged in
    let held = c.in-Err.ensures.same in omega (arith, same, held)
