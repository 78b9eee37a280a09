use Rattle.std.proofs.Common.{arith}
use Rattle.client_trees.specs.declared.at.NodeAt.TheVariants as at
use Rattle.client_heap.proofs.Drafts.{alone_sound, alone_term}
use Rattle.client_heap.proofs.drafting.draw_in.Goals as goal

pub keep_alone-requires-clause-there : goal.keep_alone-requires-clause-there
keep_alone-requires-clause-there c =
    let there = c.requires.sound.stands.0 in
    let kept = c.requires.sound.kept in omega (arith, there, kept)

pub keep_alone-requires-clause-room : goal.keep_alone-requires-clause-room
keep_alone-requires-clause-room c =
    let ready = c.requires.sound.ready in omega (arith, ready)

pub returns-clause-sound : goal.returns-clause-sound
returns-clause-sound c =
    let sound = c.requires.sound in
    let ready = sound.ready in
    let many = c.requires.many in
    alone_sound c.args.m.now c.keep_alone.new.m c.args.minor.now (at.Shared c.args.place)
    c.args.base c.args.place sound sound.stands.1 sound.node c.keep_alone.ensures.carries.follows
    c.keep_alone.ensures.held c.keep_alone.ensures.known (omega (arith, ready, many))

pub returns-clause-term : goal.returns-clause-term
returns-clause-term c =
    let sound = c.requires.sound in
    alone_term c.args.m.now c.keep_alone.new.m c.args.minor.now (at.Shared c.args.place)
    c.args.base c.args.place sound sound.stands.1 sound.node c.keep_alone.ensures.carries.follows
    c.keep_alone.ensures.held c.keep_alone.ensures.known

pub returns-clause-held : goal.returns-clause-held
returns-clause-held c =
    let is = c.keep_alone.ensures.held in
    let many = c.requires.many in
    let kept = c.requires.sound.kept in omega (arith, is, many, kept)
