use Rattle.std.proofs.Common.{sym, ◌∙◌}
use Rattle.version_store.proofs.Leaving.{read_writes, reads_alone}
use Rattle.version_store.proofs.Links.{ends, follows, link_is_no_number}
use Rattle.version_store.proofs.walking.follow.Goals as goal

pub read-requires-clause-rule : goal.read-requires-clause-rule
read-requires-clause-rule g c =
    let is = c.requires.version in
    c.requires.picks.picks c.args.m.now.seat.me c.args.v.place c.args.v.number is.root is.knows
    c.requires.later

pub returns-in-Held-clause-follows : goal.returns-in-Held-clause-follows
returns-in-Held-clause-follows g c =
    let s = g.S.Spelling in
    let told = c.read.ensures.told in
    follows s.is_tree s.tree_of s.is_record g.C.Choice.next c.args.m.now c.read.new.self
    c.read.ensures.heap c.read.ensures.table c.args.v c.requires.version told.0 told.2
    c.in-Held.place c.requires.picks (sym c.in-Held.is ∙ told.1)

pub returns-in-Null-clause-ends : goal.returns-in-Null-clause-ends
returns-in-Null-clause-ends g c =
    let s = g.S.Spelling in
    let told = c.read.ensures.told in
    ends s.is_tree s.tree_of s.is_record g.C.Choice.next c.args.m.now c.read.new.self
    c.read.ensures.heap c.read.ensures.table c.args.v c.requires.version told.0 told.2
    (sym c.in-Null.is ∙ told.1)

pub unreachable-requires : goal.unreachable-requires
unreachable-requires g c =
    let s = g.S.Spelling in
    let told = c.read.ensures.told in
    link_is_no_number s.is_tree s.tree_of s.is_record g.C.Choice.next c.args.m.now c.read.new.self
    c.read.ensures.heap c.read.ensures.table c.args.v c.requires.version told.0 told.2 _
    (sym c.in-Num.is ∙ told.1)

pub returns-in-Held-clause-writes : goal.returns-in-Held-clause-writes
returns-in-Held-clause-writes g c =
    read_writes _ _ c.args.m.now c.read.new.self c.args.v.place 2 _ c.read.ensures.told.2

pub returns-in-Null-clause-writes : goal.returns-in-Null-clause-writes
returns-in-Null-clause-writes g c =
    read_writes _ _ c.args.m.now c.read.new.self c.args.v.place 2 _ c.read.ensures.told.2

pub returns-in-Held-clause-alone : goal.returns-in-Held-clause-alone
returns-in-Held-clause-alone g c =
    reads_alone _ _ c.args.m.now c.read.new.self c.args.v.place 2 _ c.read.ensures.told.2

pub returns-in-Null-clause-alone : goal.returns-in-Null-clause-alone
returns-in-Null-clause-alone g c =
    reads_alone _ _ c.args.m.now c.read.new.self c.args.v.place 2 _ c.read.ensures.told.2
