use Rattle.std.proofs.Common.{◌<◌, [], inl, inr, length, refl, ◌∙◌, sym, subst}
use Rattle.run_limits.specs.declared.TheConstants.{MOST_COMMANDS}
use Rattle.version_rule.specs.Pass.{Pass}
use Rattle.version_store.proofs.Putting.{behind_first, behind_last, behind_write, committed_is}
use Rattle.version_store.proofs.Putting.{in_write, may_make, may_pick, may_publish, newer_first}
use Rattle.version_store.proofs.Putting.{newer_last, room_write}
use Rattle.held_places.proofs.Going.{goes_then}
use Rattle.version_store.proofs.Leaving.{lost_around, loses_once, nothing_then, once_around}
use Rattle.version_store.proofs.Leaving.{writes_none, writes_once}
use Rattle.version_store.proofs.committing.put_version.Goals as goal

pub returns-then-newest-v-clause-newer : goal.returns-then-newest-v-clause-newer
returns-then-newest-v-clause-newer g c =
    newer_first c.args.m.now c.latest-newest.new.m c.args.v c.latest-newest.result c.args.fresh
    c.args.tree c.requires.claimed c.requires.version c.latest-newest.ensures.latest
    c.latest-newest.ensures.coherent c.if-newest-v.true

pub returns-then-newest-v-clause-behind : goal.returns-then-newest-v-clause-behind
returns-then-newest-v-clause-behind g c =
    behind_first c.args.m.now c.latest-newest.new.m c.args.v c.latest-newest.result c.args.fresh
    c.args.tree c.requires.claimed c.requires.version c.latest-newest.ensures.latest
    c.latest-newest.ensures.coherent

pub make_version-requires-clause-may : goal.make_version-requires-clause-may
make_version-requires-clause-may g c =
    may_make c.args.m.now c.latest-newest.new.m c.args.v c.latest-newest.result c.args.fresh
    c.args.tree c.requires.claimed c.requires.version c.latest-newest.ensures.latest
    c.latest-newest.ensures.coherent c.requires.inside c.requires.root.known
    c.latest-newest.ensures.many

pub publish-requires-clause-may : goal.publish-requires-clause-may
publish-requires-clause-may g c =
    let s = g.S.Spelling in
    may_publish s.is_tree s.tree_of s.is_record c.args.m.now c.latest-newest.new.m
    c.make_version.new.m c.args.v c.latest-newest.result c.args.fresh c.args.tree
    c.requires.inside c.requires.claimed c.requires.version c.latest-newest.ensures.latest
    c.latest-newest.ensures.coherent c.requires.root.known c.make_version.ensures.makes

pub publish-requires-clause-rule : goal.publish-requires-clause-rule
publish-requires-clause-rule g c =
    let s = g.S.Spelling in
    may_pick s.is_tree s.tree_of s.is_record c.args.m.now c.latest-newest.new.m
    c.make_version.new.m c.args.v c.latest-newest.result c.args.fresh c.args.tree
    c.requires.inside c.requires.claimed c.requires.version c.latest-newest.ensures.latest
    c.latest-newest.ensures.coherent c.requires.root.known c.make_version.ensures.makes
    c.requires.spells
    (subst (λ (p : Pass). length p.commits < MOST_COMMANDS)
    (sym (c.make_version.ensures.makes.pass ∙ c.latest-newest.ensures.latest.pass))
    c.requires.few)

pub latest-requires-clause-inside : goal.latest-requires-clause-inside
latest-requires-clause-inside g c =
    let s = g.S.Spelling in
    in_write s.is_tree s.tree_of s.is_record c.args.m.now c.latest-newest.new.m
    c.make_version.new.m c.args.v c.latest-newest.result c.args.fresh c.args.tree
    c.requires.inside c.requires.claimed c.requires.version c.latest-newest.ensures.latest
    c.latest-newest.ensures.coherent c.requires.root.known c.make_version.ensures.makes
    c.publish.new.m c.if-newest-v.false _ c.in-Err.ensures.moved.1

pub latest-requires-clause-room : goal.latest-requires-clause-room
latest-requires-clause-room g c =
    let s = g.S.Spelling in
    room_write s.is_tree s.tree_of s.is_record c.args.m.now c.latest-newest.new.m
    c.make_version.new.m c.args.v c.latest-newest.result c.args.fresh c.args.tree
    c.requires.inside c.requires.claimed c.requires.version c.latest-newest.ensures.latest
    c.latest-newest.ensures.coherent c.requires.root.known c.make_version.ensures.makes
    c.publish.new.m c.if-newest-v.false _ c.in-Err.ensures.moved.1 c.requires.room

pub returns-in-Ok-clause-made : goal.returns-in-Ok-clause-made
returns-in-Ok-clause-made g c =
    let s = g.S.Spelling in
    committed_is s.is_tree s.tree_of s.is_record c.args.m.now c.latest-newest.new.m
    c.make_version.new.m c.args.v c.latest-newest.result c.args.fresh c.args.tree
    c.requires.inside c.requires.claimed c.requires.version c.latest-newest.ensures.latest
    c.latest-newest.ensures.coherent c.requires.root.known c.make_version.ensures.makes
    c.publish.new.m c.if-newest-v.false c.in-Ok.ensures.made

pub returns-in-Ok-clause-behind : goal.returns-in-Ok-clause-behind
returns-in-Ok-clause-behind g c =
    let s = g.S.Spelling in
    behind_write s.is_tree s.tree_of s.is_record c.args.m.now c.latest-newest.new.m
    c.make_version.new.m c.args.v c.latest-newest.result c.args.fresh c.args.tree
    c.requires.inside c.requires.claimed c.requires.version c.latest-newest.ensures.latest
    c.latest-newest.ensures.coherent c.requires.root.known c.make_version.ensures.makes
    c.publish.new.m c.if-newest-v.false _ c.in-Ok.ensures.made

pub returns-in-Err-clause-newer : goal.returns-in-Err-clause-newer
returns-in-Err-clause-newer g c =
    let s = g.S.Spelling in
    newer_last s.is_tree s.tree_of s.is_record c.args.m.now c.latest-newest.new.m
    c.make_version.new.m c.args.v c.latest-newest.result c.args.fresh c.args.tree
    c.requires.inside c.requires.claimed c.requires.version c.latest-newest.ensures.latest
    c.latest-newest.ensures.coherent c.requires.root.known c.make_version.ensures.makes
    c.publish.new.m c.if-newest-v.false _ c.in-Err.ensures.moved.1 c.in-Err.ensures.moved.0
    c.latest.new.m c.latest.result c.latest.ensures.latest

pub returns-in-Err-clause-behind : goal.returns-in-Err-clause-behind
returns-in-Err-clause-behind g c =
    let s = g.S.Spelling in
    behind_last s.is_tree s.tree_of s.is_record c.args.m.now c.latest-newest.new.m
    c.make_version.new.m c.args.v c.latest-newest.result c.args.fresh c.args.tree
    c.requires.inside c.requires.claimed c.requires.version c.latest-newest.ensures.latest
    c.latest-newest.ensures.coherent c.requires.root.known c.make_version.ensures.makes
    c.publish.new.m c.if-newest-v.false _ c.in-Err.ensures.moved.1 c.in-Err.ensures.moved.0
    c.latest.new.m c.latest.result c.latest.ensures.latest

pub returns-then-newest-v-clause-leaves : goal.returns-then-newest-v-clause-leaves
returns-then-newest-v-clause-leaves g c = inl c.latest-newest.ensures.writes

pub returns-in-Ok-clause-writes : goal.returns-in-Ok-clause-writes
returns-in-Ok-clause-writes g c =
    let a = c.args.m.now in
    let b = c.latest-newest.new.m in
    let d = c.make_version.new.m in
    let e = c.publish.new.m in
    let goes = goes_then c.latest-newest.ensures.latest.goes c.make_version.ensures.makes.goes in
    once_around a d e e goes.number
    (nothing_then [] a b d c.latest-newest.ensures.writes c.make_version.ensures.writes)
    (writes_none e) (writes_once _ _ d e _ _ _ refl c.in-Ok.ensures.made)

pub returns-in-Err-clause-leaves : goal.returns-in-Err-clause-leaves
returns-in-Err-clause-leaves g c =
    let a = c.args.m.now in
    let b = c.latest-newest.new.m in
    let d = c.make_version.new.m in
    let e = c.publish.new.m in
    let goes = goes_then c.latest-newest.ensures.latest.goes c.make_version.ensures.makes.goes in
    inr (lost_around a d e c.latest.new.m goes.number
    (nothing_then [] a b d c.latest-newest.ensures.writes c.make_version.ensures.writes)
    c.latest.ensures.writes
    (loses_once _ _ d e _ _ _ c.in-Err.ensures.moved.0 c.in-Err.ensures.moved.1))
