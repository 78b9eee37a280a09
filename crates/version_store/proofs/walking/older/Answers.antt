use Rattle.std.proofs.Common.{[], arith}
use Rattle.version_store.proofs.Backward.{cut_back, cut_back_claims, cut_newer, gives_older}
use Rattle.version_store.proofs.Backward.{may_keep, stopped_in, stopped_room}
use Rattle.held_places.proofs.Going.{comes_in}
use Rattle.version_store.proofs.Leaving.{nothing_then, writes_told}
use Rattle.version_store.proofs.Lasting.{goes_same, newer_lasts, newer_shows, older_lasts}
use Rattle.version_store.proofs.Trimming.{picks_seen}
use Rattle.version_store.proofs.walking.older.Goals as goal

pub walk_back-requires-clause-inside : goal.walk_back-requires-clause-inside
walk_back-requires-clause-inside g c =
    comes_in c.args.m.now c.held_len-held.result c.requires.inside c.held_len-held.ensures.len
    c.held_len-held.ensures.some c.held_len-held.ensures.anchor

pub walk_back-requires-clause-picks : goal.walk_back-requires-clause-picks
walk_back-requires-clause-picks g c =
    let s = g.S.Spelling in picks_seen s.is_tree s.tree_of s.is_record

pub keep-requires : goal.keep-requires
keep-requires g c = record {
  may = may_keep c.args.m.now c.walk_back.new.m c.args.v c.in-Some.found c.args.back
      c.held_len-held.result c.held_len-held.ensures.len
      (comes_in c.args.m.now c.held_len-held.result c.requires.inside c.held_len-held.ensures.len
      c.held_len-held.ensures.some c.held_len-held.ensures.anchor) c.requires.room
      c.in-Some.ensures.walked;
}

pub latest-newest-requires-clause-inside : goal.latest-newest-requires-clause-inside
latest-newest-requires-clause-inside g c =
    stopped_in c.args.m.now c.walk_back.new.m c.args.v c.args.back
    (comes_in c.args.m.now c.held_len-held.result c.requires.inside c.held_len-held.ensures.len
    c.held_len-held.ensures.some c.held_len-held.ensures.anchor) c.in-None.ensures.stopped

pub latest-newest-requires-clause-room : goal.latest-newest-requires-clause-room
latest-newest-requires-clause-room g c =
    stopped_room c.args.m.now c.walk_back.new.m c.args.v c.args.back c.in-None.ensures.stopped
    c.requires.kept c.requires.room

pub returns-in-Some-clause-older : goal.returns-in-Some-clause-older
returns-in-Some-clause-older g c =
    gives_older c.args.m.now c.walk_back.new.m c.keep.new.self c.args.v c.in-Some.found c.args.back
    c.held_len-held.result _ c.held_len-held.ensures.len c.in-Some.ensures.walked
    c.keep.ensures.told

pub returns-in-Some-clause-lasts : goal.returns-in-Some-clause-lasts
returns-in-Some-clause-lasts g c =
    older_lasts c.args.m.now c.keep.new.self c.args.v c.args.back _
    (gives_older c.args.m.now c.walk_back.new.m c.keep.new.self c.args.v c.in-Some.found
    c.args.back c.held_len-held.result _ c.held_len-held.ensures.len c.in-Some.ensures.walked
    c.keep.ensures.told)

pub returns-in-Some-clause-same : goal.returns-in-Some-clause-same
returns-in-Some-clause-same g c =
    let gives = gives_older c.args.m.now c.walk_back.new.m c.keep.new.self c.args.v
    c.in-Some.found c.args.back c.held_len-held.result _ c.held_len-held.ensures.len
    c.in-Some.ensures.walked c.keep.ensures.told in
    goes_same c.args.m.now c.keep.new.self gives.goes

pub returns-in-None-clause-cut : goal.returns-in-None-clause-cut
returns-in-None-clause-cut g c =
    cut_newer c.args.m.now c.walk_back.new.m c.latest-newest.new.m c.cut.new.self c.args.v
    c.latest-newest.result c.args.back c.held_len-held.result _ c.requires.kept
    c.in-None.ensures.stopped c.latest-newest.ensures.latest c.cut.ensures.told

pub returns-in-None-clause-shows : goal.returns-in-None-clause-shows
returns-in-None-clause-shows g c =
    newer_shows c.args.m.now c.cut.new.self c.args.v c.latest-newest.result.number
    c.held_len-held.ensures.left
    (cut_newer c.args.m.now c.walk_back.new.m c.latest-newest.new.m c.cut.new.self c.args.v
    c.latest-newest.result c.args.back c.held_len-held.result _ c.requires.kept
    c.in-None.ensures.stopped c.latest-newest.ensures.latest c.cut.ensures.told)

pub returns-in-None-clause-held : goal.returns-in-None-clause-held
returns-in-None-clause-held g c =
    cut_back c.args.m.now c.walk_back.new.m c.latest-newest.new.m c.cut.new.self c.args.v
    c.latest-newest.result c.args.back c.held_len-held.result _ c.held_len-held.ensures.len
    c.in-None.ensures.stopped c.latest-newest.ensures.latest c.cut.ensures.told

pub returns-in-None-clause-lasts : goal.returns-in-None-clause-lasts
returns-in-None-clause-lasts g c =
    let same = cut_back_claims c.args.m.now c.walk_back.new.m c.latest-newest.new.m
    c.cut.new.self c.args.v c.latest-newest.result c.args.back c.held_len-held.result _
    c.in-None.ensures.stopped c.latest-newest.ensures.latest c.cut.ensures.told in
    newer_lasts c.args.m.now c.cut.new.self c.args.v c.latest-newest.result.number
    (cut_newer c.args.m.now c.walk_back.new.m c.latest-newest.new.m c.cut.new.self c.args.v
    c.latest-newest.result c.args.back c.held_len-held.result _ c.requires.kept
    c.in-None.ensures.stopped c.latest-newest.ensures.latest c.cut.ensures.told)
    (omega (arith, same))

pub returns-in-None-clause-same : goal.returns-in-None-clause-same
returns-in-None-clause-same g c =
    let finds = cut_newer c.args.m.now c.walk_back.new.m c.latest-newest.new.m c.cut.new.self
    c.args.v c.latest-newest.result c.args.back c.held_len-held.result _ c.requires.kept
    c.in-None.ensures.stopped c.latest-newest.ensures.latest c.cut.ensures.told in
    goes_same c.args.m.now c.cut.new.self finds.goes

pub returns-in-Some-clause-writes : goal.returns-in-Some-clause-writes
returns-in-Some-clause-writes g c =
    nothing_then [] c.args.m.now c.walk_back.new.m c.keep.new.self c.walk_back.ensures.writes
    (writes_told c.walk_back.new.m c.keep.new.self _ _ c.keep.ensures.told)

pub returns-in-None-clause-writes : goal.returns-in-None-clause-writes
returns-in-None-clause-writes g c =
    nothing_then [] c.args.m.now c.walk_back.new.m c.cut.new.self c.walk_back.ensures.writes
    (nothing_then [] c.walk_back.new.m c.latest-newest.new.m c.cut.new.self
    c.latest-newest.ensures.writes
    (writes_told c.latest-newest.new.m c.cut.new.self _ _ c.cut.ensures.told))
