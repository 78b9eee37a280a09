use Rattle.std.proofs.Common.{◌<◌, length, refl, sym, subst, arith}
use Rattle.run_limits.specs.declared.TheConstants.{MOST_COMMANDS}
use Rattle.mutator_seat.proofs.Calm.{kept_same}
use Rattle.version_rule.specs.Pass.{Pass}
use Rattle.held_places.proofs.Claiming.{claimed_goes, claimed_in, claimed_pass}
use Rattle.held_places.proofs.Going.{comes_in, kept_holds}
use Rattle.version_store.proofs.Lasting.{full_lasts, full_shows, goes_same, lasts_still, made_lasts}
use Rattle.version_store.proofs.Lasting.{newer_lasts, newer_shows, same_still}
use Rattle.version_store.proofs.Leaving.{claimed_writes, left_around, once_around, writes_told}
use Rattle.version_store.proofs.Widening.{claimed_held, claimed_is, claimed_record, claimed_room}
use Rattle.version_store.proofs.Widening.{claimed_term, claims_all, committed_all, holds_all}
use Rattle.version_store.proofs.Widening.{kept_some, newer_all}
use Rattle.version_store.proofs.committing.commit.Goals as goal
use Rattle.version_rule.specs.Versions.{is_fixed}

pub returns-then-v-versions-clause-refused : goal.returns-then-v-versions-clause-refused
returns-then-v-versions-clause-refused g c = refl

pub returns-then-v-versions-clause-held : goal.returns-then-v-versions-clause-held
returns-then-v-versions-clause-held g c =
    kept_holds is_fixed c.args.m.now c.args.m.now (kept_same c.args.m.now)

pub returns-then-v-versions-clause-lasts : goal.returns-then-v-versions-clause-lasts
returns-then-v-versions-clause-lasts g c = lasts_still c.args.m.now

pub returns-then-v-versions-clause-same : goal.returns-then-v-versions-clause-same
returns-then-v-versions-clause-same g c = same_still c.args.m.now

pub put_version-put-requires : goal.put_version-put-requires
put_version-put-requires g c =
    let s = g.S.Spelling in
    let a = c.args.m.now in
    let b = c.claim.new.self in
    let fresh = c.in-Ok.fresh in
    let got = c.in-Ok.ensures.got in
    record {
      inside = claimed_in a b fresh got
          (comes_in a c.held_len-held.result c.requires.inside c.held_len-held.ensures.len
          c.held_len-held.ensures.some c.held_len-held.ensures.anchor);
      room = claimed_room a b fresh got 8 c.requires.room (omega arith);
      claimed = claimed_is a b fresh got c.args.v c.args.tree c.requires.version c.requires.root;
      version = claimed_held a b fresh got c.args.v c.requires.version;
      root = claimed_record a b fresh got c.args.tree c.requires.root;
      spells = subst s.is_tree (sym (claimed_term a b fresh got c.args.tree c.requires.root))
          c.requires.spells;
      few = subst (λ (p : Pass). length p.commits < MOST_COMMANDS)
          (sym (claimed_pass a b fresh got)) c.requires.few;
    }

pub cut-requires-clause-kept : goal.cut-requires-clause-kept
cut-requires-clause-kept g c =
    kept_some c.args.m.now c.claim.new.self c.in-Ok.fresh c.in-Ok.ensures.got
    c.put_version-put.new.m c.held_len-held.result c.held_len-held.ensures.len
    c.put_version-put.ensures.behind

pub returns-in-Ok-put-clause-made : goal.returns-in-Ok-put-clause-made
returns-in-Ok-put-clause-made g c =
    let s = g.S.Spelling in
    committed_all c.args.m.now c.claim.new.self c.in-Ok.fresh c.in-Ok.ensures.got
    c.put_version-put.new.m c.cut.new.self c.held_len-held.result _ c.held_len-held.ensures.len
    c.cut.ensures.told c.in-Ok-put.ensures.behind s.is_tree s.tree_of c.args.v c.args.tree
    c.requires.version c.requires.root c.in-Ok-put.ensures.made

pub returns-in-Ok-put-clause-rose : goal.returns-in-Ok-put-clause-rose
returns-in-Ok-put-clause-rose g c =
    claims_all c.args.m.now c.claim.new.self c.in-Ok.fresh c.in-Ok.ensures.got
    c.put_version-put.new.m c.cut.new.self c.held_len-held.result _ c.held_len-held.ensures.len
    c.cut.ensures.told c.in-Ok-put.ensures.behind

pub returns-in-Ok-put-clause-held : goal.returns-in-Ok-put-clause-held
returns-in-Ok-put-clause-held g c =
    holds_all c.args.m.now c.claim.new.self c.in-Ok.fresh c.in-Ok.ensures.got
    c.put_version-put.new.m c.cut.new.self c.held_len-held.result _ c.held_len-held.ensures.len
    c.cut.ensures.told c.in-Ok-put.ensures.behind

pub returns-in-Ok-put-clause-lasts : goal.returns-in-Ok-put-clause-lasts
returns-in-Ok-put-clause-lasts g c =
    let s = g.S.Spelling in
    made_lasts s.is_tree s.tree_of c.args.m.now c.cut.new.self c.args.v c.args.tree
    (committed_all c.args.m.now c.claim.new.self c.in-Ok.fresh c.in-Ok.ensures.got
    c.put_version-put.new.m c.cut.new.self c.held_len-held.result _ c.held_len-held.ensures.len
    c.cut.ensures.told c.in-Ok-put.ensures.behind s.is_tree s.tree_of c.args.v c.args.tree
    c.requires.version c.requires.root c.in-Ok-put.ensures.made)
    (claims_all c.args.m.now c.claim.new.self c.in-Ok.fresh c.in-Ok.ensures.got
    c.put_version-put.new.m c.cut.new.self c.held_len-held.result _ c.held_len-held.ensures.len
    c.cut.ensures.told c.in-Ok-put.ensures.behind)

pub returns-in-Ok-put-clause-same : goal.returns-in-Ok-put-clause-same
returns-in-Ok-put-clause-same g c =
    let s = g.S.Spelling in
    let made = committed_all c.args.m.now c.claim.new.self c.in-Ok.fresh c.in-Ok.ensures.got
    c.put_version-put.new.m c.cut.new.self c.held_len-held.result _ c.held_len-held.ensures.len
    c.cut.ensures.told c.in-Ok-put.ensures.behind s.is_tree s.tree_of c.args.v c.args.tree
    c.requires.version c.requires.root c.in-Ok-put.ensures.made in
    goes_same c.args.m.now c.cut.new.self made.goes

pub returns-in-Err-put-clause-refused : goal.returns-in-Err-put-clause-refused
returns-in-Err-put-clause-refused g c =
    newer_all c.args.m.now c.claim.new.self c.in-Ok.fresh c.in-Ok.ensures.got
    c.put_version-put.new.m c.cut.new.self c.held_len-held.result _ c.held_len-held.ensures.len
    c.cut.ensures.told c.in-Err-put.ensures.behind c.args.v c.in-Err-put.newer
    c.in-Err-put.ensures.newer

pub returns-in-Err-put-clause-held : goal.returns-in-Err-put-clause-held
returns-in-Err-put-clause-held g c =
    holds_all c.args.m.now c.claim.new.self c.in-Ok.fresh c.in-Ok.ensures.got
    c.put_version-put.new.m c.cut.new.self c.held_len-held.result _ c.held_len-held.ensures.len
    c.cut.ensures.told c.in-Err-put.ensures.behind

pub returns-in-Err-put-clause-shows : goal.returns-in-Err-put-clause-shows
returns-in-Err-put-clause-shows g c =
    newer_shows c.args.m.now c.cut.new.self c.args.v c.in-Err-put.newer c.held_len-held.ensures.left
    (newer_all c.args.m.now c.claim.new.self c.in-Ok.fresh c.in-Ok.ensures.got
    c.put_version-put.new.m c.cut.new.self c.held_len-held.result _ c.held_len-held.ensures.len
    c.cut.ensures.told c.in-Err-put.ensures.behind c.args.v c.in-Err-put.newer
    c.in-Err-put.ensures.newer)

pub returns-in-Err-put-clause-lasts : goal.returns-in-Err-put-clause-lasts
returns-in-Err-put-clause-lasts g c =
    let more = claims_all c.args.m.now c.claim.new.self c.in-Ok.fresh c.in-Ok.ensures.got
    c.put_version-put.new.m c.cut.new.self c.held_len-held.result _ c.held_len-held.ensures.len
    c.cut.ensures.told c.in-Err-put.ensures.behind in
    newer_lasts c.args.m.now c.cut.new.self c.args.v c.in-Err-put.newer
    (newer_all c.args.m.now c.claim.new.self c.in-Ok.fresh c.in-Ok.ensures.got
    c.put_version-put.new.m c.cut.new.self c.held_len-held.result _ c.held_len-held.ensures.len
    c.cut.ensures.told c.in-Err-put.ensures.behind c.args.v c.in-Err-put.newer
    c.in-Err-put.ensures.newer) (omega (arith, more))

pub returns-in-Err-put-clause-same : goal.returns-in-Err-put-clause-same
returns-in-Err-put-clause-same g c =
    let finds = newer_all c.args.m.now c.claim.new.self c.in-Ok.fresh c.in-Ok.ensures.got
    c.put_version-put.new.m c.cut.new.self c.held_len-held.result _ c.held_len-held.ensures.len
    c.cut.ensures.told c.in-Err-put.ensures.behind c.args.v c.in-Err-put.newer
    c.in-Err-put.ensures.newer in
    goes_same c.args.m.now c.cut.new.self finds.goes

pub returns-in-Err-clause-shows : goal.returns-in-Err-clause-shows
returns-in-Err-clause-shows g c =
    full_shows c.args.m.now c.claim.new.self c.in-Err.full c.in-Err.ensures.full

pub returns-in-Err-clause-lasts : goal.returns-in-Err-clause-lasts
returns-in-Err-clause-lasts g c =
    full_lasts c.args.m.now c.claim.new.self c.in-Err.full c.in-Err.ensures.full

pub returns-in-Ok-put-clause-writes : goal.returns-in-Ok-put-clause-writes
returns-in-Ok-put-clause-writes g c =
    let a = c.args.m.now in
    let b = c.claim.new.self in
    let got = c.in-Ok.ensures.got in
    let d = c.put_version-put.new.m in
    let goes = claimed_goes a b c.in-Ok.fresh got in
    once_around a b d c.cut.new.self goes.number (claimed_writes a b c.in-Ok.fresh got)
    (writes_told d c.cut.new.self _ _ c.cut.ensures.told) c.in-Ok-put.ensures.writes

pub returns-in-Err-put-clause-leaves : goal.returns-in-Err-put-clause-leaves
returns-in-Err-put-clause-leaves g c =
    let a = c.args.m.now in
    let b = c.claim.new.self in
    let got = c.in-Ok.ensures.got in
    let d = c.put_version-put.new.m in
    let goes = claimed_goes a b c.in-Ok.fresh got in
    left_around a b d c.cut.new.self goes.number (claimed_writes a b c.in-Ok.fresh got)
    (writes_told d c.cut.new.self _ _ c.cut.ensures.told) c.in-Err-put.ensures.leaves
