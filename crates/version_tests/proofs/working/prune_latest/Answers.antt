use Rattle.std.proofs.Common.{◌+◌, arith}
use Rattle.version_store.proofs.Lasting.{same_then}
use Rattle.version_tests.proofs.Growing.{cut_same, grows_then, works_cut, works_grown}
use Rattle.version_tests.proofs.working.prune_latest.Goals as goal

pub cut-requires-clause-kept : goal.cut-requires-clause-kept
cut-requires-clause-kept c =
    let one = c.requires.works.some in
    let two = c.look-newest.ensures.grows.longer in
    let three = c.prune.ensures.grows.longer in omega (arith, one, two, three)

pub returns : goal.returns
returns c =
    let a = c.args.m.now in
    let b = c.look-newest.new.m in
    let d = c.prune.new.m in
    let e = c.cut.new.self in
    let grows = grows_then 1 0 0 0 a b d c.look-newest.ensures.grows c.prune.ensures.grows in
    record {
      works = works_cut 2 (c.args.commits + 0) c.args.commits c.args.keep d e _ (omega arith)
          (works_grown 1 1 c.args.commits 0 c.args.keep a d c.requires.works grows)
          c.cut.ensures.told;
      same = same_then a d e grows.same (cut_same d e 1 _ c.cut.ensures.told);
    }
