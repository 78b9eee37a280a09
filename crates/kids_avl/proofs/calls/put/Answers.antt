use Rattle.std.proofs.Common.{arith, rules, tests}
use Rattle.kids_avl.specs.Pool.{under}
use Rattle.kids_avl.proofs.Ends.{put_few, put_high, put_rising}
use Rattle.kids_avl.proofs.Heights.{at_most_levels}
use Rattle.kids_avl.proofs.calls.put.Goals as goal

pub put_under-requires-clause-places : goal.put_under-requires-clause-places
put_under-requires-clause-places g c =
    let high =
    at_most_levels (under g.K.KidPool.entries c.args.pool.now c.args.root) c.requires.balanced
    c.requires.few in
    omega (arith, high, c.requires.places)

pub put_under-requires-clause-records : goal.put_under-requires-clause-records
put_under-requires-clause-records g c =
    let high =
    at_most_levels (under g.K.KidPool.entries c.args.pool.now c.args.root) c.requires.balanced
    c.requires.few in
    omega (arith, high, c.requires.records)

pub returns : goal.returns
returns g c =
    let high =
    at_most_levels (under g.K.KidPool.entries c.args.pool.now c.args.root) c.requires.balanced
    c.requires.few in
    record {
      kids = search (arith, rules, tests);
      balanced = search (arith, rules, tests);
      rising = put_rising _ _ _ _ c.put_under.ensures.put c.requires.rising;
      few = put_few _ _ _ _ c.put_under.ensures.put c.requires.room c.requires.few;
      high = put_high _ _ _ _ c.put_under.ensures.put c.requires.room c.requires.few;
      stands = search (arith, rules, tests);
      later = search (arith, rules, tests);
      places = omega (arith, high, c.put_under.ensures.places);
      records = omega (arith, high, c.put_under.ensures.records);
      made = omega (arith, high, c.put_under.ensures.made);
    }
