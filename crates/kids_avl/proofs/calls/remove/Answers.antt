use Rattle.std.proofs.Common.{ap, arith, sym, ◌∙◌, rules, tests}
use Rattle.kids_avl.specs.Entries.{kids_of}
use Rattle.kids_avl.specs.Pool.{under}
use Rattle.kids_avl.proofs.Ends.{none_left, without_few, without_high, without_rising}
use Rattle.kids_avl.proofs.Heights.{at_most_levels}
use Rattle.kids_avl.proofs.calls.remove.Goals as goal

pub remove_under-requires-clause-places : goal.remove_under-requires-clause-places
remove_under-requires-clause-places g c =
    let high =
    at_most_levels (under g.K.KidPool.entries c.args.pool.now c.args.root) c.requires.balanced
    c.requires.few in
    omega (arith, high, c.requires.places)

pub remove_under-requires-clause-records : goal.remove_under-requires-clause-records
remove_under-requires-clause-records g c =
    let high =
    at_most_levels (under g.K.KidPool.entries c.args.pool.now c.args.root) c.requires.balanced
    c.requires.few in
    omega (arith, high, c.requires.records)

pub returns : goal.returns
returns g c =
    let high =
    at_most_levels (under g.K.KidPool.entries c.args.pool.now c.args.root) c.requires.balanced
    c.requires.few in
    let entries = g.K.KidPool.entries in
    let pool = c.remove_under.new.pool in
    let without = c.remove_under.ensures.without.kids in
    record {
      kids = search (arith, rules, tests);
      none = (
        λ none. sym without ∙ ap (λ o. kids_of (under entries pool o)) none,
        λ gone.
            none_left entries pool c.remove_under.result
            (λ a e. g.met.K.KidPool.is_entry pool a (rw e at c.remove_under.ensures.stands))
            (without ∙ gone),
      );
      balanced = search (arith, rules, tests);
      rising = without_rising _ _ _ c.remove_under.ensures.without c.requires.rising;
      few = without_few _ _ _ c.remove_under.ensures.without c.requires.few;
      high = without_high _ _ _ c.remove_under.ensures.without c.requires.few;
      stands = search (arith, rules, tests);
      later = search (arith, rules, tests);
      places = omega (arith, high, c.remove_under.ensures.places);
      records = omega (arith, high, c.remove_under.ensures.records);
      made = omega (arith, high, c.remove_under.ensures.made);
    }
