use Rattle.std.proofs.Common.{◌≤◌, arith}
use Rattle.kids_avl.specs.Entries.{height_of}
use Rattle.kids_avl.proofs.Heights.{entry_high}
use Rattle.kids_avl.proofs.removing.+take_first.Goals as goal

pub read_entry-entry-requires-clause-places : goal.read_entry-entry-requires-clause-places
read_entry-entry-requires-clause-places g t c =
    let is = g.met.K.KidPool.is_entry c.args.pool.now c.args.at c.requires.stands in
    let h : 1 ≤ height_of (g.K.KidPool.entries c.args.pool.now c.args.at) = entry_high _ is in
    omega (arith, h, c.requires.places)
