-- Each call is on a side of the entry.
use Rattle.kids_avl.specs.Entries.{kids_of}
use Rattle.doc_tree.specs.Tree.{kid_count}
use Rattle.kids_avl.specs.Pool.{under}
use Rattle.kids_avl.proofs.reading.+spot_under.Given as goal

abbrev pub decreases-spot_under : goal.decreases-spot_under
decreases-spot_under g l = kid_count (kids_of (under g.K.KidPool.entries l.pool.now l.top))
