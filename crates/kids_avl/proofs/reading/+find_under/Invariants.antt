-- Each call is on a side of the entry.
use Rattle.kids_avl.specs.Entries.{height_of}
use Rattle.kids_avl.specs.Pool.{under}
use Rattle.kids_avl.proofs.reading.+find_under.Given as goal

abbrev pub decreases-find_under : goal.decreases-find_under
decreases-find_under g l = height_of (under g.K.KidPool.entries l.pool.now l.top)
