-- Each call is on a side of the entry.
use Rattle.kids_avl.specs.Entries.{height_of}
use Rattle.kids_avl.specs.Pool.{under}
use Rattle.kids_avl.proofs.putting.+put_under.Given as goal

abbrev pub decreases-put_under : goal.decreases-put_under
decreases-put_under g l = height_of (under g.K.KidPool.entries l.pool.now l.top)
