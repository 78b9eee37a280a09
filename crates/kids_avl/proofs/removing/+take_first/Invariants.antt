-- Each call is on a side of the entry.
use Rattle.kids_avl.specs.Entries.{height_of}
use Rattle.kids_avl.proofs.removing.+take_first.Given as goal

abbrev pub decreases-take_first : goal.decreases-take_first
decreases-take_first g l = height_of (g.K.KidPool.entries l.pool.now l.at)
