use Rattle.std.proofs.Common.{ap, ◌∙◌}
use Rattle.kids_avl.specs.Pool.{under}
use Rattle.kids_avl.proofs.Steps.{closed_done, closed_left, closed_ready}
use Rattle.kids_avl.proofs.removing.closed.Goals as goal

pub returns-in_default-clause-closed : goal.returns-in_default-clause-closed
returns-in_default-clause-closed g c =
    closed_left _ _ _ _ (ap (under g.K.KidPool.entries c.args.pool.now) c.in_default.is)
    c.requires.balanced

pub joined-requires-clause-like : goal.joined-requires-clause-like
joined-requires-clause-like g c =
    c.child-child.ensures.later.still c.take_first-taken.result.first
    c.take_first-taken.ensures.stands

pub joined-requires-clause-nearly : goal.joined-requires-clause-nearly
joined-requires-clause-nearly g c =
    let taken = c.take_first-taken in
    let later = taken.ensures.later in
    let last = c.child-child.ensures.later in
    closed_ready _ _ _ _ _ _ _ _ _ _ _
    (ap (under g.K.KidPool.entries c.args.pool.now) c.in-Some.is) c.requires.balanced
    c.requires.rising taken.ensures.first (last.same taken.result.first taken.ensures.stands)
    c.child-child.ensures.child
    (last.same_under c.args.sides.left (later.still_under c.args.sides.left c.requires.left)
    ∙ later.same_under c.args.sides.left c.requires.left)
    (last.same_under taken.result.rest taken.ensures.rest)

pub returns-clause-closed : goal.returns-clause-closed
returns-clause-closed g c =
    let taken = c.take_first-taken in
    let later = taken.ensures.later in
    let last = c.child-child.ensures.later in
    closed_done _ _ _ _ _ _ _ _ _ _ _ _
    (ap (under g.K.KidPool.entries c.args.pool.now) c.in-Some.is) c.requires.balanced
    taken.ensures.first c.joined.ensures.even
    (last.same taken.result.first taken.ensures.stands) c.child-child.ensures.child
    (last.same_under c.args.sides.left (later.still_under c.args.sides.left c.requires.left)
    ∙ later.same_under c.args.sides.left c.requires.left)
    (last.same_under taken.result.rest taken.ensures.rest)
