use Rattle.std.proofs.Common.{◌≡◌, ◌+◌, ◌-◌, ◌≤◌, ◌∙◌, Some, ap, arith, rules, sym}
use Rattle.doc_tree.specs.Tree.{kid_count}
use Rattle.kids_avl.specs.Entries.{Entries, child_of, kid_at, kids_of, left_of, name_of, right_of}
use Rattle.kids_avl.specs.Pool.{under}
use Rattle.kids_avl.proofs.Descents.{later_then}
use Rattle.kids_avl.proofs.Heights.{entry_counts}
use Rattle.kids_avl.proofs.Lists.{count_entry}
use Rattle.kids_avl.proofs.Spots.{past_right, spot_here, spot_left, spot_right}
use Rattle.kids_avl.proofs.reading.+spot_under.Goals as goal

pub left-left-requires-clause-places : goal.left-left-requires-clause-places
left-left-requires-clause-places g t c =
    let stands = rw c.in-Some.is at c.requires.stands in
    let is = g.met.K.KidPool.is_entry c.args.pool.now c.in-Some.at stands in
    let h : 1 ≤ kid_count (kids_of (under g.K.KidPool.entries c.args.pool.now c.args.top)) =
    rw c.in-Some.is (entry_counts _ is) in
    omega (arith, h, c.requires.places)

pub left-left-requires-clause-stands : goal.left-left-requires-clause-stands
left-left-requires-clause-stands g t c = rw c.in-Some.is at c.requires.stands

pub spot_under-requires : goal.spot_under-requires
spot_under-requires g t c κs within =
    let stands = rw c.in-Some.is at c.requires.stands in
    let at = g.K.KidPool.entries c.args.pool.now c.in-Some.at in
    let is = g.met.K.KidPool.is_entry c.args.pool.now c.in-Some.at stands in
    let all : kid_count (kids_of (under g.K.KidPool.entries c.args.pool.now c.args.top))
    ≡ kid_count (kids_of (left_of at)) + 1 + kid_count (kids_of (right_of at)) =
    rw c.in-Some.is (count_entry at is) in
    let left = ap (λ (e : Entries). kid_count (kids_of e)) c.left-left.ensures.left in (
      omega (arith, all, left),
      (
        search rules,
        (
          search rules,
          (
            search rules,
            (
              c.left-left.ensures.stands,
              omega (arith, all, left, c.requires.places, c.left-left.ensures.places),
            ),
          ),
        ),
      ),
    )

pub right-right-requires-clause-stands : goal.right-right-requires-clause-stands
right-right-requires-clause-stands g t c =
    let stands = rw c.in-Some.is at c.requires.stands in
    c.spot_under.ensures.later.still c.in-Some.at
    (c.left-left.ensures.later.still c.in-Some.at stands)

pub right-right-requires-clause-places : goal.right-right-requires-clause-places
right-right-requires-clause-places g t c =
    let stands = rw c.in-Some.is at c.requires.stands in
    let at = g.K.KidPool.entries c.args.pool.now c.in-Some.at in
    let is = g.met.K.KidPool.is_entry c.args.pool.now c.in-Some.at stands in
    let all : kid_count (kids_of (under g.K.KidPool.entries c.args.pool.now c.args.top))
    ≡ kid_count (kids_of (left_of at)) + 1 + kid_count (kids_of (right_of at)) =
    rw c.in-Some.is (count_entry at is) in
    let left = ap (λ (e : Entries). kid_count (kids_of e)) c.left-left.ensures.left in
    omega (
      arith,
      all,
      left,
      c.requires.places,
      c.left-left.ensures.places,
      c.spot_under.ensures.places,
    )

pub spot_under-requires-in-Past : goal.spot_under-requires-in-Past
spot_under-requires-in-Past g t c κs within =
    let stands = rw c.in-Some.is at c.requires.stands in
    let at = g.K.KidPool.entries c.args.pool.now c.in-Some.at in
    let is = g.met.K.KidPool.is_entry c.args.pool.now c.in-Some.at stands in
    let all : kid_count (kids_of (under g.K.KidPool.entries c.args.pool.now c.args.top))
    ≡ kid_count (kids_of (left_of at)) + 1 + kid_count (kids_of (right_of at)) =
    rw c.in-Some.is (count_entry at is) in
    let left = ap (λ (e : Entries). kid_count (kids_of e)) c.left-left.ensures.left in
    let same = c.spot_under.ensures.later.same c.in-Some.at
    (c.left-left.ensures.later.still c.in-Some.at stands)
    ∙ c.left-left.ensures.later.same c.in-Some.at stands in
    let right = ap (λ (e : Entries). kid_count (kids_of e))
    (c.right-right.ensures.right ∙ ap right_of same) in (
      omega (arith, all, right),
      (
        search rules,
        (
          search rules,
          (
            search rules,
            (
              c.right-right.ensures.stands,
              omega (
                arith,
                all,
                left,
                right,
                c.requires.places,
                c.left-left.ensures.places,
                c.spot_under.ensures.places,
                c.right-right.ensures.places,
              ),
            ),
          ),
        ),
      ),
    )

pub returns-in-Here-clause-kid : goal.returns-in-Here-clause-kid
returns-in-Here-clause-kid g t c =
    let at = g.K.KidPool.entries c.args.pool.now c.in-Some.at in
    spot_left c.args.index at _ (c.in-Here.ensures.kid
    ∙ ap (λ (e : Entries). kid_at c.args.index (kids_of e)) c.left-left.ensures.left)
    ∙ sym (ap (λ o. kid_at c.args.index (kids_of (under g.K.KidPool.entries c.args.pool.now o)))
    c.in-Some.is)

pub returns-in-Here-clause-later : goal.returns-in-Here-clause-later
returns-in-Here-clause-later g t c =
    later_then c.left-left.ensures.later c.spot_under.ensures.later

pub returns-in-Past-eq0-clause-kid : goal.returns-in-Past-eq0-clause-kid
returns-in-Past-eq0-clause-kid g t c =
    let stands = rw c.in-Some.is at c.requires.stands in
    let at = g.K.KidPool.entries c.args.pool.now c.in-Some.at in
    let is = g.met.K.KidPool.is_entry c.args.pool.now c.in-Some.at stands in
    let left = ap (λ (e : Entries). kid_count (kids_of e)) c.left-left.ensures.left in
    let same = c.spot_under.ensures.later.same c.in-Some.at
    (c.left-left.ensures.later.still c.in-Some.at stands)
    ∙ c.left-left.ensures.later.same c.in-Some.at stands in
    ap (λ (e : Entries). Some (name_of e, child_of e)) same
    ∙ spot_here c.args.index at is (omega (arith, left, c.in-Past-eq0.ensures.past))
    ∙ sym (ap (λ o. kid_at c.args.index (kids_of (under g.K.KidPool.entries c.args.pool.now o)))
    c.in-Some.is)

pub returns-in-Past-eq0-clause-stands : goal.returns-in-Past-eq0-clause-stands
returns-in-Past-eq0-clause-stands g t c =
    let stands = rw c.in-Some.is at c.requires.stands in
    c.spot_under.ensures.later.still c.in-Some.at
    (c.left-left.ensures.later.still c.in-Some.at stands)

pub returns-in-Past-eq0-clause-later : goal.returns-in-Past-eq0-clause-later
returns-in-Past-eq0-clause-later g t c =
    later_then c.left-left.ensures.later c.spot_under.ensures.later

pub returns-in-Past-clause-kid : goal.returns-in-Past-clause-kid
returns-in-Past-clause-kid g t c =
    let stands = rw c.in-Some.is at c.requires.stands in
    let at = g.K.KidPool.entries c.args.pool.now c.in-Some.at in
    let is = g.met.K.KidPool.is_entry c.args.pool.now c.in-Some.at stands in
    let left = ap (λ (e : Entries). kid_count (kids_of e)) c.left-left.ensures.left in
    let same = c.spot_under.ensures.later.same c.in-Some.at
    (c.left-left.ensures.later.still c.in-Some.at stands)
    ∙ c.left-left.ensures.later.same c.in-Some.at stands in
    c.spot_under-in-Past.ensures.kid
    ∙ ap (λ (e : Entries). kid_at (c.in-Past.more - 1) (kids_of e))
    (c.right-right.ensures.right ∙ ap right_of same)
    ∙ spot_right c.args.index (c.in-Past.more - 1) at is
    (omega (arith, left, c.in-Past.ensures.past))
    ∙ sym (ap (λ o. kid_at c.args.index (kids_of (under g.K.KidPool.entries c.args.pool.now o)))
    c.in-Some.is)

pub returns-in-Past-clause-past : goal.returns-in-Past-clause-past
returns-in-Past-clause-past g t c =
    let stands = rw c.in-Some.is at c.requires.stands in
    let at = g.K.KidPool.entries c.args.pool.now c.in-Some.at in
    let is = g.met.K.KidPool.is_entry c.args.pool.now c.in-Some.at stands in
    let all : kid_count (kids_of (under g.K.KidPool.entries c.args.pool.now c.args.top))
    ≡ kid_count (kids_of (left_of at)) + 1 + kid_count (kids_of (right_of at)) =
    rw c.in-Some.is (count_entry at is) in
    let left = ap (λ (e : Entries). kid_count (kids_of e)) c.left-left.ensures.left in
    let same = c.spot_under.ensures.later.same c.in-Some.at
    (c.left-left.ensures.later.still c.in-Some.at stands)
    ∙ c.left-left.ensures.later.same c.in-Some.at stands in
    let right = ap (λ (e : Entries). kid_count (kids_of e))
    (c.right-right.ensures.right ∙ ap right_of same) in
    past_right c.args.index (c.in-Past.more - 1) (kid_count (kids_of (left_of at))) _ _ _
    c.spot_under-in-Past.ensures.past (omega (arith, left, c.in-Past.ensures.past))
    (omega (arith, all, right))

pub returns-in-Past-clause-later : goal.returns-in-Past-clause-later
returns-in-Past-clause-later g t c =
    later_then (later_then c.left-left.ensures.later c.spot_under.ensures.later)
    (later_then c.right-right.ensures.later c.spot_under-in-Past.ensures.later)
