use Rattle.std.proofs.Common.{◌≡◌, ◌+◌, ◌≤◌, ◌∙◌, ap, arith, rules, sym}
use Rattle.doc_tree.specs.Tree.{kid_count}
use Rattle.kids_avl.specs.Entries.{Entries, kids_of, left_of, right_of}
use Rattle.kids_avl.specs.Pool.{under}
use Rattle.kids_avl.proofs.Descents.{later_then}
use Rattle.kids_avl.proofs.Heights.{entry_counts}
use Rattle.kids_avl.proofs.Lists.{count_entry}
use Rattle.kids_avl.proofs.reading.+count_under.Goals as goal

pub left-left-requires-clause-places : goal.left-left-requires-clause-places
left-left-requires-clause-places g t c =
    let stands = rw c.in-Some.is at c.requires.stands in
    let is = g.met.K.KidPool.is_entry c.args.pool.now c.in-Some.at stands in
    let h : 1 ≤ kid_count (kids_of (under g.K.KidPool.entries c.args.pool.now c.args.top)) =
    rw c.in-Some.is (entry_counts _ is) in
    omega (arith, h, c.requires.places)

pub returns-in_default-clause-count : goal.returns-in_default-clause-count
returns-in_default-clause-count g t c =
    sym (ap (λ o. kid_count (kids_of (under g.K.KidPool.entries c.args.pool.now o)))
    c.in_default.is)

pub left-left-requires-clause-stands : goal.left-left-requires-clause-stands
left-left-requires-clause-stands g t c =
    rw c.in-Some.is at c.requires.stands

pub right-right-requires-clause-stands : goal.right-right-requires-clause-stands
right-right-requires-clause-stands g t c =
    let stands = rw c.in-Some.is at c.requires.stands in
    c.count_under-before.ensures.later.still c.in-Some.at (c.left-left.ensures.later.still c.in-Some.at stands)

pub right-right-requires-clause-places : goal.right-right-requires-clause-places
right-right-requires-clause-places g t c =
    let stands = rw c.in-Some.is at c.requires.stands in
    let at = g.K.KidPool.entries c.args.pool.now c.in-Some.at in
    let is = g.met.K.KidPool.is_entry c.args.pool.now c.in-Some.at stands in
    let all : kid_count (kids_of (under g.K.KidPool.entries c.args.pool.now c.args.top))
    ≡ kid_count (kids_of (left_of at)) + 1 + kid_count (kids_of (right_of at)) =
    rw c.in-Some.is (count_entry at is) in
    let left = ap (λ (e : Entries). kid_count (kids_of e)) c.left-left.ensures.left in
    omega (arith, all, left, c.requires.places, c.left-left.ensures.places, c.count_under-before.ensures.places)

pub returns : goal.returns
returns g t c =
    let at = g.K.KidPool.entries c.args.pool.now c.in-Some.at in
    let stands = rw c.in-Some.is at c.requires.stands in
    let is = g.met.K.KidPool.is_entry c.args.pool.now c.in-Some.at stands in
    let all : kid_count (kids_of (under g.K.KidPool.entries c.args.pool.now c.args.top))
    ≡ kid_count (kids_of (left_of at)) + 1 + kid_count (kids_of (right_of at)) =
    rw c.in-Some.is (count_entry at is) in
    let left = ap (λ (e : Entries). kid_count (kids_of e)) c.left-left.ensures.left in
    let right = ap (λ (e : Entries). kid_count (kids_of e)) (c.right-right.ensures.right
    ∙ ap right_of (c.count_under-before.ensures.later.same c.in-Some.at (c.left-left.ensures.later.still c.in-Some.at stands)
    ∙ c.left-left.ensures.later.same c.in-Some.at stands)) in
    record {
      count = omega (
        arith,
        all,
        left,
        right,
        c.count_under-before.ensures.count,
        c.count_under-after.ensures.count,
      );
      later = later_then (later_then c.left-left.ensures.later c.count_under-before.ensures.later)
          (later_then c.right-right.ensures.later c.count_under-after.ensures.later);
      places = omega (
        arith,
        all,
        left,
        right,
        c.left-left.ensures.places,
        c.count_under-before.ensures.places,
        c.right-right.ensures.places,
        c.count_under-after.ensures.places,
      );
      records = c.count_under-after.ensures.records ∙ c.right-right.ensures.records
          ∙ c.count_under-before.ensures.records ∙ c.left-left.ensures.records;
      made = c.count_under-after.ensures.made ∙ c.right-right.ensures.made
          ∙ c.count_under-before.ensures.made ∙ c.left-left.ensures.made;
    }

pub count_under-before-requires : goal.count_under-before-requires
count_under-before-requires g t c κs within =
    let stands = rw c.in-Some.is at c.requires.stands in
    let at = g.K.KidPool.entries c.args.pool.now c.in-Some.at in
    let is = g.met.K.KidPool.is_entry c.args.pool.now c.in-Some.at stands in
    let all : kid_count (kids_of (under g.K.KidPool.entries c.args.pool.now c.args.top))
    ≡ kid_count (kids_of (left_of at)) + 1 + kid_count (kids_of (right_of at)) =
    rw c.in-Some.is (count_entry at is) in
    let left = ap (λ (e : Entries). kid_count (kids_of e)) c.left-left.ensures.left in (
      omega (arith, all, left),
      (
        search rules,
        (
          search rules,
          (
            search rules,
            (
              c.left-left.ensures.stands,
              (
                omega (arith, all, left, c.requires.few),
                omega (arith, all, left, c.requires.places, c.left-left.ensures.places),
              ),
            ),
          ),
        ),
      ),
    )

pub count_under-after-requires : goal.count_under-after-requires
count_under-after-requires g t c κs within =
    let stands = rw c.in-Some.is at c.requires.stands in
    let at = g.K.KidPool.entries c.args.pool.now c.in-Some.at in
    let is = g.met.K.KidPool.is_entry c.args.pool.now c.in-Some.at stands in
    let all : kid_count (kids_of (under g.K.KidPool.entries c.args.pool.now c.args.top))
    ≡ kid_count (kids_of (left_of at)) + 1 + kid_count (kids_of (right_of at)) =
    rw c.in-Some.is (count_entry at is) in
    let left = ap (λ (e : Entries). kid_count (kids_of e)) c.left-left.ensures.left in
    let right = ap (λ (e : Entries). kid_count (kids_of e)) (c.right-right.ensures.right
    ∙ ap right_of (c.count_under-before.ensures.later.same c.in-Some.at
    (c.left-left.ensures.later.still c.in-Some.at stands)
    ∙ c.left-left.ensures.later.same c.in-Some.at stands)) in (
      omega (arith, all, right),
      (
        search rules,
        (
          search rules,
          (
            search rules,
            (
              c.right-right.ensures.stands,
              (
                omega (arith, all, right, c.requires.few),
                omega (
                  arith,
                  all,
                  left,
                  right,
                  c.requires.places,
                  c.left-left.ensures.places,
                  c.count_under-before.ensures.places,
                  c.right-right.ensures.places,
                ),
              ),
            ),
          ),
        ),
      ),
    )
