use Rattle.std.proofs.Common.{◌≡◌, ◌≤◌, ◌∙◌, ap, arith, rules, sym, tests}
use Rattle.doc_tree.specs.Tree.{IsRising, name_cmp}
use Rattle.kids_avl.specs.Entries.{entry, height_of, kids_of, name_of}
use Rattle.kids_avl.specs.Pool.{under}
use Rattle.kids_avl.proofs.Descents.{even_parts, later_then}
use Rattle.kids_avl.proofs.Descents.{rising_left_of, rising_right_of}
use Rattle.kids_avl.proofs.Heights.{entry_high}
use Rattle.kids_avl.proofs.Steps.{without_equal_done, without_left_done, without_left_ready}
use Rattle.kids_avl.proofs.Steps.{without_right_done, without_right_ready}
use Rattle.kids_avl.proofs.removing.+remove_under.Goals as goal

pub order-order-requires-clause-places : goal.order-order-requires-clause-places
order-order-requires-clause-places g t c =
    let stands = rw c.in-Some.is at c.requires.stands in
    let is = g.met.K.KidPool.is_entry c.args.pool.now c.in-Some.at stands in
    let h : 1 ≤ height_of (under g.K.KidPool.entries c.args.pool.now c.args.top) =
    rw c.in-Some.is (entry_high _ is) in
    omega (arith, h, c.requires.places)

pub joined-requires : goal.joined-requires
joined-requires g t c =
    let stands = rw c.in-Some.is at c.requires.stands in
    let later_order = c.order-order.ensures.later in
    record {
      like = c.remove_under-new.ensures.later.still c.in-Some.at
          (c.read_entry-entry.ensures.later.still c.in-Some.at (later_order.still c.in-Some.at stands));
      child = c.remove_under-new.ensures.later.child_still c.read_entry-entry.result.child
          c.read_entry-entry.ensures.child;
      left = c.remove_under-new.ensures.stands;
      right = c.remove_under-new.ensures.later.still_under c.read_entry-entry.result.right
          c.read_entry-entry.ensures.right;
      nearly =
          let later_read = c.read_entry-entry.ensures.later in
          let later_call = c.remove_under-new.ensures.later in
          let stands_order = later_order.still c.in-Some.at stands in
          let stands_read = later_read.still c.in-Some.at stands_order in
          without_left_ready _ _ _ _ _ _ _ _ _ _
          (ap (under g.K.KidPool.entries c.args.pool.now) c.in-Some.is
          ∙ sym (later_order.same c.in-Some.at stands) ∙ c.read_entry-entry.ensures.entry)
          c.requires.balanced c.requires.rising
          (ap (λ e. name_cmp c.args.name.now (name_of e)) (later_order.same c.in-Some.at stands)
          ∙ sym c.order-order.ensures.order ∙ c.in-Less.is)
          c.remove_under-new.ensures.without
          (ap name_of (later_call.same c.in-Some.at stands_read
          ∙ later_read.same c.in-Some.at stands_order))
          (later_call.child_same c.read_entry-entry.result.child c.read_entry-entry.ensures.child)
          (later_call.same_under c.read_entry-entry.result.right c.read_entry-entry.ensures.right);
      places = search (arith, rules, tests);
      records = search (arith, rules, tests);
    }

pub joined-requires-in-Greater : goal.joined-requires-in-Greater
joined-requires-in-Greater g t c =
    let stands = rw c.in-Some.is at c.requires.stands in
    let later_order = c.order-order.ensures.later in
    record {
      like = c.remove_under-new-in-Greater.ensures.later.still c.in-Some.at
          (c.read_entry-entry.ensures.later.still c.in-Some.at (later_order.still c.in-Some.at stands));
      child =
          c.remove_under-new-in-Greater.ensures.later.child_still c.read_entry-entry.result.child
          c.read_entry-entry.ensures.child;
      left = c.remove_under-new-in-Greater.ensures.later.still_under c.read_entry-entry.result.left
          c.read_entry-entry.ensures.left;
      right = c.remove_under-new-in-Greater.ensures.stands;
      nearly =
          let later_read = c.read_entry-entry.ensures.later in
          let later_call = c.remove_under-new-in-Greater.ensures.later in
          let stands_order = later_order.still c.in-Some.at stands in
          let stands_read = later_read.still c.in-Some.at stands_order in
          without_right_ready _ _ _ _ _ _ _ _ _ _
          (ap (under g.K.KidPool.entries c.args.pool.now) c.in-Some.is
          ∙ sym (later_order.same c.in-Some.at stands) ∙ c.read_entry-entry.ensures.entry)
          c.requires.balanced c.requires.rising
          (ap (λ e. name_cmp c.args.name.now (name_of e)) (later_order.same c.in-Some.at stands)
          ∙ sym c.order-order.ensures.order ∙ c.in-Greater.is)
          c.remove_under-new-in-Greater.ensures.without
          (ap name_of (later_call.same c.in-Some.at stands_read
          ∙ later_read.same c.in-Some.at stands_order))
          (later_call.child_same c.read_entry-entry.result.child c.read_entry-entry.ensures.child)
          (later_call.same_under c.read_entry-entry.result.left c.read_entry-entry.ensures.left);
      places = search (arith, rules, tests);
      records = search (arith, rules, tests);
    }

pub returns-in-Less-clause-without : goal.returns-in-Less-clause-without
returns-in-Less-clause-without g t c =
    let stands = rw c.in-Some.is at c.requires.stands in
    let later_order = c.order-order.ensures.later in
    let later_read = c.read_entry-entry.ensures.later in
    let later_call = c.remove_under-new.ensures.later in
    let stands_order = later_order.still c.in-Some.at stands in
    let stands_read = later_read.still c.in-Some.at stands_order in
    without_left_done _ _ _ _ _ _ _ _ _ _ _
    (ap (under g.K.KidPool.entries c.args.pool.now) c.in-Some.is
    ∙ sym (later_order.same c.in-Some.at stands) ∙ c.read_entry-entry.ensures.entry)
    c.requires.balanced c.requires.rising
    (ap (λ e. name_cmp c.args.name.now (name_of e)) (later_order.same c.in-Some.at stands)
    ∙ sym c.order-order.ensures.order ∙ c.in-Less.is)
    c.remove_under-new.ensures.without c.joined.ensures.even
    (ap name_of (later_call.same c.in-Some.at stands_read
    ∙ later_read.same c.in-Some.at stands_order))
    (later_call.child_same c.read_entry-entry.result.child c.read_entry-entry.ensures.child)
    (later_call.same_under c.read_entry-entry.result.right c.read_entry-entry.ensures.right)

pub returns-in-Greater-clause-without : goal.returns-in-Greater-clause-without
returns-in-Greater-clause-without g t c =
    let stands = rw c.in-Some.is at c.requires.stands in
    let later_order = c.order-order.ensures.later in
    let later_read = c.read_entry-entry.ensures.later in
    let later_call = c.remove_under-new-in-Greater.ensures.later in
    let stands_order = later_order.still c.in-Some.at stands in
    let stands_read = later_read.still c.in-Some.at stands_order in
    without_right_done _ _ _ _ _ _ _ _ _ _ _
    (ap (under g.K.KidPool.entries c.args.pool.now) c.in-Some.is
    ∙ sym (later_order.same c.in-Some.at stands) ∙ c.read_entry-entry.ensures.entry)
    c.requires.balanced c.requires.rising
    (ap (λ e. name_cmp c.args.name.now (name_of e)) (later_order.same c.in-Some.at stands)
    ∙ sym c.order-order.ensures.order ∙ c.in-Greater.is)
    c.remove_under-new-in-Greater.ensures.without c.joined-in-Greater.ensures.even
    (ap name_of (later_call.same c.in-Some.at stands_read
    ∙ later_read.same c.in-Some.at stands_order))
    (later_call.child_same c.read_entry-entry.result.child c.read_entry-entry.ensures.child)
    (later_call.same_under c.read_entry-entry.result.left c.read_entry-entry.ensures.left)

pub remove_under-new-requires : goal.remove_under-new-requires
remove_under-new-requires g t c κs within =
    let stands = rw c.in-Some.is at c.requires.stands in
    let later_order = c.order-order.ensures.later in
    let whole =
    ap (under g.K.KidPool.entries c.args.pool.now) c.in-Some.is
    ∙ sym (later_order.same c.in-Some.at stands) ∙ c.read_entry-entry.ensures.entry in
    let top = ap (λ o. height_of (under g.K.KidPool.entries c.args.pool.now o)) c.in-Some.is in
    let same = ap height_of (later_order.same c.in-Some.at stands) in
    let read = ap height_of c.read_entry-entry.ensures.entry in
    let even = even_parts _ _ _ _ _ whole c.requires.balanced in
    let rising = rising_left_of _ _ _ _ _ whole c.requires.rising in (
      omega (arith, top, same, read),
      (
        search rules,
        (
          search rules,
          (
            search rules,
            (
              c.read_entry-entry.ensures.left,
              (
                even.2,
                (
                  rising,
                  (
                    omega (
                      arith,
                      top,
                      same,
                      read,
                      c.requires.places,
                      c.order-order.ensures.places,
                      c.read_entry-entry.ensures.places,
                    ),
                    omega (
                      arith,
                      top,
                      same,
                      read,
                      c.requires.records,
                      c.order-order.ensures.records,
                      c.read_entry-entry.ensures.records,
                    ),
                  ),
                ),
              ),
            ),
          ),
        ),
      ),
    )

pub remove_under-new-requires-in-Greater : goal.remove_under-new-requires-in-Greater
remove_under-new-requires-in-Greater g t c κs within =
    let stands = rw c.in-Some.is at c.requires.stands in
    let later_order = c.order-order.ensures.later in
    let whole =
    ap (under g.K.KidPool.entries c.args.pool.now) c.in-Some.is
    ∙ sym (later_order.same c.in-Some.at stands) ∙ c.read_entry-entry.ensures.entry in
    let top = ap (λ o. height_of (under g.K.KidPool.entries c.args.pool.now o)) c.in-Some.is in
    let same = ap height_of (later_order.same c.in-Some.at stands) in
    let read = ap height_of c.read_entry-entry.ensures.entry in
    let even = even_parts _ _ _ _ _ whole c.requires.balanced in
    let rising = rising_right_of _ _ _ _ _ whole c.requires.rising in (
      omega (arith, top, same, read),
      (
        search rules,
        (
          search rules,
          (
            search rules,
            (
              c.read_entry-entry.ensures.right,
              (
                even.3,
                (
                  rising,
                  (
                    omega (
                      arith,
                      top,
                      same,
                      read,
                      c.requires.places,
                      c.order-order.ensures.places,
                      c.read_entry-entry.ensures.places,
                    ),
                    omega (
                      arith,
                      top,
                      same,
                      read,
                      c.requires.records,
                      c.order-order.ensures.records,
                      c.read_entry-entry.ensures.records,
                    ),
                  ),
                ),
              ),
            ),
          ),
        ),
      ),
    )

pub order-order-requires-clause-stands : goal.order-order-requires-clause-stands
order-order-requires-clause-stands g t c = rw c.in-Some.is at c.requires.stands

pub read_entry-entry-requires-clause-stands : goal.read_entry-entry-requires-clause-stands
read_entry-entry-requires-clause-stands g t c =
    let stands = rw c.in-Some.is at c.requires.stands in
    c.order-order.ensures.later.still c.in-Some.at stands

pub returns-in-Less-clause-stands : goal.returns-in-Less-clause-stands
returns-in-Less-clause-stands g t c = c.joined.ensures.stands

pub returns-in-Less-clause-later : goal.returns-in-Less-clause-later
returns-in-Less-clause-later g t c =
    later_then (later_then c.order-order.ensures.later c.read_entry-entry.ensures.later)
    (later_then c.remove_under-new.ensures.later c.joined.ensures.later)

pub returns-in-Greater-clause-stands : goal.returns-in-Greater-clause-stands
returns-in-Greater-clause-stands g t c = c.joined-in-Greater.ensures.stands

pub returns-in-Greater-clause-later : goal.returns-in-Greater-clause-later
returns-in-Greater-clause-later g t c =
    later_then (later_then c.order-order.ensures.later c.read_entry-entry.ensures.later)
    (later_then c.remove_under-new-in-Greater.ensures.later c.joined-in-Greater.ensures.later)

pub closed-requires-clause-balanced : goal.closed-requires-clause-balanced
closed-requires-clause-balanced g t c =
    let stands = rw c.in-Some.is at c.requires.stands in
    let later_order = c.order-order.ensures.later in
    let whole =
    ap (under g.K.KidPool.entries c.args.pool.now) c.in-Some.is
    ∙ sym (later_order.same c.in-Some.at stands) ∙ c.read_entry-entry.ensures.entry in
    even_parts _ _ _ _ _ whole c.requires.balanced

pub closed-requires-clause-rising : goal.closed-requires-clause-rising
closed-requires-clause-rising g t c =
    let stands = rw c.in-Some.is at c.requires.stands in
    let later_order = c.order-order.ensures.later in
    let later_read = c.read_entry-entry.ensures.later in
    let stands_order = later_order.still c.in-Some.at stands in
    let pool = c.read_entry-entry.new.pool in
    let sides = c.read_entry-entry.result in
    let name = name_of (g.K.KidPool.entries c.order-order.new.self c.in-Some.at) in
    let was = g.K.KidPool.tree pool sides.child in
    let left = under g.K.KidPool.entries pool sides.left in
    let right = under g.K.KidPool.entries pool sides.right in
    let whole : under g.K.KidPool.entries c.args.pool.now c.args.top
    ≡ entry name was left right =
    ap (under g.K.KidPool.entries c.args.pool.now) c.in-Some.is
    ∙ sym (later_order.same c.in-Some.at stands) ∙ c.read_entry-entry.ensures.entry in
    let rising : IsRising (kids_of (entry name was left right)) = rw whole at c.requires.rising in
    rw (later_read.same c.in-Some.at stands_order) rising

pub returns-in-Equal-clause-without : goal.returns-in-Equal-clause-without
returns-in-Equal-clause-without g t c =
    let stands = rw c.in-Some.is at c.requires.stands in
    let later_order = c.order-order.ensures.later in
    let later_read = c.read_entry-entry.ensures.later in
    let stands_order = later_order.still c.in-Some.at stands in
    let whole =
    ap (under g.K.KidPool.entries c.args.pool.now) c.in-Some.is
    ∙ sym (later_order.same c.in-Some.at stands) ∙ c.read_entry-entry.ensures.entry in
    without_equal_done _ _ _ _ _ _ _ _ whole c.requires.rising
    (ap (λ e. name_cmp c.args.name.now (name_of e)) (later_order.same c.in-Some.at stands)
    ∙ sym c.order-order.ensures.order ∙ c.in-Equal.is) c.closed.ensures.closed
    (ap name_of (later_read.same c.in-Some.at stands_order))

pub returns-in-Equal-clause-stands : goal.returns-in-Equal-clause-stands
returns-in-Equal-clause-stands g t c = c.closed.ensures.stands

pub returns-in-Equal-clause-later : goal.returns-in-Equal-clause-later
returns-in-Equal-clause-later g t c =
    later_then (later_then c.order-order.ensures.later c.read_entry-entry.ensures.later)
    c.closed.ensures.later
