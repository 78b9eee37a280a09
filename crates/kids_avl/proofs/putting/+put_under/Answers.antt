use Rattle.std.proofs.Common.{◌≡◌, ◌≤◌, ap, sym, ◌∙◌, arith, rules, tests}
use Rattle.doc_tree.specs.Tree.{name_cmp, IsRising}
use Rattle.kids_avl.specs.Entries.{entry, kids_of, height_of, name_of}
use Rattle.kids_avl.specs.Pool.{under}
use Rattle.kids_avl.proofs.Descents.{even_parts, later_then, put_left_ready}
use Rattle.kids_avl.proofs.Descents.{put_right_ready, rising_left_of, rising_right_of}
use Rattle.kids_avl.proofs.Heights.{entry_high}
use Rattle.kids_avl.proofs.Steps.{put_equal_done, put_left_done, put_right_done, rising_other}
use Rattle.kids_avl.proofs.putting.+put_under.Goals as goal

pub order-order-requires-clause-places : goal.order-order-requires-clause-places
order-order-requires-clause-places g t c =
    let stands = rw c.in-Some.is at c.requires.stands in
    let is = g.met.K.KidPool.is_entry c.args.pool.now c.in-Some.at stands in
    let h : 1 ≤ height_of (under g.K.KidPool.entries c.args.pool.now c.args.top) =
    rw c.in-Some.is (entry_high _ is) in
    omega (arith, h, c.requires.places)

pub make_like-requires : goal.make_like-requires
make_like-requires g t c =
    let stands = rw c.in-Some.is at c.requires.stands in
    let later_order = c.order-order.ensures.later in
    let later_read = c.read_entry-entry.ensures.later in
    let stands_order = later_order.still c.in-Some.at stands in
    record {
      like = later_read.still c.in-Some.at stands_order;
      child = later_read.child_still c.args.child
          (later_order.child_still c.args.child c.requires.child);
      left = c.read_entry-entry.ensures.left;
      right = c.read_entry-entry.ensures.right;
      balanced =
          let whole =
          ap (under g.K.KidPool.entries c.args.pool.now) c.in-Some.is
          ∙ sym (later_order.same c.in-Some.at stands) ∙ c.read_entry-entry.ensures.entry in
          even_parts _ _ _ _ _ whole c.requires.balanced;
      ordered =
          let name = name_of (g.K.KidPool.entries c.order-order.new.self c.in-Some.at) in
          let was = g.K.KidPool.tree c.read_entry-entry.new.pool c.read_entry-entry.result.child in
          let child = g.K.KidPool.tree c.read_entry-entry.new.pool c.args.child in
          let left = under g.K.KidPool.entries c.read_entry-entry.new.pool
          c.read_entry-entry.result.left in
          let right = under g.K.KidPool.entries c.read_entry-entry.new.pool
          c.read_entry-entry.result.right in
          let whole : under g.K.KidPool.entries c.args.pool.now c.args.top
          ≡ entry name was left right =
          ap (under g.K.KidPool.entries c.args.pool.now) c.in-Some.is
          ∙ sym (later_order.same c.in-Some.at stands) ∙ c.read_entry-entry.ensures.entry in
          let rising : IsRising (kids_of (entry name was left right)) = rw whole at c.requires.rising in
          rw (later_read.same c.in-Some.at stands_order)
          (rising_other name was child left right rising);
      places = search (arith, rules, tests);
      records = search (arith, rules, tests);
    }

pub returns-in-Less-clause-put : goal.returns-in-Less-clause-put
returns-in-Less-clause-put g t c =
    let stands = rw c.in-Some.is at c.requires.stands in
    let later_order = c.order-order.ensures.later in
    let later_read = c.read_entry-entry.ensures.later in
    let later_call = c.put_under-new.ensures.later in
    let stands_order = later_order.still c.in-Some.at stands in
    let stands_read = later_read.still c.in-Some.at stands_order in
    put_left_done _ _ _ _ _ _ _ _ _ _ _ _ _
    (ap (under g.K.KidPool.entries c.args.pool.now) c.in-Some.is
    ∙ sym (later_order.same c.in-Some.at stands) ∙ c.read_entry-entry.ensures.entry)
    c.requires.balanced c.requires.rising
    (ap (λ e. name_cmp c.args.name.now (name_of e)) (later_order.same c.in-Some.at stands)
    ∙ sym c.order-order.ensures.order ∙ c.in-Less.is)
    c.put_under-new.ensures.put
    (later_read.child_same c.args.child (later_order.child_still c.args.child c.requires.child)
    ∙ later_order.child_same c.args.child c.requires.child) c.joined.ensures.even
    (ap name_of (later_call.same c.in-Some.at stands_read
    ∙ later_read.same c.in-Some.at stands_order))
    (later_call.child_same c.read_entry-entry.result.child c.read_entry-entry.ensures.child)
    (later_call.same_under c.read_entry-entry.result.right c.read_entry-entry.ensures.right)

pub returns-in-Greater-clause-put : goal.returns-in-Greater-clause-put
returns-in-Greater-clause-put g t c =
    let stands = rw c.in-Some.is at c.requires.stands in
    let later_order = c.order-order.ensures.later in
    let later_read = c.read_entry-entry.ensures.later in
    let later_call = c.put_under-new-in-Greater.ensures.later in
    let stands_order = later_order.still c.in-Some.at stands in
    let stands_read = later_read.still c.in-Some.at stands_order in
    put_right_done _ _ _ _ _ _ _ _ _ _ _ _ _
    (ap (under g.K.KidPool.entries c.args.pool.now) c.in-Some.is
    ∙ sym (later_order.same c.in-Some.at stands) ∙ c.read_entry-entry.ensures.entry)
    c.requires.balanced c.requires.rising
    (ap (λ e. name_cmp c.args.name.now (name_of e)) (later_order.same c.in-Some.at stands)
    ∙ sym c.order-order.ensures.order ∙ c.in-Greater.is)
    c.put_under-new-in-Greater.ensures.put
    (later_read.child_same c.args.child (later_order.child_still c.args.child c.requires.child)
    ∙ later_order.child_same c.args.child c.requires.child) c.joined-in-Greater.ensures.even
    (ap name_of (later_call.same c.in-Some.at stands_read
    ∙ later_read.same c.in-Some.at stands_order))
    (later_call.child_same c.read_entry-entry.result.child c.read_entry-entry.ensures.child)
    (later_call.same_under c.read_entry-entry.result.left c.read_entry-entry.ensures.left)

pub returns-in-Equal-clause-put : goal.returns-in-Equal-clause-put
returns-in-Equal-clause-put g t c =
    let stands = rw c.in-Some.is at c.requires.stands in
    let later_order = c.order-order.ensures.later in
    let later_read = c.read_entry-entry.ensures.later in
    let stands_order = later_order.still c.in-Some.at stands in
    put_equal_done _ _ _ _ _ _ _ _ _ _
    (ap (under g.K.KidPool.entries c.args.pool.now) c.in-Some.is
    ∙ sym (later_order.same c.in-Some.at stands) ∙ c.read_entry-entry.ensures.entry)
    c.requires.balanced c.requires.rising
    (ap (λ e. name_cmp c.args.name.now (name_of e)) (later_order.same c.in-Some.at stands)
    ∙ sym c.order-order.ensures.order ∙ c.in-Equal.is)
    (later_read.child_same c.args.child (later_order.child_still c.args.child c.requires.child)
    ∙ later_order.child_same c.args.child c.requires.child)
    (ap name_of (later_read.same c.in-Some.at stands_order)) c.make_like.ensures.entry

pub order-order-requires-clause-stands : goal.order-order-requires-clause-stands
order-order-requires-clause-stands g t c =
    rw c.in-Some.is at c.requires.stands

pub read_entry-entry-requires-clause-stands : goal.read_entry-entry-requires-clause-stands
read_entry-entry-requires-clause-stands g t c =
    let stands = rw c.in-Some.is at c.requires.stands in
    let later_order = c.order-order.ensures.later in
    later_order.still c.in-Some.at stands

pub joined-requires : goal.joined-requires
joined-requires g t c =
    let stands = rw c.in-Some.is at c.requires.stands in
    let later_order = c.order-order.ensures.later in
    let later_read = c.read_entry-entry.ensures.later in
    let later_call = c.put_under-new.ensures.later in
    let stands_order = later_order.still c.in-Some.at stands in
    let stands_read = later_read.still c.in-Some.at stands_order in
    record {
      like = later_call.still c.in-Some.at stands_read;
      child =
          later_call.child_still c.read_entry-entry.result.child c.read_entry-entry.ensures.child;
      left = c.put_under-new.ensures.stands;
      right =
          later_call.still_under c.read_entry-entry.result.right c.read_entry-entry.ensures.right;
      nearly =
          let whole =
          ap (under g.K.KidPool.entries c.args.pool.now) c.in-Some.is
          ∙ sym (later_order.same c.in-Some.at stands) ∙ c.read_entry-entry.ensures.entry in
          put_left_ready _ _ _ _ _ _ _ _ _ _ _
          whole c.requires.balanced c.requires.rising
          (ap (λ e. name_cmp c.args.name.now (name_of e)) (later_order.same c.in-Some.at stands)
          ∙ sym c.order-order.ensures.order ∙ c.in-Less.is)
          c.put_under-new.ensures.put
          (ap name_of (later_call.same c.in-Some.at stands_read
          ∙ later_read.same c.in-Some.at stands_order))
          (later_call.child_same c.read_entry-entry.result.child c.read_entry-entry.ensures.child)
          (later_call.same_under c.read_entry-entry.result.right c.read_entry-entry.ensures.right);
      places = search (arith, rules, tests);
      records = search (arith, rules, tests);
    }

pub returns-in-Less-clause-stands : goal.returns-in-Less-clause-stands
returns-in-Less-clause-stands g t c =
    c.joined.ensures.stands

pub returns-in-Less-clause-later : goal.returns-in-Less-clause-later
returns-in-Less-clause-later g t c =
    later_then (later_then c.order-order.ensures.later c.read_entry-entry.ensures.later)
    (later_then c.put_under-new.ensures.later c.joined.ensures.later)

pub joined-requires-in-Greater : goal.joined-requires-in-Greater
joined-requires-in-Greater g t c =
    let stands = rw c.in-Some.is at c.requires.stands in
    let later_order = c.order-order.ensures.later in
    let later_read = c.read_entry-entry.ensures.later in
    let later_call = c.put_under-new-in-Greater.ensures.later in
    let stands_order = later_order.still c.in-Some.at stands in
    let stands_read = later_read.still c.in-Some.at stands_order in
    record {
      like = later_call.still c.in-Some.at stands_read;
      child =
          later_call.child_still c.read_entry-entry.result.child c.read_entry-entry.ensures.child;
      left = later_call.still_under c.read_entry-entry.result.left c.read_entry-entry.ensures.left;
      right = c.put_under-new-in-Greater.ensures.stands;
      nearly =
          let whole =
          ap (under g.K.KidPool.entries c.args.pool.now) c.in-Some.is
          ∙ sym (later_order.same c.in-Some.at stands) ∙ c.read_entry-entry.ensures.entry in
          put_right_ready _ _ _ _ _ _ _ _ _ _ _
          whole c.requires.balanced c.requires.rising
          (ap (λ e. name_cmp c.args.name.now (name_of e)) (later_order.same c.in-Some.at stands)
          ∙ sym c.order-order.ensures.order ∙ c.in-Greater.is)
          c.put_under-new-in-Greater.ensures.put
          (ap name_of (later_call.same c.in-Some.at stands_read
          ∙ later_read.same c.in-Some.at stands_order))
          (later_call.child_same c.read_entry-entry.result.child c.read_entry-entry.ensures.child)
          (later_call.same_under c.read_entry-entry.result.left c.read_entry-entry.ensures.left);
      places = search (arith, rules, tests);
      records = search (arith, rules, tests);
    }

pub returns-in-Greater-clause-stands : goal.returns-in-Greater-clause-stands
returns-in-Greater-clause-stands g t c =
    c.joined-in-Greater.ensures.stands

pub returns-in-Greater-clause-later : goal.returns-in-Greater-clause-later
returns-in-Greater-clause-later g t c =
    later_then (later_then c.order-order.ensures.later c.read_entry-entry.ensures.later)
    (later_then c.put_under-new-in-Greater.ensures.later c.joined-in-Greater.ensures.later)

pub returns-in-Equal-clause-stands : goal.returns-in-Equal-clause-stands
returns-in-Equal-clause-stands g t c =
    c.make_like.ensures.stands

pub returns-in-Equal-clause-later : goal.returns-in-Equal-clause-later
returns-in-Equal-clause-later g t c =
    later_then (later_then c.order-order.ensures.later c.read_entry-entry.ensures.later)
    c.make_like.ensures.later

pub put_under-new-requires : goal.put_under-new-requires
put_under-new-requires g t c κs within =
    let stands = rw c.in-Some.is at c.requires.stands in
    let later_order = c.order-order.ensures.later in
    let whole =
    ap (under g.K.KidPool.entries c.args.pool.now) c.in-Some.is
    ∙ sym (later_order.same c.in-Some.at stands) ∙ c.read_entry-entry.ensures.entry in
    let top = ap (λ o. height_of (under g.K.KidPool.entries c.args.pool.now o)) c.in-Some.is in
    let same = ap height_of (later_order.same c.in-Some.at stands) in
    let read = ap height_of c.read_entry-entry.ensures.entry in
    let even = even_parts _ _ _ _ _ whole c.requires.balanced in
    let rising = rising_left_of _ _ _ _ _ whole c.requires.rising in
    let child = c.read_entry-entry.ensures.later.child_still c.args.child
    (later_order.child_still c.args.child c.requires.child) in (
      omega (arith, top, same, read),
      (
        search rules,
        (
          search rules,
          (
            search rules,
            (
              c.read_entry-entry.ensures.left,
              (
                child,
                (
                  even.2,
                  (
                    rising,
                    (
                      omega (
                        arith,
                        top,
                        same,
                        read,
                        c.requires.places,
                        c.order-order.ensures.places,
                        c.read_entry-entry.ensures.places,
                      ),
                      omega (
                        arith,
                        top,
                        same,
                        read,
                        c.requires.records,
                        c.order-order.ensures.records,
                        c.read_entry-entry.ensures.records,
                      ),
                    ),
                  ),
                ),
              ),
            ),
          ),
        ),
      ),
    )

pub put_under-new-requires-in-Greater : goal.put_under-new-requires-in-Greater
put_under-new-requires-in-Greater g t c κs within =
    let stands = rw c.in-Some.is at c.requires.stands in
    let later_order = c.order-order.ensures.later in
    let whole =
    ap (under g.K.KidPool.entries c.args.pool.now) c.in-Some.is
    ∙ sym (later_order.same c.in-Some.at stands) ∙ c.read_entry-entry.ensures.entry in
    let top = ap (λ o. height_of (under g.K.KidPool.entries c.args.pool.now o)) c.in-Some.is in
    let same = ap height_of (later_order.same c.in-Some.at stands) in
    let read = ap height_of c.read_entry-entry.ensures.entry in
    let even = even_parts _ _ _ _ _ whole c.requires.balanced in
    let rising = rising_right_of _ _ _ _ _ whole c.requires.rising in
    let child = c.read_entry-entry.ensures.later.child_still c.args.child
    (later_order.child_still c.args.child c.requires.child) in (
      omega (arith, top, same, read),
      (
        search rules,
        (
          search rules,
          (
            search rules,
            (
              c.read_entry-entry.ensures.right,
              (
                child,
                (
                  even.3,
                  (
                    rising,
                    (
                      omega (
                        arith,
                        top,
                        same,
                        read,
                        c.requires.places,
                        c.order-order.ensures.places,
                        c.read_entry-entry.ensures.places,
                      ),
                      omega (
                        arith,
                        top,
                        same,
                        read,
                        c.requires.records,
                        c.order-order.ensures.records,
                        c.read_entry-entry.ensures.records,
                      ),
                    ),
                  ),
                ),
              ),
            ),
          ),
        ),
      ),
    )
