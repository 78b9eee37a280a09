use Rattle.std.proofs.Common.{◌≡◌, ◌+◌, ◌≤◌, Some, ap, rules, subst, sym, ◌∙◌, arith}
use Rattle.std.specs.declared.cmp.Ordering.TheVariants.{Equal, Greater, Less}
use Rattle.doc_tree.specs.Tree.{DocTree, IsRising, child, name_cmp}
use Rattle.kids_avl.specs.Entries.{Entries, child_of, height_of, kids_of, left_of, name_of, right_of}
use Rattle.kids_avl.specs.Pool.{under}
use Rattle.kids_avl.proofs.Descents.{later_then}
use Rattle.kids_avl.proofs.Heights.{entry_high, left_lower, right_lower}
use Rattle.kids_avl.proofs.Lists.{child_equal, child_greater, child_less, rising_after, rising_before}
use Rattle.kids_avl.proofs.reading.+find_under.Goals as goal

pub order-requires-clause-places : goal.order-requires-clause-places
order-requires-clause-places g t c =
    let stands = rw c.in-Some.is at c.requires.stands in
    let is = g.met.K.KidPool.is_entry c.args.pool.now c.in-Some.at stands in
    let h : 1 ≤ height_of (under g.K.KidPool.entries c.args.pool.now c.args.top) =
    rw c.in-Some.is (entry_high _ is) in
    omega (arith, h, c.requires.places)

pub returns-in-Less-clause-child : goal.returns-in-Less-clause-child
returns-in-Less-clause-child g t c =
    let stands = rw c.in-Some.is at c.requires.stands in
    let pool = c.args.pool.now in
    let at = g.K.KidPool.entries pool c.in-Some.at in
    let rising : IsRising (kids_of at) = rw c.in-Some.is at c.requires.rising in
    let less : name_cmp c.args.name.now (name_of at) ≡ Less =
    ◌∙◌ {a = name_cmp c.args.name.now (name_of at)} (sym c.order.ensures.order) c.in-Less.is in
    cc (
      c.order.ensures.later.same c.in-Some.at stands,
      ap (under g.K.KidPool.entries pool) c.in-Some.is,
      child_less c.args.name.now at rising less,
    )

pub order-requires-clause-stands : goal.order-requires-clause-stands
order-requires-clause-stands g t c =
    rw c.in-Some.is at c.requires.stands

pub left-left-requires-clause-stands : goal.left-left-requires-clause-stands
left-left-requires-clause-stands g t c =
    let stands = rw c.in-Some.is at c.requires.stands in
    let later_order = c.order.ensures.later in
    later_order.still c.in-Some.at stands

pub returns-in-Less-clause-stands : goal.returns-in-Less-clause-stands
returns-in-Less-clause-stands g t c =
    c.find_under.ensures.stands

pub returns-in-Less-clause-later : goal.returns-in-Less-clause-later
returns-in-Less-clause-later g t c =
    later_then (later_then c.order.ensures.later c.left-left.ensures.later) c.find_under.ensures.later

pub right-right-requires-clause-stands : goal.right-right-requires-clause-stands
right-right-requires-clause-stands g t c =
    let stands = rw c.in-Some.is at c.requires.stands in
    let later_order = c.order.ensures.later in
    later_order.still c.in-Some.at stands

pub returns-in-Greater-clause-child : goal.returns-in-Greater-clause-child
returns-in-Greater-clause-child g t c =
    let stands = rw c.in-Some.is at c.requires.stands in
    let pool = c.args.pool.now in
    let at = g.K.KidPool.entries pool c.in-Some.at in
    let later_order = c.order.ensures.later in
    let same = later_order.same c.in-Some.at stands in
    let rising : IsRising (kids_of at) = rw c.in-Some.is at c.requires.rising in
    let order : name_cmp c.args.name.now (name_of at) ≡ Greater =
    ◌∙◌ {a = name_cmp c.args.name.now (name_of at)} (sym c.order.ensures.order) c.in-Greater.is in
    let side = c.right-right.ensures.right ∙ ap right_of same in
    let top = ap (under g.K.KidPool.entries pool) c.in-Some.is in
    c.find_under-in-Greater.ensures.child ∙ ap (λ (e : Entries). child c.args.name.now (kids_of e)) side
    ∙ sym (child_greater c.args.name.now at rising order)
    ∙ sym (ap (λ (e : Entries). child c.args.name.now (kids_of e)) top)

pub returns-in-Greater-clause-stands : goal.returns-in-Greater-clause-stands
returns-in-Greater-clause-stands g t c =
    c.find_under-in-Greater.ensures.stands

pub returns-in-Greater-clause-later : goal.returns-in-Greater-clause-later
returns-in-Greater-clause-later g t c =
    later_then (later_then c.order.ensures.later c.right-right.ensures.later) c.find_under-in-Greater.ensures.later

pub child-requires-clause-stands : goal.child-requires-clause-stands
child-requires-clause-stands g t c =
    let stands = rw c.in-Some.is at c.requires.stands in
    let later_order = c.order.ensures.later in
    later_order.still c.in-Some.at stands

pub returns-in-Equal-clause-child : goal.returns-in-Equal-clause-child
returns-in-Equal-clause-child g t c =
    let stands = rw c.in-Some.is at c.requires.stands in
    let pool = c.args.pool.now in
    let at = g.K.KidPool.entries pool c.in-Some.at in
    let later_order = c.order.ensures.later in
    let same = later_order.same c.in-Some.at stands in
    let rising : IsRising (kids_of at) = rw c.in-Some.is at c.requires.rising in
    let is = g.met.K.KidPool.is_entry pool c.in-Some.at stands in
    let order : name_cmp c.args.name.now (name_of at) ≡ Equal =
    ◌∙◌ {a = name_cmp c.args.name.now (name_of at)} (sym c.order.ensures.order) c.in-Equal.is in
    let top = ap (under g.K.KidPool.entries pool) c.in-Some.is in
    ap (λ (d : DocTree). Some d) (c.child.ensures.child ∙ ap child_of same)
    ∙ sym (child_equal c.args.name.now at is rising order)
    ∙ sym (ap (λ (e : Entries). child c.args.name.now (kids_of e)) top)

pub returns-in-Equal-clause-later : goal.returns-in-Equal-clause-later
returns-in-Equal-clause-later g t c =
    later_then c.order.ensures.later c.child.ensures.later

pub find_under-requires : goal.find_under-requires
find_under-requires g t c κs within =
    let stands = rw c.in-Some.is at c.requires.stands in
    let pool = c.args.pool.now in
    let at = g.K.KidPool.entries pool c.in-Some.at in
    let same = c.order.ensures.later.same c.in-Some.at stands in
    let is = g.met.K.KidPool.is_entry pool c.in-Some.at stands in
    let side = c.left-left.ensures.left ∙ ap left_of same in
    let rising : IsRising (kids_of at) = rw c.in-Some.is at c.requires.rising in
    let low : height_of (left_of at) + 1 ≤ height_of (under g.K.KidPool.entries pool c.args.top) =
    rw c.in-Some.is (left_lower at is) in
    let high = ap height_of side in (
      omega (arith, low, high),
      (
        search rules,
        (
          search rules,
          (
            search rules,
            (
              c.left-left.ensures.stands,
              (
                subst (λ (e : Entries). IsRising (kids_of e)) (sym side) (rising_before at rising),
                omega (
                  arith,
                  low,
                  high,
                  c.requires.places,
                  c.order.ensures.places,
                  c.left-left.ensures.places,
                ),
              ),
            ),
          ),
        ),
      ),
    )

pub find_under-requires-in-Greater : goal.find_under-requires-in-Greater
find_under-requires-in-Greater g t c κs within =
    let stands = rw c.in-Some.is at c.requires.stands in
    let pool = c.args.pool.now in
    let at = g.K.KidPool.entries pool c.in-Some.at in
    let same = c.order.ensures.later.same c.in-Some.at stands in
    let is = g.met.K.KidPool.is_entry pool c.in-Some.at stands in
    let side = c.right-right.ensures.right ∙ ap right_of same in
    let rising : IsRising (kids_of at) = rw c.in-Some.is at c.requires.rising in
    let low : height_of (right_of at) + 1 ≤ height_of (under g.K.KidPool.entries pool c.args.top) =
    rw c.in-Some.is (right_lower at is) in
    let high = ap height_of side in (
      omega (arith, low, high),
      (
        search rules,
        (
          search rules,
          (
            search rules,
            (
              c.right-right.ensures.stands,
              (
                subst (λ (e : Entries). IsRising (kids_of e)) (sym side) (rising_after at rising),
                omega (
                  arith,
                  low,
                  high,
                  c.requires.places,
                  c.order.ensures.places,
                  c.right-right.ensures.places,
                ),
              ),
            ),
          ),
        ),
      ),
    )
