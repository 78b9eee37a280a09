use Rattle.std.proofs.Common.{◌∙◌, ap, arith, refl, subst, sym, rules, tests}
use Rattle.kids_avl.specs.Changes.{IsEven, IsNearly}
use Rattle.kids_avl.specs.Entries.{Entries, height_of, name_of}
use Rattle.kids_avl.specs.Pool.{Later, under}
use Rattle.kids_avl.proofs.Descents.{later_then}
use Rattle.kids_avl.proofs.Turns.{same_entry}
use Rattle.kids_avl.proofs.turning.turned_right.Goals as goal
use Rattle.kids_avl.proofs.turning.turned_right.Goals.{in-Some+else-outer-height, in_default}

pub twice_right-requires : goal.twice_right-requires
twice_right-requires g c =
    let later_side = c.read_entry-side.ensures.later in
    let later_outer = c.height_under-outer.ensures.later in
    let later_high = c.height.ensures.later in
    let later_mid = c.read_entry-mid.ensures.later in
    let below = later_then later_outer (later_then later_high later_mid) in
    let all = later_then later_side below in
    let side = c.read_entry-side.result in
    let middle = c.in-Some.middle in
    let up = later_then later_outer later_high in
    let stands : g.K.KidPool.stands c.read_entry-side.new.pool middle =
    rw c.in-Some.is at c.read_entry-side.ensures.right in
    let inner = same_entry _ _ _ _ _ _ _ _
    (ap name_of (later_mid.same middle (up.still middle stands))) refl refl refl
    ∙ sym c.read_entry-mid.ensures.entry ∙ up.same middle stands
    ∙ sym (ap (under g.K.KidPool.entries c.read_entry-side.new.pool) c.in-Some.is) in
    let outer = below.same_under side.left c.read_entry-side.ensures.left in
    let top = same_entry _ _ _ _ _ _ _ _ (ap name_of (all.same c.args.top c.requires.top))
    (below.child_same side.child c.read_entry-side.ensures.child) outer inner
    ∙ sym c.read_entry-side.ensures.entry in
    let other = all.same_under c.args.right c.requires.right in
    record {
      like = all.still c.args.like c.requires.like;
      child = all.child_still c.args.child c.requires.child;
      top = all.still c.args.top c.requires.top;
      top_child = below.child_still c.read_entry-side.result.child c.read_entry-side.ensures.child;
      outer = below.still_under c.read_entry-side.result.left c.read_entry-side.ensures.left;
      middle = below.still c.in-Some.middle (rw c.in-Some.is at c.read_entry-side.ensures.right);
      middle_child = search (arith, rules, tests);
      before = search (arith, rules, tests);
      after = search (arith, rules, tests);
      right = all.still_under c.args.right c.requires.right;
      nearly =
          let whole = same_entry _ _ _ _ _ _ _ _ (ap name_of (all.same c.args.like c.requires.like))
          (all.child_same c.args.child c.requires.child) top other in
          subst IsNearly (sym whole) c.requires.nearly;
      high = omega (arith, ap height_of top, ap height_of other, c.requires.high);
      inner_high = omega (
        arith,
        ap height_of inner,
        ap height_of outer,
        ap height_of (later_outer.same middle stands),
        ap (λ o. height_of (under g.K.KidPool.entries c.read_entry-side.new.pool o)) c.in-Some.is,
        c.height_under-outer.ensures.height,
        c.height.ensures.height,
        c.if-outer-height.true,
      );
      places = search (arith, rules, tests);
      records = search (arith, rules, tests);
    }

pub returns-then-outer-height : goal.returns-then-outer-height
returns-then-outer-height g c =
    let later_side = c.read_entry-side.ensures.later in
    let later_outer = c.height_under-outer.ensures.later in
    let later_high = c.height.ensures.later in
    let later_mid = c.read_entry-mid.ensures.later in
    let below = later_then later_outer (later_then later_high later_mid) in
    let all = later_then later_side below in
    record {
      even =
          let side = c.read_entry-side.result in
          let middle = c.in-Some.middle in
          let up = later_then later_outer later_high in
          let stands : g.K.KidPool.stands c.read_entry-side.new.pool middle =
          rw c.in-Some.is at c.read_entry-side.ensures.right in
          let inner = same_entry _ _ _ _ _ _ _ _
          (ap name_of (later_mid.same middle (up.still middle stands))) refl refl refl
          ∙ sym c.read_entry-mid.ensures.entry ∙ up.same middle stands
          ∙ sym (ap (under g.K.KidPool.entries c.read_entry-side.new.pool) c.in-Some.is) in
          let outer = below.same_under side.left c.read_entry-side.ensures.left in
          let top = same_entry _ _ _ _ _ _ _ _ (ap name_of (all.same c.args.top c.requires.top))
          (below.child_same side.child c.read_entry-side.ensures.child) outer inner
          ∙ sym c.read_entry-side.ensures.entry in
          let other = all.same_under c.args.right c.requires.right in
          let whole = same_entry _ _ _ _ _ _ _ _ (ap name_of (all.same c.args.like c.requires.like))
          (all.child_same c.args.child c.requires.child) top other in
          let new = g.K.KidPool.entries c.twice_right.new.pool c.twice_right.result in
          subst (λ (t : Entries). IsEven t new) whole c.twice_right.ensures.even;
      stands = search (arith, rules, tests);
      later = later_then all c.twice_right.ensures.later;
      places = search (arith, rules, tests);
      records = search (arith, rules, tests);
      made = search (arith, rules, tests);
    }

pub once_right-requires : goal.once_right-requires
once_right-requires g c =
    let below : Later g.K.KidPool.stands g.K.KidPool.entries g.K.KidPool.is_child g.K.KidPool.tree
    g.K.KidPool.kept c.read_entry-side.new.pool c.match-side.pool =
    elim c.match-side.branch [
      | in-Some+else-outer-height w ↦
          rw w.pool-is (later_then c.height_under-outer.ensures.later w.height.ensures.later)
      | in_default w ↦ rw w.pool-is c.height_under-outer.ensures.later
    ] in
    let all = later_then c.read_entry-side.ensures.later below in
    let side = c.read_entry-side.result in
    let top = same_entry _ _ _ _ _ _ _ _ (ap name_of (all.same c.args.top c.requires.top))
    (below.child_same side.child c.read_entry-side.ensures.child)
    (below.same_under side.left c.read_entry-side.ensures.left)
    (below.same_under side.right c.read_entry-side.ensures.right)
    ∙ sym c.read_entry-side.ensures.entry in
    let other = all.same_under c.args.right c.requires.right in
    record {
      like = all.still c.args.like c.requires.like;
      child = all.child_still c.args.child c.requires.child;
      top = all.still c.args.top c.requires.top;
      top_child = below.child_still c.read_entry-side.result.child c.read_entry-side.ensures.child;
      before = below.still_under c.read_entry-side.result.left c.read_entry-side.ensures.left;
      after = below.still_under c.read_entry-side.result.right c.read_entry-side.ensures.right;
      right = all.still_under c.args.right c.requires.right;
      nearly =
          let whole = same_entry _ _ _ _ _ _ _ _ (ap name_of (all.same c.args.like c.requires.like))
          (all.child_same c.args.child c.requires.child) top other in
          subst IsNearly (sym whole) c.requires.nearly;
      high = omega (arith, ap height_of top, ap height_of other, c.requires.high);
      outer_high = search (arith, rules, tests);
      places = search (arith, rules, tests);
      records = search (arith, rules, tests);
    }

pub returns : goal.returns
returns g c =
    let below : Later g.K.KidPool.stands g.K.KidPool.entries g.K.KidPool.is_child g.K.KidPool.tree
    g.K.KidPool.kept c.read_entry-side.new.pool c.match-side.pool =
    elim c.match-side.branch [
      | in-Some+else-outer-height w ↦
          rw w.pool-is (later_then c.height_under-outer.ensures.later w.height.ensures.later)
      | in_default w ↦ rw w.pool-is c.height_under-outer.ensures.later
    ] in
    let all = later_then c.read_entry-side.ensures.later below in
    record {
      even =
          let side = c.read_entry-side.result in
          let top = same_entry _ _ _ _ _ _ _ _ (ap name_of (all.same c.args.top c.requires.top))
          (below.child_same side.child c.read_entry-side.ensures.child)
          (below.same_under side.left c.read_entry-side.ensures.left)
          (below.same_under side.right c.read_entry-side.ensures.right)
          ∙ sym c.read_entry-side.ensures.entry in
          let other = all.same_under c.args.right c.requires.right in
          let whole = same_entry _ _ _ _ _ _ _ _ (ap name_of (all.same c.args.like c.requires.like))
          (all.child_same c.args.child c.requires.child) top other in
          let new = g.K.KidPool.entries c.once_right.new.pool c.once_right.result in
          subst (λ (t : Entries). IsEven t new) whole c.once_right.ensures.even;
      stands = search (arith, rules, tests);
      later = later_then all c.once_right.ensures.later;
      places = search (arith, rules, tests);
      records = search (arith, rules, tests);
      made = search (arith, rules, tests);
    }
