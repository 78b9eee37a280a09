use Rattle.std.proofs.Common.{ap, sym, ◌∙◌, subst, arith, rules, tests}
use Rattle.doc_tree.specs.Tree.{IsRising}
use Rattle.kids_avl.specs.Changes.{IsEven}
use Rattle.kids_avl.specs.Entries.{Entries, kids_of, name_of, IsBalanced}
use Rattle.kids_avl.proofs.Turns.{twice_right_even, twice_right_high, twice_right_high_rising}
use Rattle.kids_avl.proofs.Turns.{twice_right_low, twice_right_low_rising, rising_row}
use Rattle.kids_avl.proofs.Turns.{same_entry}
use Rattle.kids_avl.proofs.turning.twice_right.Goals as goal

pub make_like-low-requires-clause-balanced : goal.make_like-low-requires-clause-balanced
make_like-low-requires-clause-balanced g c =
    twice_right_low _ _ _ _ _ _ _ _ _ _ c.requires.nearly c.requires.high c.requires.inner_high

pub make_like-low-requires-clause-ordered : goal.make_like-low-requires-clause-ordered
make_like-low-requires-clause-ordered g c =
    twice_right_low_rising _ _ _ _ _ _ _ _ _ _ c.requires.nearly

pub make_like-high-requires-clause-balanced : goal.make_like-high-requires-clause-balanced
make_like-high-requires-clause-balanced g c =
    let later = c.make_like-low.ensures.later in
    let high = same_entry _ _ _ _ _ _ _ _ (ap name_of (later.same c.args.like c.requires.like))
    (later.child_same c.args.child c.requires.child)
    (later.same_under c.args.mid.right c.requires.after)
    (later.same_under c.args.right c.requires.right) in
    subst IsBalanced (sym high)
    (twice_right_high _ _ _ _ _ _ _ _ _ _ c.requires.nearly c.requires.high c.requires.inner_high)

pub make_like-high-requires-clause-ordered : goal.make_like-high-requires-clause-ordered
make_like-high-requires-clause-ordered g c =
    let later = c.make_like-low.ensures.later in
    let high = same_entry _ _ _ _ _ _ _ _ (ap name_of (later.same c.args.like c.requires.like))
    (later.child_same c.args.child c.requires.child)
    (later.same_under c.args.mid.right c.requires.after)
    (later.same_under c.args.right c.requires.right) in
    subst (λ (t : Entries). IsRising (kids_of t)) (sym high)
    (twice_right_high_rising _ _ _ _ _ _ _ _ _ _ c.requires.nearly)

pub make_like-requires : goal.make_like-requires
make_like-requires g c =
    let later = c.make_like-low.ensures.later in
    let high = same_entry _ _ _ _ _ _ _ _ (ap name_of (later.same c.args.like c.requires.like))
    (later.child_same c.args.child c.requires.child)
    (later.same_under c.args.mid.right c.requires.after)
    (later.same_under c.args.right c.requires.right) in
    let last = c.make_like-high.ensures.later in
    let same = same_entry _ _ _ _ _ _ _ _
    (ap name_of (last.same c.args.middle (later.still c.args.middle c.requires.middle)
    ∙ later.same c.args.middle c.requires.middle))
    (last.child_same c.args.mid.child (later.child_still c.args.mid.child c.requires.middle_child)
    ∙ later.child_same c.args.mid.child c.requires.middle_child)
    (last.same c.make_like-low.result c.make_like-low.ensures.stands
    ∙ c.make_like-low.ensures.entry) (c.make_like-high.ensures.entry ∙ high) in
    let even = twice_right_even _ _ _ _ _ _ _ _ _ _ c.requires.nearly c.requires.high
    c.requires.inner_high in
    record {
      like = search (arith, rules, tests);
      child = search (arith, rules, tests);
      left = search (arith, rules, tests);
      right = search (arith, rules, tests);
      balanced = subst IsBalanced (sym same) even.balanced;
      ordered = subst (λ (t : Entries). IsRising (kids_of t)) (sym same)
          (rising_row _ _ even c.requires.nearly);
      places = search (arith, rules, tests);
      records = search (arith, rules, tests);
    }

pub returns-clause-even : goal.returns-clause-even
returns-clause-even g c =
    let later = c.make_like-low.ensures.later in
    let high = same_entry _ _ _ _ _ _ _ _ (ap name_of (later.same c.args.like c.requires.like))
    (later.child_same c.args.child c.requires.child)
    (later.same_under c.args.mid.right c.requires.after)
    (later.same_under c.args.right c.requires.right) in
    let last = c.make_like-high.ensures.later in
    let same = same_entry _ _ _ _ _ _ _ _
    (ap name_of (last.same c.args.middle (later.still c.args.middle c.requires.middle)
    ∙ later.same c.args.middle c.requires.middle))
    (last.child_same c.args.mid.child (later.child_still c.args.mid.child c.requires.middle_child)
    ∙ later.child_same c.args.mid.child c.requires.middle_child)
    (last.same c.make_like-low.result c.make_like-low.ensures.stands
    ∙ c.make_like-low.ensures.entry) (c.make_like-high.ensures.entry ∙ high) in
    let even = twice_right_even _ _ _ _ _ _ _ _ _ _ c.requires.nearly c.requires.high
    c.requires.inner_high in
    subst (IsEven _) (sym (c.make_like.ensures.entry ∙ same)) even
