use Rattle.std.proofs.Common.{ap, sym, ◌∙◌, subst}
use Rattle.doc_tree.specs.Tree.{IsRising}
use Rattle.kids_avl.specs.Changes.{IsEven}
use Rattle.kids_avl.specs.Entries.{Entries, kids_of, name_of, IsBalanced}
use Rattle.kids_avl.proofs.Turns.{right_below, right_even, right_row, rising_row, same_entry}
use Rattle.kids_avl.proofs.turning.once_right.Goals as goal

pub make_like-below-requires-clause-balanced : goal.make_like-below-requires-clause-balanced
make_like-below-requires-clause-balanced g c =
    right_below _ _ _ _ _ _ _ c.requires.nearly c.requires.high c.requires.outer_high

pub make_like-below-requires-clause-ordered : goal.make_like-below-requires-clause-ordered
make_like-below-requires-clause-ordered g c = right_row _ _ _ _ _ _ _ c.requires.nearly

pub make_like-requires-clause-balanced : goal.make_like-requires-clause-balanced
make_like-requires-clause-balanced g c =
    let later = c.make_like-below.ensures.later in
    let same = same_entry _ _ _ _ _ _ _ _ (ap name_of (later.same c.args.top c.requires.top))
    (later.child_same c.args.side.child c.requires.top_child)
    (later.same_under c.args.side.left c.requires.before) c.make_like-below.ensures.entry in
    let even = right_even _ _ _ _ _ _ _ c.requires.nearly c.requires.high c.requires.outer_high in
    subst IsBalanced (sym same) even.balanced

pub make_like-requires-clause-ordered : goal.make_like-requires-clause-ordered
make_like-requires-clause-ordered g c =
    let later = c.make_like-below.ensures.later in
    let same = same_entry _ _ _ _ _ _ _ _ (ap name_of (later.same c.args.top c.requires.top))
    (later.child_same c.args.side.child c.requires.top_child)
    (later.same_under c.args.side.left c.requires.before) c.make_like-below.ensures.entry in
    let even = right_even _ _ _ _ _ _ _ c.requires.nearly c.requires.high c.requires.outer_high in
    subst (λ (t : Entries). IsRising (kids_of t)) (sym same)
    (rising_row _ _ even c.requires.nearly)

pub returns-clause-even : goal.returns-clause-even
returns-clause-even g c =
    let later = c.make_like-below.ensures.later in
    let same = same_entry _ _ _ _ _ _ _ _ (ap name_of (later.same c.args.top c.requires.top))
    (later.child_same c.args.side.child c.requires.top_child)
    (later.same_under c.args.side.left c.requires.before) c.make_like-below.ensures.entry in
    let even = right_even _ _ _ _ _ _ _ c.requires.nearly c.requires.high c.requires.outer_high in
    subst (IsEven _) (sym (c.make_like.ensures.entry ∙ same)) even
