use Rattle.std.proofs.Common.{◌≡◌, ◌<◌, List, [], ◌∷◌, ℕ, Ok, arith, length, refl}
use Rattle.doc_tree.specs.Edits.{edit_along}
use Rattle.doc_tree.specs.Ends.{tree_at_end}
use Rattle.doc_tree.specs.Tree.{DocTree}
use Rattle.doc_tree.proofs.tree.Tree.+edit_along.Goals as goal

-- at the end of the path
edit_end : (make : DocTree → DocTree) (names : List (List ℕ)) (t u : DocTree) → length names < 1
    → u ≡ make t → edit_along make names t ≡ Ok u
edit_end make [] t u none made = rw made refl
edit_end make (n ∷ names) t u none made = absurd (omega (arith, none))

pub returns-in_default : goal.returns-in_default
returns-in_default t c =
    edit_end (tree_at_end c.args.end) c.args.names.now c.args.self.now c.in_ok-at_end.field-0
    c.in_default.len_below c.in_ok-at_end.ensures

pub find_child-requires-clause-chunks : goal.find_child-requires-clause-chunks
find_child-requires-clause-chunks t c = rw c.deref.ensures.value c.self.invariant.chunks

pub find_child-requires-clause-rising : goal.find_child-requires-clause-rising
find_child-requires-clause-rising t c = rw c.deref.ensures.value c.self.invariant.rising

pub put_kid-requires-clause-chunks : goal.put_kid-requires-clause-chunks
put_kid-requires-clause-chunks t c = c.self.invariant.chunks

pub put_kid-requires-clause-rising : goal.put_kid-requires-clause-rising
put_kid-requires-clause-rising t c = c.self.invariant.rising

pub put_kid-requires-clause-few : goal.put_kid-requires-clause-few
put_kid-requires-clause-few t c = c.self.invariant.few

pub put_kid-requires-clause-place : goal.put_kid-requires-clause-place
put_kid-requires-clause-place t c = rw c.deref.ensures.value at c.find_child.ensures.place
