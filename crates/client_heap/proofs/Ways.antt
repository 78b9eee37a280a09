-- A path down a tree.
use Rattle.std.proofs.Common.{◌≡◌, ◌≤◌, ◌+◌, ◌-◌, ℕ, List, [], ◌∷◌}
use Rattle.std.proofs.Common.{length, take, drop, refl, ◌∙◌}
use Rattle.std.proofs.Common.{Option, Some, None, ap, arith, get_or}
use Rattle.std.specs.Option.{option_and_then}
use Rattle.client_trees.specs.declared.at.NodeAt.{NodeAt}
use Rattle.client_trees.specs.declared.at.NodeAt.TheVariants as at
use Rattle.client_trees.specs.Leaves.{IsLast}
use Rattle.doc_tree.specs.Tree.{DocTree, child, node}

-- at most one place more
pub last_few : (before behind : ℕ) (o : Option NodeAt) → IsLast before behind o
    → behind ≤ before + 1
last_few before behind None last = omega (arith, last)
last_few before behind (Some (at.Shared place)) last = let is = last.1 in omega (arith, is)
last_few before behind (Some (at.Minor r)) last = omega (arith, last)

rest_all : {A : Type 0} (xs : List A) → take (length xs) xs ≡ xs
rest_all [] = refl
rest_all (x ∷ xs) = ap (λ ys. x ∷ ys) (rest_all xs)

-- a name, and what is below it
pub way_on : (names : List (List ℕ)) (n : List ℕ) (t d : DocTree) (e : Option DocTree)
    → 1 ≤ length names → n ≡ get_or names 0 n → Some d ≡ child n t.kids
    → e ≡ node (take (length names - 1) (drop 1 names)) d
    → e ≡ node names t
way_on [] n t d e some first found below = absurd (omega (arith, some))
way_on (m ∷ names) n t d e some first found below =
    let less : length (m ∷ names) - 1 ≡ length names = omega arith in
    below ∙ ap (λ k. node (take k names) d) less ∙ ap (λ path. node path d) (rest_all names)
    ∙ ap (option_and_then (node names)) (found ∙ ap (λ x. child x t.kids) first)

pub way_none : (names : List (List ℕ)) (n : List ℕ) (t : DocTree)
    → 1 ≤ length names → n ≡ get_or names 0 n → None ≡ child n t.kids → None ≡
    node names t
way_none [] n t some first found = absurd (omega (arith, some))
way_none (m ∷ names) n t some first found =
    ap (option_and_then (node names)) (found ∙ ap (λ x. child x t.kids) first)
