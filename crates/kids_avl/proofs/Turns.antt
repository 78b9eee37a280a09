-- Rotations on plain trees: balance, order, heights, and the same row of children.
use Rattle.std.proofs.Common.{◌≡◌, ℕ, ◌+◌, ◌<◌, ◌≤◌, List, refl, ap, sym, ◌∙◌, arith, subst}
use Rattle.doc_tree.specs.Tree.{DocTree, Kids, kid, IsRising}
use Rattle.doc_tree.specs.Rows.{join}
use Rattle.doc_tree.proofs.Joined.{join_again, rising_left, rising_right}
use Rattle.kids_avl.specs.Entries.{Entries, entry, kids_of, height_of, IsBalanced}
use Rattle.kids_avl.specs.Changes.{IsNearly, IsEven}

abbrev row : List ℕ → DocTree → Kids → Kids
row n d rest = kid n d.text d.kids rest

-- what needs no rotation
pub keep_balanced : (n : List ℕ) (d : DocTree) (l r : Entries) → IsNearly (entry n d l r)
    → height_of l ≤ height_of r + 1 → height_of r ≤ height_of l + 1 → IsBalanced (entry n d l r)
keep_balanced n d l r near a b = (a, b, near.left, near.right)

pub keep_even : (t : Entries) → IsBalanced t → IsEven t t
keep_even t balanced = record {
  kids = refl;
  balanced = balanced;
  low = omega arith;
  high = omega arith;
  same = λ _. refl;
}

-- the left side's top to the top
pub right_kids : (n m : List ℕ) (d x : DocTree) (a b r : Entries)
    → kids_of (entry m x a (entry n d b r)) ≡ kids_of (entry n d (entry m x a b) r)
right_kids n m d x a b r =
    sym (join_again (kids_of a) (row m x (kids_of b)) (row n d (kids_of r)))

pub right_below : (n m : List ℕ) (d x : DocTree) (a b r : Entries)
    → IsNearly (entry n d (entry m x a b) r) → height_of r + 1 < height_of (entry m x a b)
    → height_of b ≤ height_of a → IsBalanced (entry n d b r)
right_below n m d x a b r near high outer = (
  omega (arith, near.left_near, high, outer, near.left.0, near.left.1),
  omega (arith, near.left_near, high, outer, near.left.0, near.left.1),
  near.left.3,
  near.right,
)

pub right_rising : (n m : List ℕ) (d x : DocTree) (a b r : Entries)
    → IsRising (kids_of (entry n d (entry m x a b) r)) → IsRising (kids_of (entry n d b r))
right_rising n m d x a b r rising =
    let P : Kids → Type 0 = λ row. IsRising row in
    (rising_right (kids_of a) (row m x (kids_of (entry n d b r)))
    (subst P (sym (right_kids n m d x a b r)) rising)).1

pub right_even : (n m : List ℕ) (d x : DocTree) (a b r : Entries)
    → IsNearly (entry n d (entry m x a b) r) → height_of r + 1 < height_of (entry m x a b)
    → height_of b ≤ height_of a
    → IsEven (entry n d (entry m x a b) r) (entry m x a (entry n d b r))
right_even n m d x a b r near high outer =
    let below = right_below n m d x a b r near high outer in
    record {
      kids = right_kids n m d x a b r;
      balanced = (
        omega (arith, near.left_near, high, outer, near.left.0, near.left.1),
        omega (arith, near.left_near, high, outer, near.left.0, near.left.1),
        near.left.2,
        below,
      );
      low = omega (arith, near.left_near, high, outer, near.left.0, near.left.1);
      high = omega (arith, near.left_near, high, outer, near.left.0, near.left.1);
      same = λ balanced. absurd (omega (arith, balanced.0, high));
    }

-- the right side's top to the top
pub left_kids : (n m : List ℕ) (d x : DocTree) (l b a : Entries)
    → kids_of (entry m x (entry n d l b) a) ≡ kids_of (entry n d l (entry m x b a))
left_kids n m d x l b a = join_again (kids_of l) (row n d (kids_of b)) (row m x (kids_of a))

pub left_below : (n m : List ℕ) (d x : DocTree) (l b a : Entries)
    → IsNearly (entry n d l (entry m x b a)) → height_of l + 1 < height_of (entry m x b a)
    → height_of b ≤ height_of a → IsBalanced (entry n d l b)
left_below n m d x l b a near high outer = (
  omega (arith, near.right_near, high, outer, near.right.0, near.right.1),
  omega (arith, near.right_near, high, outer, near.right.0, near.right.1),
  near.left,
  near.right.2,
)

pub left_rising : (n m : List ℕ) (d x : DocTree) (l b a : Entries)
    → IsRising (kids_of (entry n d l (entry m x b a))) → IsRising (kids_of (entry n d l b))
left_rising n m d x l b a rising =
    let P : Kids → Type 0 = λ row. IsRising row in
    rising_left (kids_of (entry n d l b)) (row m x (kids_of a))
    (subst P (sym (left_kids n m d x l b a)) rising)

pub left_even : (n m : List ℕ) (d x : DocTree) (l b a : Entries)
    → IsNearly (entry n d l (entry m x b a)) → height_of l + 1 < height_of (entry m x b a)
    → height_of b ≤ height_of a
    → IsEven (entry n d l (entry m x b a)) (entry m x (entry n d l b) a)
left_even n m d x l b a near high outer =
    let below = left_below n m d x l b a near high outer in
    record {
      kids = left_kids n m d x l b a;
      balanced = (
        omega (arith, near.right_near, high, outer, near.right.0, near.right.1),
        omega (arith, near.right_near, high, outer, near.right.0, near.right.1),
        below,
        near.right.3,
      );
      low = omega (arith, near.right_near, high, outer, near.right.0, near.right.1);
      high = omega (arith, near.right_near, high, outer, near.right.0, near.right.1);
      same = λ balanced. absurd (omega (arith, balanced.1, high));
    }

-- the middle to the top, from the left side
pub twice_right_kids : (n m k : List ℕ) (d x y : DocTree) (a b c r : Entries)
    → kids_of (entry k y (entry m x a b) (entry n d c r))
    ≡ kids_of (entry n d (entry m x a (entry k y b c)) r)
twice_right_kids n m k d x y a b c r =
    right_kids n k d y (entry m x a b) c r
    ∙ ap (λ l. join l (row n d (kids_of r))) (left_kids m k x y a b c)

pub twice_right_even : (n m k : List ℕ) (d x y : DocTree) (a b c r : Entries)
    → IsNearly (entry n d (entry m x a (entry k y b c)) r)
    → height_of r + 1 < height_of (entry m x a (entry k y b c))
    → height_of a < height_of (entry k y b c)
    → IsEven (entry n d (entry m x a (entry k y b c)) r)
    (entry k y (entry m x a b) (entry n d c r))
twice_right_even n m k d x y a b c r near high inner =
    let side = near.left in
    let mid = side.3 in
    record {
      kids = twice_right_kids n m k d x y a b c r;
      balanced = (
        omega (arith, near.left_near, high, inner, side.0, side.1, mid.0, mid.1),
        omega (arith, near.left_near, high, inner, side.0, side.1, mid.0, mid.1),
        (
          omega (arith, inner, side.0, side.1, mid.0, mid.1),
          omega (arith, inner, side.0, side.1, mid.0, mid.1),
          side.2,
          mid.2,
        ),
        (
          omega (arith, near.left_near, high, inner, side.0, side.1, mid.0, mid.1),
          omega (arith, near.left_near, high, inner, side.0, side.1, mid.0, mid.1),
          mid.3,
          near.right,
        ),
      );
      low = omega (arith, near.left_near, high, inner, side.0, side.1, mid.0, mid.1);
      high = omega (arith, near.left_near, high, inner, side.0, side.1, mid.0, mid.1);
      same = λ balanced. absurd (omega (arith, balanced.0, high));
    }

-- .. and from the right side
pub twice_left_kids : (n m k : List ℕ) (d x y : DocTree) (l b c a : Entries)
    → kids_of (entry k y (entry n d l b) (entry m x c a))
    ≡ kids_of (entry n d l (entry m x (entry k y b c) a))
twice_left_kids n m k d x y l b c a =
    left_kids n k d y l b (entry m x c a)
    ∙ ap (λ r. join (kids_of l) (row n d r)) (right_kids m k x y b c a)

pub twice_left_even : (n m k : List ℕ) (d x y : DocTree) (l b c a : Entries)
    → IsNearly (entry n d l (entry m x (entry k y b c) a))
    → height_of l + 1 < height_of (entry m x (entry k y b c) a)
    → height_of a < height_of (entry k y b c)
    → IsEven (entry n d l (entry m x (entry k y b c) a))
    (entry k y (entry n d l b) (entry m x c a))
twice_left_even n m k d x y l b c a near high inner =
    let side = near.right in
    let mid = side.2 in
    record {
      kids = twice_left_kids n m k d x y l b c a;
      balanced = (
        omega (arith, near.right_near, high, inner, side.0, side.1, mid.0, mid.1),
        omega (arith, near.right_near, high, inner, side.0, side.1, mid.0, mid.1),
        (
          omega (arith, near.right_near, high, inner, side.0, side.1, mid.0, mid.1),
          omega (arith, near.right_near, high, inner, side.0, side.1, mid.0, mid.1),
          near.left,
          mid.2,
        ),
        (
          omega (arith, inner, side.0, side.1, mid.0, mid.1),
          omega (arith, inner, side.0, side.1, mid.0, mid.1),
          mid.3,
          side.3,
        ),
      );
      low = omega (arith, near.right_near, high, inner, side.0, side.1, mid.0, mid.1);
      high = omega (arith, near.right_near, high, inner, side.0, side.1, mid.0, mid.1);
      same = λ balanced. absurd (omega (arith, balanced.1, high));
    }

-- the parts of a tree with rising names
pub sides_rising : (n : List ℕ) (d : DocTree) (l r : Entries) → IsRising (kids_of (entry n d l r))
    → IsRising (kids_of l) × IsRising (kids_of r)
sides_rising n d l r rising = (
  rising_left (kids_of l) (row n d (kids_of r)) rising,
  (rising_right (kids_of l) (row n d (kids_of r)) rising).1,
)

-- the two that come under the middle, from the left side
pub twice_right_low : (n m k : List ℕ) (d x y : DocTree) (a b c r : Entries)
    → IsNearly (entry n d (entry m x a (entry k y b c)) r)
    → height_of r + 1 < height_of (entry m x a (entry k y b c))
    → height_of a < height_of (entry k y b c) → IsBalanced (entry m x a b)
twice_right_low n m k d x y a b c r near high inner =
    (twice_right_even n m k d x y a b c r near high inner).balanced.2

pub twice_right_high : (n m k : List ℕ) (d x y : DocTree) (a b c r : Entries)
    → IsNearly (entry n d (entry m x a (entry k y b c)) r)
    → height_of r + 1 < height_of (entry m x a (entry k y b c))
    → height_of a < height_of (entry k y b c) → IsBalanced (entry n d c r)
twice_right_high n m k d x y a b c r near high inner =
    (twice_right_even n m k d x y a b c r near high inner).balanced.3

pub twice_right_rising : (n m k : List ℕ) (d x y : DocTree) (a b c r : Entries)
    → IsNearly (entry n d (entry m x a (entry k y b c)) r)
    → IsRising (kids_of (entry k y (entry m x a b) (entry n d c r)))
twice_right_rising n m k d x y a b c r near =
    let P : Kids → Type 0 = λ row. IsRising row in
    subst P (sym (twice_right_kids n m k d x y a b c r)) near.rising

pub twice_right_low_rising : (n m k : List ℕ) (d x y : DocTree) (a b c r : Entries)
    → IsNearly (entry n d (entry m x a (entry k y b c)) r) → IsRising (kids_of (entry m x a b))
twice_right_low_rising n m k d x y a b c r near =
    rising_left (kids_of (entry m x a b)) (row k y (kids_of (entry n d c r)))
    (twice_right_rising n m k d x y a b c r near)

pub twice_right_high_rising : (n m k : List ℕ) (d x y : DocTree) (a b c r : Entries)
    → IsNearly (entry n d (entry m x a (entry k y b c)) r) → IsRising (kids_of (entry n d c r))
twice_right_high_rising n m k d x y a b c r near =
    (rising_right (kids_of (entry m x a b)) (row k y (kids_of (entry n d c r)))
    (twice_right_rising n m k d x y a b c r near)).1

-- .. and from the right side
pub twice_left_low : (n m k : List ℕ) (d x y : DocTree) (l b c a : Entries)
    → IsNearly (entry n d l (entry m x (entry k y b c) a))
    → height_of l + 1 < height_of (entry m x (entry k y b c) a)
    → height_of a < height_of (entry k y b c) → IsBalanced (entry n d l b)
twice_left_low n m k d x y l b c a near high inner =
    (twice_left_even n m k d x y l b c a near high inner).balanced.2

pub twice_left_high : (n m k : List ℕ) (d x y : DocTree) (l b c a : Entries)
    → IsNearly (entry n d l (entry m x (entry k y b c) a))
    → height_of l + 1 < height_of (entry m x (entry k y b c) a)
    → height_of a < height_of (entry k y b c) → IsBalanced (entry m x c a)
twice_left_high n m k d x y l b c a near high inner =
    (twice_left_even n m k d x y l b c a near high inner).balanced.3

pub twice_left_rising : (n m k : List ℕ) (d x y : DocTree) (l b c a : Entries)
    → IsNearly (entry n d l (entry m x (entry k y b c) a))
    → IsRising (kids_of (entry k y (entry n d l b) (entry m x c a)))
twice_left_rising n m k d x y l b c a near =
    let P : Kids → Type 0 = λ row. IsRising row in
    subst P (sym (twice_left_kids n m k d x y l b c a)) near.rising

pub twice_left_low_rising : (n m k : List ℕ) (d x y : DocTree) (l b c a : Entries)
    → IsNearly (entry n d l (entry m x (entry k y b c) a)) → IsRising (kids_of (entry n d l b))
twice_left_low_rising n m k d x y l b c a near =
    rising_left (kids_of (entry n d l b)) (row k y (kids_of (entry m x c a)))
    (twice_left_rising n m k d x y l b c a near)

pub twice_left_high_rising : (n m k : List ℕ) (d x y : DocTree) (l b c a : Entries)
    → IsNearly (entry n d l (entry m x (entry k y b c) a)) → IsRising (kids_of (entry m x c a))
twice_left_high_rising n m k d x y l b c a near =
    (rising_right (kids_of (entry n d l b)) (row k y (kids_of (entry m x c a)))
    (twice_left_rising n m k d x y l b c a near)).1

-- the row of what a rotation is made from, and of what it makes
pub right_row : (n m : List ℕ) (d x : DocTree) (a b r : Entries)
    → IsNearly (entry n d (entry m x a b) r) → IsRising (kids_of (entry n d b r))
right_row n m d x a b r near = right_rising n m d x a b r near.rising

pub left_row : (n m : List ℕ) (d x : DocTree) (l b a : Entries)
    → IsNearly (entry n d l (entry m x b a)) → IsRising (kids_of (entry n d l b))
left_row n m d x l b a near = left_rising n m d x l b a near.rising

pub rising_row : (t even : Entries) → IsEven t even → IsNearly t → IsRising (kids_of even)
rising_row t even is near =
    let P : Kids → Type 0 = λ row. IsRising row in
    subst P (sym is.kids) near.rising

-- an entry whose parts were read at one time and put together at another
pub same_entry : (n k : List ℕ) (d e : DocTree) (a l b r : Entries) → k ≡ n → e ≡ d → l ≡ a
    → r ≡ b → entry k e l r ≡ entry n d a b
same_entry n k d e a l b r name child left right = rw (name, child, left, right) refl

pub ruleset once_right = (right_below, right_rising, right_even)

pub ruleset once_left = (left_below, left_rising, left_even)

pub ruleset twice_right = (
  twice_right_low,
  twice_right_high,
  twice_right_low_rising,
  twice_right_high_rising,
  twice_right_rising,
  twice_right_even,
)

pub ruleset twice_left = (
  twice_left_low,
  twice_left_high,
  twice_left_low_rising,
  twice_left_high_rising,
  twice_left_rising,
  twice_left_even,
)
