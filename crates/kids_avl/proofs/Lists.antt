-- The row of children of a tree of entries: where a name belongs, and what a change of one side
-- makes of the whole.
use Rattle.std.proofs.Common.{◌≡◌, ℕ, ◌+◌, List, Some, refl, ap, sym, ◌∙◌, arith}
use Rattle.std.specs.declared.cmp.Ordering.TheVariants.{Less, Equal, Greater}
use Rattle.std.proofs.lemmas.Cmp.{nat_list_cmp_total}
use Rattle.doc_tree.specs.Tree.{DocTree, Kids, no_kids, kid, kid_count, name_cmp, child}
use Rattle.doc_tree.specs.Tree.{put_child, IsRising}
use Rattle.doc_tree.specs.Rows.{join, IsBelow}
use Rattle.doc_tree.proofs.Joined.{count_join, above_right, rising_left, rising_right}
use Rattle.doc_tree.proofs.Joined.{child_left, child_past, put_left, put_past}
use Rattle.doc_tree.proofs.Rising.{less_turned, greater_turned, above_later}
use Rattle.kids_avl.specs.Entries.{Entries, no_entries, entry, name_of, child_of, left_of, right_of}
use Rattle.kids_avl.specs.Entries.{IsEntry, kids_of}

-- an entry at the top is its parts
pub whole : (t : Entries) → IsEntry t → entry (name_of t) (child_of t) (left_of t) (right_of t) ≡ t
whole no_entries is = absurd is
whole (entry n d l r) is = refl

-- the names of a row that comes before an entry
pub below_entry : (n : List ℕ) (l : Kids) (m : List ℕ) (text : List ℕ) (inside rest : Kids)
    → IsRising (join l (kid m text inside rest)) → name_cmp m n ≡ Less → IsBelow n l
below_entry n no_kids m text inside rest rising less = tt
below_entry n (kid k t i more) m text inside rest rising less = (
  less_turned k n (nat_list_cmp_total.trans k m n
      (above_right k more (kid m text inside rest) rising.0).0 less),
  below_entry n more m text inside rest rising.1 less,
)

pub below_own : (l : Kids) (m : List ℕ) (text : List ℕ) (inside rest : Kids)
    → IsRising (join l (kid m text inside rest)) → IsBelow m l
below_own no_kids m text inside rest rising = tt
below_own (kid k t i more) m text inside rest rising = (
  less_turned k m (above_right k more (kid m text inside rest) rising.0).0,
  below_own more m text inside rest rising.1,
)

pub below_equal : (m n : List ℕ) (l : Kids) → name_cmp m n ≡ Equal → IsBelow n l → IsBelow m l
below_equal m n no_kids equal below = tt
below_equal m n (kid k t i more) equal below =
    (nat_list_cmp_total.congr m n k equal ∙ below.0, below_equal m n more equal below.1)

-- the rows left and right of the top
pub rising_before : (t : Entries) → IsRising (kids_of t) → IsRising (kids_of (left_of t))
rising_before no_entries rising = tt
rising_before (entry n d l r) rising =
    rising_left (kids_of l) (kid n d.text d.kids (kids_of r)) rising

pub rising_after : (t : Entries) → IsRising (kids_of t) → IsRising (kids_of (right_of t))
rising_after no_entries rising = tt
rising_after (entry n d l r) rising =
    (rising_right (kids_of l) (kid n d.text d.kids (kids_of r)) rising).1

pub count_entry : (t : Entries) → IsEntry t
    → kid_count (kids_of t) ≡ kid_count (kids_of (left_of t)) + 1 + kid_count (kids_of (right_of t))
count_entry no_entries is = absurd is
count_entry (entry n d l r) is =
    omega (arith, count_join (kids_of l) (kid n d.text d.kids (kids_of r)))

-- the child of a name, by its order against the top's
pub child_less : (m : List ℕ) (t : Entries) → IsRising (kids_of t) → name_cmp m (name_of t) ≡ Less
    → child m (kids_of t) ≡ child m (kids_of (left_of t))
child_less m no_entries rising less = refl
child_less m (entry n d l r) rising less =
    let own = rising_right (kids_of l) (kid n d.text d.kids (kids_of r)) rising in
    child_left m (kids_of l) (kid n d.text d.kids (kids_of r))
    (less, above_later m n (kids_of r) less own.0)

pub child_equal : (m : List ℕ) (t : Entries) → IsEntry t → IsRising (kids_of t)
    → name_cmp m (name_of t) ≡ Equal → child m (kids_of t) ≡ Some (child_of t)
child_equal m no_entries is rising equal = absurd is
child_equal m (entry n d l r) is rising equal =
    child_past m (kids_of l) (kid n d.text d.kids (kids_of r))
    (below_equal m n (kids_of l) equal (below_own (kids_of l) n d.text d.kids (kids_of r) rising))
    ∙ rw equal refl

pub child_greater : (m : List ℕ) (t : Entries) → IsRising (kids_of t)
    → name_cmp m (name_of t) ≡ Greater → child m (kids_of t) ≡ child m (kids_of (right_of t))
child_greater m no_entries rising greater = refl
child_greater m (entry n d l r) rising greater =
    child_past m (kids_of l) (kid n d.text d.kids (kids_of r))
    (below_entry m (kids_of l) n d.text d.kids (kids_of r) rising (greater_turned m n greater))
    ∙ rw greater refl

-- a child that is put, by its order against the top's
pub put_less : (m : List ℕ) (x : DocTree) (t left : Entries) → IsEntry t → IsRising (kids_of t)
    → name_cmp m (name_of t) ≡ Less → kids_of left ≡ put_child m x (kids_of (left_of t))
    → kids_of (entry (name_of t) (child_of t) left (right_of t)) ≡ put_child m x (kids_of t)
put_less m x no_entries left is rising less new = absurd is
put_less m x (entry n d l r) left is rising less new =
    let own = rising_right (kids_of l) (kid n d.text d.kids (kids_of r)) rising in
    ap (λ row. join row (kid n d.text d.kids (kids_of r))) new
    ∙ sym (put_left m x (kids_of l) (kid n d.text d.kids (kids_of r))
    (less, above_later m n (kids_of r) less own.0))

pub put_greater : (m : List ℕ) (x : DocTree) (t right : Entries) → IsEntry t
    → IsRising (kids_of t)
    → name_cmp m (name_of t) ≡ Greater → kids_of right ≡ put_child m x (kids_of (right_of t))
    → kids_of (entry (name_of t) (child_of t) (left_of t) right) ≡ put_child m x (kids_of t)
put_greater m x no_entries right is rising greater new = absurd is
put_greater m x (entry n d l r) right is rising greater new =
    ap (λ row. join (kids_of l) (kid n d.text d.kids row)) new
    ∙ sym (put_past m x (kids_of l) (kid n d.text d.kids (kids_of r))
    (below_entry m (kids_of l) n d.text d.kids (kids_of r) rising (greater_turned m n greater))
    ∙ rw greater refl)

pub ruleset finding = (child_less, child_equal, child_greater, rising_before, rising_after)
