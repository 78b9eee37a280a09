-- One level of a put or a removal, on plain trees.
use Rattle.std.proofs.Common.{◌≡◌, ℕ, List, refl, ap, sym, ◌∙◌, arith, subst}
use Rattle.std.specs.declared.cmp.Ordering.TheVariants.{Less, Equal, Greater}
use Rattle.std.proofs.lemmas.Map.Lookups.{exact_bytes}
use Rattle.doc_tree.specs.Tree.{DocTree, Kids, no_kids, kid, name_cmp, IsRising}
use Rattle.doc_tree.specs.Tree.{IsAbove}
use Rattle.doc_tree.specs.Edits.{delete_child}
use Rattle.doc_tree.specs.Rows.{join}
use Rattle.doc_tree.proofs.Joined.{delete_left, delete_past, put_past, rising_right}
use Rattle.doc_tree.proofs.Rising.{greater_turned, above_later, rising_put, rising_delete}
use Rattle.kids_avl.specs.Entries.{Entries, no_entries, entry, name_of, child_of}
use Rattle.kids_avl.specs.Entries.{kids_of, IsBalanced}
use Rattle.kids_avl.specs.Changes.{IsNearly, IsEven, IsPut, IsWithout, IsFirst, IsClosed}
use Rattle.kids_avl.proofs.Lists.{put_less, put_greater, below_entry, below_own, below_equal}

abbrev row : List ℕ → DocTree → Kids → Kids
row n d rest = kid n d.text d.kids rest

abbrev Rise : Kids → Type 0
Rise kids = IsRising kids

-- a put: nothing was there
pub put_none : (m : List ℕ) (x : DocTree)
    → IsPut m x no_entries (entry m x no_entries no_entries)
put_none m x = record {
  kids = refl;
  balanced = (omega arith, omega arith, tt, tt);
  low = omega arith;
  high = omega arith;
}

-- .. the top has the name
pub put_equal : (m n : List ℕ) (x d : DocTree) (l r : Entries) → IsBalanced (entry n d l r)
    → IsRising (kids_of (entry n d l r)) → name_cmp m n ≡ Equal
    → IsPut m x (entry n d l r) (entry n x l r)
put_equal m n x d l r balanced rising equal =
    let same : m ≡ n = exact_bytes m n equal in
    record {
      kids = sym (put_past m x (kids_of l) (row n d (kids_of r))
          (below_equal m n (kids_of l) equal (below_own (kids_of l) n d.text d.kids
          (kids_of r) rising))
          ∙ rw equal (ap (λ k. join (kids_of l) (row k x (kids_of r))) same));
      balanced = balanced;
      low = omega arith;
      high = omega arith;
    }

-- .. it belongs left of the top
pub put_left_nearly : (m n : List ℕ) (x d : DocTree) (l r new : Entries)
    → IsBalanced (entry n d l r) → IsRising (kids_of (entry n d l r)) → name_cmp m n ≡ Less
    → IsPut m x l new → IsNearly (entry n d new r)
put_left_nearly m n x d l r new balanced rising less put =
    let kids = put_less m x (entry n d l r) new tt rising less put.kids in
    record {
      left = put.balanced;
      right = balanced.3;
      left_near = omega (arith, balanced.0, put.high);
      right_near = omega (arith, balanced.1, put.low);
      rising = subst Rise (sym kids) (rising_put m x (kids_of (entry n d l r)) rising);
    }

pub put_left_step : (m n : List ℕ) (x d : DocTree) (l r new even : Entries)
    → IsBalanced (entry n d l r) → IsRising (kids_of (entry n d l r)) → name_cmp m n ≡ Less
    → IsPut m x l new → IsEven (entry n d new r) even → IsPut m x (entry n d l r) even
put_left_step m n x d l r new even balanced rising less put is =
    let kids = put_less m x (entry n d l r) new tt rising less put.kids in
    record {
      kids = is.kids ∙ kids;
      balanced = is.balanced;
      low = grind (
        arith,
        balanced.0,
        balanced.1,
        balanced.2,
        balanced.3,
        put.low,
        put.high,
        put.balanced,
        is.low,
        is.high,
        is.same,
      );
      high = grind (arith, balanced.0, balanced.1, put.low, put.high, is.low, is.high);
    }

-- .. or right of it
pub put_right_nearly : (m n : List ℕ) (x d : DocTree) (l r new : Entries)
    → IsBalanced (entry n d l r) → IsRising (kids_of (entry n d l r)) → name_cmp m n ≡ Greater
    → IsPut m x r new → IsNearly (entry n d l new)
put_right_nearly m n x d l r new balanced rising greater put =
    let kids = put_greater m x (entry n d l r) new tt rising greater put.kids in
    record {
      left = balanced.2;
      right = put.balanced;
      left_near = omega (arith, balanced.0, put.low);
      right_near = omega (arith, balanced.1, put.high);
      rising = subst Rise (sym kids) (rising_put m x (kids_of (entry n d l r)) rising);
    }

pub put_right_step : (m n : List ℕ) (x d : DocTree) (l r new even : Entries)
    → IsBalanced (entry n d l r) → IsRising (kids_of (entry n d l r)) → name_cmp m n ≡ Greater
    → IsPut m x r new → IsEven (entry n d l new) even → IsPut m x (entry n d l r) even
put_right_step m n x d l r new even balanced rising greater put is =
    let kids = put_greater m x (entry n d l r) new tt rising greater put.kids in
    record {
      kids = is.kids ∙ kids;
      balanced = is.balanced;
      low = grind (
        arith,
        balanced.0,
        balanced.1,
        balanced.2,
        balanced.3,
        put.low,
        put.high,
        put.balanced,
        is.low,
        is.high,
        is.same,
      );
      high = grind (arith, balanced.0, balanced.1, put.low, put.high, is.low, is.high);
    }

-- The same where the parts were read at one time and put together at another.
pub put_left_done : (m n k : List ℕ) (x y d e : DocTree) (t l r s new even : Entries)
    → t ≡ entry n d l r → IsBalanced t → IsRising (kids_of t) → name_cmp m n ≡ Less
    → IsPut m y l new → y ≡ x → IsEven (entry k e new s) even → k ≡ n → e ≡ d → s ≡ r
    → IsPut m x t even
put_left_done m n k x y d e t l r s new even whole balanced rising less put child is name kept
    side =
    rw whole (put_left_step m n x d l r new even (rw whole at balanced) (rw whole at rising) less
    (rw child at put) (rw (name, kept, side) at is))

pub put_right_done : (m n k : List ℕ) (x y d e : DocTree) (t l r s new even : Entries)
    → t ≡ entry n d l r → IsBalanced t → IsRising (kids_of t) → name_cmp m n ≡ Greater
    → IsPut m y r new → y ≡ x → IsEven (entry k e s new) even → k ≡ n → e ≡ d → s ≡ l
    → IsPut m x t even
put_right_done m n k x y d e t l r s new even whole balanced rising greater put child is name kept
    side =
    rw whole (put_right_step m n x d l r new even (rw whole at balanced)
    (rw whole at rising) greater
    (rw child at put) (rw (name, kept, side) at is))

pub put_equal_done : (m n k : List ℕ) (x y d : DocTree) (t l r new : Entries)
    → t ≡ entry n d l r → IsBalanced t → IsRising (kids_of t) → name_cmp m n ≡ Equal
    → y ≡ x → k ≡ n → new ≡ entry k y l r → IsPut m x t new
put_equal_done m n k x y d t l r new whole balanced rising equal child name made =
    rw (whole, made, name, child) (put_equal m n x d l r (rw whole at balanced)
    (rw whole at rising) equal)

-- another child of the same name
above_other : (k n : List ℕ) (l : Kids) (t u : List ℕ) (i j r : Kids)
    → IsAbove k (join l (kid n t i r)) → IsAbove k (join l (kid n u j r))
above_other k n no_kids t u i j r above = above
above_other k n (kid m v h rest) t u i j r above =
    (above.0, above_other k n rest t u i j r above.1)

rising_again : (n : List ℕ) (l : Kids) (t u : List ℕ) (i j r : Kids)
    → IsRising (join l (kid n t i r)) → IsRising (join l (kid n u j r))
rising_again n no_kids t u i j r rising = rising
rising_again n (kid m v h rest) t u i j r rising =
    (above_other m n rest t u i j r rising.0, rising_again n rest t u i j r rising.1)

pub rising_other : (n : List ℕ) (d x : DocTree) (l r : Entries)
    → IsRising (kids_of (entry n d l r)) → IsRising (kids_of (entry n x l r))
rising_other n d x l r rising =
    rising_again n (kids_of l) d.text x.text d.kids x.kids (kids_of r) rising

-- a removal: the top is not the one
delete_less : (m n : List ℕ) (d : DocTree) (l r : Entries) → IsRising (kids_of (entry n d l r))
    → name_cmp m n ≡ Less
    → delete_child m (kids_of (entry n d l r)) ≡ join (delete_child m (kids_of l)) (row n d
    (kids_of r))
delete_less m n d l r rising less =
    let own = rising_right (kids_of l) (row n d (kids_of r)) rising in
    delete_left m (kids_of l) (row n d (kids_of r)) (less, above_later m n (kids_of r) less own.0)

delete_greater : (m n : List ℕ) (d : DocTree) (l r : Entries) → IsRising (kids_of (entry n d l r))
    → name_cmp m n ≡ Greater
    → delete_child m (kids_of (entry n d l r)) ≡ join (kids_of l) (row n d (delete_child m
    (kids_of r)))
delete_greater m n d l r rising greater =
    delete_past m (kids_of l) (row n d (kids_of r))
    (below_entry m (kids_of l) n d.text d.kids (kids_of r) rising (greater_turned m n greater))
    ∙ rw greater refl

pub without_none : (m : List ℕ) → IsWithout m no_entries no_entries
without_none m = record { kids = refl; balanced = tt; low = omega arith; high = omega arith }

pub without_left_nearly : (m n : List ℕ) (d : DocTree) (l r new : Entries)
    → IsBalanced (entry n d l r) → IsRising (kids_of (entry n d l r)) → name_cmp m n ≡ Less
    → IsWithout m l new → IsNearly (entry n d new r)
without_left_nearly m n d l r new balanced rising less out =
    let kids : kids_of (entry n d new r) ≡ delete_child m (kids_of (entry n d l r)) =
    ap (λ kids. join kids (row n d (kids_of r))) out.kids ∙ sym
    (delete_less m n d l r rising less) in
    record {
      left = out.balanced;
      right = balanced.3;
      left_near = omega (arith, balanced.0, out.high);
      right_near = omega (arith, balanced.1, out.low);
      rising = subst Rise (sym kids) (rising_delete m (kids_of (entry n d l r)) rising);
    }

pub without_left_step : (m n : List ℕ) (d : DocTree) (l r new even : Entries)
    → IsBalanced (entry n d l r) → IsRising (kids_of (entry n d l r)) → name_cmp m n ≡ Less
    → IsWithout m l new → IsEven (entry n d new r) even → IsWithout m (entry n d l r) even
without_left_step m n d l r new even balanced rising less out is = record {
  kids = is.kids ∙ ap (λ kids. join kids (row n d (kids_of r))) out.kids
      ∙ sym (delete_less m n d l r rising less);
  balanced = is.balanced;
  low = grind (
    arith,
    balanced.0,
    balanced.1,
    balanced.2,
    balanced.3,
    out.low,
    out.high,
    out.balanced,
    is.low,
    is.high,
    is.same,
  );
  high = grind (arith, balanced.0, balanced.1, out.low, out.high, is.low, is.high);
}

pub without_right_nearly : (m n : List ℕ) (d : DocTree) (l r new : Entries)
    → IsBalanced (entry n d l r) → IsRising (kids_of (entry n d l r)) → name_cmp m n ≡ Greater
    → IsWithout m r new → IsNearly (entry n d l new)
without_right_nearly m n d l r new balanced rising greater out =
    let kids : kids_of (entry n d l new) ≡ delete_child m (kids_of (entry n d l r)) =
    ap (λ kids. join (kids_of l) (row n d kids)) out.kids
    ∙ sym (delete_greater m n d l r rising greater) in
    record {
      left = balanced.2;
      right = out.balanced;
      left_near = omega (arith, balanced.0, out.low);
      right_near = omega (arith, balanced.1, out.high);
      rising = subst Rise (sym kids) (rising_delete m (kids_of (entry n d l r)) rising);
    }

pub without_right_step : (m n : List ℕ) (d : DocTree) (l r new even : Entries)
    → IsBalanced (entry n d l r) → IsRising (kids_of (entry n d l r)) → name_cmp m n ≡ Greater
    → IsWithout m r new → IsEven (entry n d l new) even → IsWithout m (entry n d l r) even
without_right_step m n d l r new even balanced rising greater out is = record {
  kids = is.kids ∙ ap (λ kids. join (kids_of l) (row n d kids)) out.kids
      ∙ sym (delete_greater m n d l r rising greater);
  balanced = is.balanced;
  low = grind (
    arith,
    balanced.0,
    balanced.1,
    balanced.2,
    balanced.3,
    out.low,
    out.high,
    out.balanced,
    is.low,
    is.high,
    is.same,
  );
  high = grind (arith, balanced.0, balanced.1, out.low, out.high, is.low, is.high);
}

pub without_left_done : (m n k : List ℕ) (d e : DocTree) (t l r s new even : Entries)
    → t ≡ entry n d l r → IsBalanced t → IsRising (kids_of t) → name_cmp m n ≡ Less
    → IsWithout m l new → IsEven (entry k e new s) even → k ≡ n → e ≡ d → s ≡ r
    → IsWithout m t even
without_left_done m n k d e t l r s new even whole balanced rising less out is name kept side =
    rw whole (without_left_step m n d l r new even (rw whole at balanced) (rw whole at rising) less
    out (rw (name, kept, side) at is))

pub without_right_done : (m n k : List ℕ) (d e : DocTree) (t l r s new even : Entries)
    → t ≡ entry n d l r → IsBalanced t → IsRising (kids_of t) → name_cmp m n ≡ Greater
    → IsWithout m r new → IsEven (entry k e s new) even → k ≡ n → e ≡ d → s ≡ l
    → IsWithout m t even
without_right_done m n k d e t l r s new even whole balanced rising greater out is name kept side =
    rw whole (without_right_step m n d l r new even (rw whole at balanced) (rw whole at rising)
    greater out (rw (name, kept, side) at is))

pub without_left_ready : (m n k : List ℕ) (d e : DocTree) (t l r s new : Entries)
    → t ≡ entry n d l r → IsBalanced t → IsRising (kids_of t) → name_cmp m n ≡ Less
    → IsWithout m l new → k ≡ n → e ≡ d → s ≡ r → IsNearly (entry k e new s)
without_left_ready m n k d e t l r s new whole balanced rising less out name kept side =
    rw (name, kept, side) (without_left_nearly m n d l r new (rw whole at balanced)
    (rw whole at rising) less out)

pub without_right_ready : (m n k : List ℕ) (d e : DocTree) (t l r s new : Entries)
    → t ≡ entry n d l r → IsBalanced t → IsRising (kids_of t) → name_cmp m n ≡ Greater
    → IsWithout m r new → k ≡ n → e ≡ d → s ≡ l → IsNearly (entry k e s new)
without_right_ready m n k d e t l r s new whole balanced rising greater out name kept side =
    rw (name, kept, side) (without_right_nearly m n d l r new (rw whole at balanced)
    (rw whole at rising) greater out)

-- .. or the top is the one
pub without_equal : (m n : List ℕ) (d : DocTree) (l r new : Entries)
    → IsRising (kids_of (entry n d l r)) → name_cmp m n ≡ Equal
    → IsClosed (entry n d l r) new → IsWithout m (entry n d l r) new
without_equal m n d l r new rising equal is = record {
  kids = is.kids ∙ sym (delete_past m (kids_of l) (row n d (kids_of r))
      (below_equal m n (kids_of l) equal (below_own (kids_of l) n d.text d.kids (kids_of r) rising))
      ∙ rw equal refl);
  balanced = is.balanced;
  low = is.low;
  high = is.high;
}

pub without_equal_done : (m n k : List ℕ) (d : DocTree) (t l r new : Entries) → t ≡ entry n d l r
    → IsRising (kids_of t) → name_cmp m n ≡ Equal → IsClosed (entry k d l r) new → k ≡ n
    → IsWithout m t new
without_equal_done m n k d t l r new whole rising equal is name =
    rw whole (without_equal m n d l r new (rw whole at rising) equal (rw name at is))

-- the first entry of a tree, and the others
pub first_here : (n : List ℕ) (d : DocTree) (r : Entries) → IsBalanced (entry n d no_entries r)
    → IsFirst (entry n d no_entries r) (entry n d no_entries r) r
first_here n d r balanced = record {
  kids = refl;
  balanced = balanced.3;
  low = omega (arith, balanced.1);
  high = omega arith;
}

first_kids : (n : List ℕ) (d : DocTree) (l r f rest : Entries) → IsFirst l f rest
    → kids_of (entry n d l r) ≡ row (name_of f) (child_of f) (kids_of (entry n d rest r))
first_kids n d l r f rest is = ap (λ kids. join kids (row n d (kids_of r))) is.kids

pub first_nearly : (n : List ℕ) (d : DocTree) (l r f rest : Entries)
    → IsBalanced (entry n d l r) → IsRising (kids_of (entry n d l r)) → IsFirst l f rest
    → IsNearly (entry n d rest r)
first_nearly n d l r f rest balanced rising is =
    let whole : IsRising (row (name_of f) (child_of f) (kids_of (entry n d rest r))) =
    subst Rise (first_kids n d l r f rest is) rising in
    record {
      left = is.balanced;
      right = balanced.3;
      left_near = omega (arith, balanced.0, is.high);
      right_near = omega (arith, balanced.1, is.low);
      rising = whole.1;
    }

pub first_step : (n : List ℕ) (d : DocTree) (l r f rest even : Entries)
    → IsBalanced (entry n d l r) → IsFirst l f rest → IsEven (entry n d rest r) even
    → IsFirst (entry n d l r) f even
first_step n d l r f rest even balanced is evened = record {
  kids = first_kids n d l r f rest is ∙ ap (row (name_of f) (child_of f)) (sym evened.kids);
  balanced = evened.balanced;
  low = grind (
    arith,
    balanced.0,
    balanced.1,
    balanced.2,
    balanced.3,
    is.low,
    is.high,
    is.balanced,
    evened.low,
    evened.high,
    evened.same,
  );
  high = grind (arith, balanced.0, balanced.1, is.low, is.high, evened.low, evened.high);
}

pub first_done : (n k : List ℕ) (d e : DocTree) (t l low r s f g rest even : Entries)
    → t ≡ entry n d l r → l ≡ low → IsBalanced t → IsFirst low f rest
    → IsEven (entry k e rest s) even → k ≡ n → e ≡ d → s ≡ r → g ≡ f → IsFirst t g even
first_done n k d e t l low r s f g rest even whole at balanced is evened name kept side first =
    rw (whole, first) (first_step n d l r f rest even (rw whole at balanced) (rw (sym at) at is)
    (rw (name, kept, side) at evened))

-- both sides without the entry between them
join_none : (l : Kids) → join l no_kids ≡ l
join_none no_kids = refl
join_none (kid n t i rest) = ap (kid n t i) (join_none rest)

above_skip : (k n : List ℕ) (l : Kids) (text : List ℕ) (inside r : Kids)
    → IsAbove k (join l (kid n text inside r)) → IsAbove k (join l r)
above_skip k n no_kids text inside r above = above.1
above_skip k n (kid m t i rest) text inside r above =
    (above.0, above_skip k n rest text inside r above.1)

rising_skip : (n : List ℕ) (l : Kids) (text : List ℕ) (inside r : Kids)
    → IsRising (join l (kid n text inside r)) → IsRising (join l r)
rising_skip n no_kids text inside r rising = rising.1
rising_skip n (kid m t i rest) text inside r rising =
    (above_skip m n rest text inside r rising.0, rising_skip n rest text inside r rising.1)

pub closed_none : (n : List ℕ) (d : DocTree) (l : Entries) → IsBalanced (entry n d l no_entries)
    → IsClosed (entry n d l no_entries) l
closed_none n d l balanced = record {
  kids = sym (join_none (kids_of l));
  balanced = balanced.2;
  low = omega arith;
  high = omega arith;
}

pub closed_left : (n : List ℕ) (d : DocTree) (l r : Entries) → r ≡ no_entries
    → IsBalanced (entry n d l r) → IsClosed (entry n d l r) l
closed_left n d l r none balanced = rw none (closed_none n d l (rw none at balanced))

pub closed_nearly : (n : List ℕ) (d : DocTree) (l r f rest : Entries)
    → IsBalanced (entry n d l r) → IsRising (kids_of (entry n d l r)) → IsFirst r f rest
    → IsNearly (entry (name_of f) (child_of f) l rest)
closed_nearly n d l r f rest balanced rising is = record {
  left = balanced.2;
  right = is.balanced;
  left_near = omega (arith, balanced.0, is.low);
  right_near = omega (arith, balanced.1, is.high);
  rising = subst Rise (ap (join (kids_of l)) is.kids)
      (rising_skip n (kids_of l) d.text d.kids (kids_of r) rising);
}

pub closed_step : (n : List ℕ) (d : DocTree) (l r f rest even : Entries)
    → IsBalanced (entry n d l r) → IsFirst r f rest
    → IsEven (entry (name_of f) (child_of f) l rest) even → IsClosed (entry n d l r) even
closed_step n d l r f rest even balanced is evened = record {
  kids = evened.kids ∙ ap (join (kids_of l)) (sym is.kids);
  balanced = evened.balanced;
  low = grind (
    arith,
    balanced.0,
    balanced.1,
    balanced.2,
    balanced.3,
    is.low,
    is.high,
    is.balanced,
    evened.low,
    evened.high,
    evened.same,
  );
  high = grind (arith, balanced.0, balanced.1, is.low, is.high, evened.low, evened.high);
}

-- the same where the parts were read at one time and put together at another
pub closed_ready : (n : List ℕ) (d e : DocTree) (l m r s f g rest other : Entries) → r ≡ s
    → IsBalanced (entry n d l r) → IsRising (kids_of (entry n d l r)) → IsFirst s f rest
    → g ≡ f → e ≡ child_of f → m ≡ l → other ≡ rest → IsNearly (entry (name_of g) e m other)
closed_ready n d e l m r s f g rest other right balanced rising is first child left after =
    rw (first, child, left, after)
    (closed_nearly n d l r f rest balanced rising (rw (sym right) at is))

pub closed_done : (n : List ℕ) (d e : DocTree) (l m r s f g rest other even : Entries) → r ≡ s
    → IsBalanced (entry n d l r) → IsFirst s f rest → IsEven (entry (name_of g) e m other) even
    → g ≡ f → e ≡ child_of f → m ≡ l → other ≡ rest → IsClosed (entry n d l r) even
closed_done n d e l m r s f g rest other even right balanced is evened first child left after =
    closed_step n d l r f rest even balanced (rw (sym right) at is)
    (rw (first, child, left, after) at evened)

pub ruleset putting = (
  put_none,
  put_equal,
  put_left_nearly,
  put_left_step,
  put_right_nearly,
  put_right_step,
  rising_other,
)

pub ruleset first_taken = (first_here, first_nearly, first_step)

pub ruleset closing = (closed_none, closed_nearly, closed_step)

pub ruleset removing = (
  without_none,
  without_equal,
  without_left_nearly,
  without_left_step,
  without_right_nearly,
  without_right_step,
)
