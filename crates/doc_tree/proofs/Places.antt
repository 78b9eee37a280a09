-- Where a name stands among the kids of a row, and what a write there makes of them.
use Rattle.std.proofs.Common.{◌≡◌, ℕ, suc, zero, ◌<◌, ◌≤◌, List, [], ◌∷◌, length, get_or, set}
use Rattle.std.proofs.Common.{Some, None, Ok, Err, Result, refl, sym, ap, arith}
use Rattle.std.specs.Prelude.{MatchResult, insert}
use Rattle.std.specs.List.{AllWithin, AllZip, remove}
use Rattle.std.specs.List.Sorted.{IsBinarySearchResult, IsSearchInRange, IsNonDecreasingBy}
use Rattle.std.specs.declared.cmp.Ordering.{Ordering}
use Rattle.std.specs.declared.cmp.Ordering.TheVariants.{Less, Equal, Greater}
use Rattle.std.specs.Ordering.{ordering_index}
use Rattle.std.specs.declared.rc.Rc.{Rc}
use Rattle.std.specs.declared.alloc.Global.{Global}
use Rattle.std.proofs.lemmas.Cmp.{nat_list_cmp_total}
use Rattle.doc_tree.specs.declared.chunk.Kid.{Kid}
use Rattle.doc_tree.specs.Tree.{Kids, no_kids, kid, kid_count, name_cmp, child, put_child}
use Rattle.doc_tree.specs.Tree.{IsAbove, IsRising}
use Rattle.doc_tree.specs.Edits.{delete_child}
use Rattle.doc_tree.specs.Rows.{row_of, IsHere, IsGap}
use Rattle.doc_tree.proofs.Joined.{above_child}
use Rattle.doc_tree.proofs.Rising.{less_turned, greater_turned, equal_turned, less_equal}

abbrev Row : Type 0
Row = List (Rc Kid Global)

pub count_kids : (ks : Row) → kid_count (row_of ks) ≡ length ks
count_kids [] = refl
count_kids (k ∷ ks) = omega (arith, count_kids ks)

above_at : (m : List ℕ) (ks : Row) (at : ℕ) (d : Rc Kid Global) → IsAbove m (row_of ks)
    → at < length ks → name_cmp m (get_or ks at d).value.name ≡ Less
above_at m [] at d above h = absurd (omega (arith, h))
above_at m (k ∷ ks) zero d above h = above.0
above_at m (k ∷ ks) (suc at) d above h = above_at m ks at d above.1 (omega (arith, h))

-- what a binary search finds
here_from : (n : List ℕ) (ks : Row) (at : ℕ) → IsRising (row_of ks) → at < length ks
    → ((d : Rc Kid Global) → name_cmp (get_or ks at d).value.name n ≡ Equal)
    → IsHere n (row_of ks) at
here_from n [] at rising h found = absurd (omega (arith, h))
here_from n (k ∷ ks) zero rising h found = equal_turned k.value.name n (found k)
here_from n (k ∷ ks) (suc at) rising h found =
    let less = less_equal k.value.name (get_or ks at k).value.name n
    (above_at k.value.name ks at k rising.0 (omega (arith, h))) (equal_turned _ n (found k)) in
    (less_turned k.value.name n less, here_from n ks at rising.1 (omega (arith, h)) found)

above_from : (n : List ℕ) (ks : Row)
    → AllWithin (λ k. name_cmp k.value.name n ≡ Greater) ks 0 (length ks) → IsAbove n (row_of ks)
above_from n [] after = tt
above_from n (k ∷ ks) after = (
  greater_turned k.value.name n (after 0 k (omega arith) (omega arith)),
  above_from n ks (λ i d low high. after (suc i) d (omega arith) (omega (arith, high))),
)

gap_from : (n : List ℕ) (ks : Row) (at : ℕ) → at ≤ length ks
    → AllWithin (λ k. name_cmp k.value.name n ≡ Less) ks 0 at
    → AllWithin (λ k. name_cmp k.value.name n ≡ Greater) ks at (length ks) → IsGap n (row_of ks) at
gap_from n ks zero h before after = above_from n ks after
gap_from n [] (suc at) h before after = absurd (omega (arith, h))
gap_from n (k ∷ ks) (suc at) h before after = (
  less_turned k.value.name n (before 0 k (omega arith) (omega arith)),
  gap_from n ks at (omega (arith, h))
      (λ i d low high. before (suc i) d (omega arith) (omega (arith, high)))
      (λ i d low high. after (suc i) d (omega (arith, low)) (omega (arith, high))),
)

index_top : (o : Ordering) → ordering_index o ≤ 2
index_top Less = omega arith
index_top Equal = omega arith
index_top Greater = omega arith

-- of two names that rise, the first is no later seen from a third
index_less : (l m n : List ℕ) → name_cmp l m ≡ Less
    → ordering_index (name_cmp l n) ≤ ordering_index (name_cmp m n)
index_less l m n h =
    elim (name_cmp m n) as (λ o. name_cmp m n ≡ o
    → ordering_index (name_cmp l n) ≤ ordering_index o) [
      | Less ↦ λ e. omega (arith, ap ordering_index (nat_list_cmp_total.trans l m n h e))
      | Equal ↦ λ e. omega (arith, ap ordering_index (less_equal l m n h (equal_turned m n e)))
      | Greater ↦ λ e. index_top (name_cmp l n)
    ] refl

rises : (n : List ℕ) (ks : Row) → IsRising (row_of ks)
    → IsNonDecreasingBy (λ k. ordering_index (name_cmp k.value.name n)) ks
rises n [] rising i j d le lt = absurd (omega (arith, lt))
rises n (k ∷ ks) rising zero zero d le lt = omega arith
rises n (k ∷ ks) rising zero (suc j) d le lt =
    index_less k.value.name (get_or ks j d).value.name n
    (above_at k.value.name ks j d rising.0 (omega (arith, lt)))
rises n (k ∷ ks) rising (suc i) zero d le lt = absurd (omega (arith, le))
rises n (k ∷ ks) rising (suc i) (suc j) d le lt =
    rises n ks rising.1 i j d (omega (arith, le)) (omega (arith, lt))

pub searched : (n : List ℕ) (ks : Row) (r : Result ℕ ℕ) → IsRising (row_of ks)
    → IsSearchInRange r (length ks) → IsBinarySearchResult (λ k. name_cmp k.value.name n) ks r
    → MatchResult r (IsHere n (row_of ks)) (IsGap n (row_of ks))
searched n ks (Ok at) rising bound found = here_from n ks at rising bound found
searched n ks (Err at) rising bound found =
    let parts = found (rises n ks rising) in gap_from n ks at bound parts.0 parts.1

-- what stands at the place that was found
pub here_room : (n : List ℕ) (ks : Row) (at : ℕ) → IsHere n (row_of ks) at → at < length ks
here_room n [] at here = absurd here
here_room n (k ∷ ks) zero here = omega arith
here_room n (k ∷ ks) (suc at) here = omega (arith, here_room n ks at here.1)

pub gap_room : (n : List ℕ) (ks : Row) (at : ℕ) → IsGap n (row_of ks) at → at ≤ length ks
gap_room n ks zero gap = omega arith
gap_room n [] (suc at) gap = absurd gap
gap_room n (k ∷ ks) (suc at) gap = omega (arith, gap_room n ks at gap.1)

pub here_child : (n : List ℕ) (ks : Row) (at : ℕ) (k : Rc Kid Global) → IsHere n (row_of ks) at
    → k ≡ get_or ks at k → child n (row_of ks) ≡ Some k.value.tree
here_child n [] at found here is = absurd here
here_child n (k ∷ ks) zero found here is =
    rw here (ap (λ (x : Rc Kid Global). Some x.value.tree) (sym is))
here_child n (k ∷ ks) (suc at) found here is = rw here.0 (here_child n ks at found here.1 is)

pub gap_child : (n : List ℕ) (kids : Kids) (at : ℕ) → IsGap n kids at → child n kids ≡ None
gap_child n kids zero gap = above_child n kids gap
gap_child n no_kids (suc at) gap = absurd gap
gap_child n (kid m text inside rest) (suc at) gap = rw gap.0 (gap_child n rest at gap.1)

-- what a write at the place makes
pub set_here : (ks : Row) (at : ℕ) (k : Rc Kid Global) → IsHere k.value.name (row_of ks) at
    → row_of (set ks at k) ≡ put_child k.value.name k.value.tree (row_of ks)
set_here [] at new here = absurd here
set_here (k ∷ ks) zero new here = rw here refl
set_here (k ∷ ks) (suc at) new here =
    rw here.0 (ap (kid k.value.name k.value.tree.text k.value.tree.kids)
    (set_here ks at new here.1))

above_insert : (ks : Row) (k : Rc Kid Global) → IsAbove k.value.name (row_of ks)
    → row_of (k ∷ ks) ≡ put_child k.value.name k.value.tree (row_of ks)
above_insert [] new above = refl
above_insert (k ∷ ks) new above = rw above.0 refl

pub insert_gap : (ks : Row) (at : ℕ) (k : Rc Kid Global) → IsGap k.value.name (row_of ks) at
    → row_of (insert ks at k) ≡ put_child k.value.name k.value.tree (row_of ks)
insert_gap ks zero new gap = above_insert ks new gap
insert_gap [] (suc at) new gap = absurd gap
insert_gap (k ∷ ks) (suc at) new gap =
    rw gap.0 (ap (kid k.value.name k.value.tree.text k.value.tree.kids)
    (insert_gap ks at new gap.1))

-- what is left without the child there
pub remove_here : (n : List ℕ) (ks : Row) (at : ℕ) → IsHere n (row_of ks) at
    → row_of (remove ks at) ≡ delete_child n (row_of ks)
remove_here n [] at here = absurd here
remove_here n (k ∷ ks) zero here = rw here refl
remove_here n (k ∷ ks) (suc at) here =
    rw here.0 (ap (kid k.value.name k.value.tree.text k.value.tree.kids)
    (remove_here n ks at here.1))

above_delete : (n : List ℕ) (kids : Kids) → IsAbove n kids → kids ≡ delete_child n kids
above_delete n no_kids above = refl
above_delete n (kid m text inside rest) above = rw above.0 refl

pub gap_delete : (n : List ℕ) (kids : Kids) (at : ℕ) → IsGap n kids at → kids ≡ delete_child n kids
gap_delete n kids zero gap = above_delete n kids gap
gap_delete n no_kids (suc at) gap = absurd gap
gap_delete n (kid m text inside rest) (suc at) gap =
    rw gap.0 (ap (kid m text inside) (gap_delete n rest at gap.1))

-- owners of the same kids show the same
pub same_row : (ks others : Row) → AllZip (λ k other. other.value ≡ k.value) ks others
    → row_of others ≡ row_of ks
same_row [] [] same = refl
same_row [] (o ∷ others) same = absurd same
same_row (k ∷ ks) [] same = absurd same
same_row (k ∷ ks) (o ∷ others) same =
    rw (same.0, same_row ks others same.1) refl
