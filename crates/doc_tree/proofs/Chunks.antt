-- In which chunk a name belongs, and what a change of one chunk makes of all children.
use Rattle.std.proofs.Common.{◌≡◌, ℕ, suc, zero, ◌+◌, ◌-◌, ◌<◌, ◌≤◌, true, false, List, [], ◌∷◌}
use Rattle.std.proofs.Common.{◌++◌, length, get_or, set, drop, refl, sym, ap, subst, ◌∙◌, arith}
use Rattle.std.specs.Prelude.{insert}
use Rattle.std.specs.List.{AllWithin, AllZip, remove}
use Rattle.std.specs.List.Sorted.{IsPartitionedBy}
use Rattle.std.specs.declared.cmp.Ordering.TheVariants.{Less, Equal, Greater}
use Rattle.std.specs.Ordering.{is_le}
use Rattle.std.specs.declared.rc.Rc.{Rc}
use Rattle.std.specs.declared.alloc.Global.{Global}
use Rattle.std.proofs.lemmas.List.{at_drop_more}
use Rattle.std.proofs.lemmas.Cmp.{nat_list_cmp_total}
use Rattle.doc_tree.specs.declared.chunk.Chunk.{Chunk}
use Rattle.doc_tree.specs.declared.chunk.Kid.{Kid}
use Rattle.doc_tree.specs.Edits.{delete_child}
use Rattle.doc_tree.specs.Tree.{DocTree, Kids, no_kids, kid, name_cmp, child, put_child, IsAbove}
use Rattle.doc_tree.specs.Tree.{IsRising}
use Rattle.doc_tree.specs.Rows.{row_of, join, begins_by, IsBelow}
use Rattle.doc_tree.specs.Chunks.{kids_of, with_row, IsChunk, AreChunks, IsIn}
use Rattle.doc_tree.proofs.Joined.{join_again, above_right, rising_left, rising_right, child_left}
use Rattle.doc_tree.proofs.Joined.{child_past, put_left, put_past, delete_left, delete_past}
use Rattle.doc_tree.proofs.Rising.{less_turned, greater_turned, equal_turned, less_equal}
use Rattle.doc_tree.proofs.Rising.{above_later}

abbrev Row : Type 0
Row = List (Rc Kid Global)

abbrev Cut : Type 0
Cut = List (Rc Chunk Global)

-- a name before one that is this one or comes before it
less_before : (l m n : List ℕ) → name_cmp l m ≡ Less → is_le (name_cmp m n) ≡ true
    → name_cmp l n ≡ Less
less_before l m n h le =
    elim (name_cmp m n) as (λ o. name_cmp m n ≡ o → is_le o ≡ true → name_cmp l n ≡ Less) [
      | Less ↦ λ e _. nat_list_cmp_total.trans l m n h e
      | Equal ↦ λ e _. less_equal l m n h (equal_turned m n e)
      | Greater ↦ λ e late. cc
    ] refl le

not_before : (m n : List ℕ) → is_le (name_cmp m n) ≡ false → name_cmp n m ≡ Less
not_before m n late =
    elim (name_cmp m n) as (λ o. name_cmp m n ≡ o → is_le o ≡ false → name_cmp n m ≡ Less) [
      | Less ↦ λ e late. cc
      | Equal ↦ λ e late. cc
      | Greater ↦ λ e _. greater_turned m n e
    ] refl late

-- the order of a row, the first name of the next one, and what comes after that
past_first : (m n : List ℕ) (ks : Row) (more : Kids) → IsAbove m (join (row_of ks) more)
    → begins_by n (row_of ks) ≡ true → name_cmp m n ≡ Less
past_first m n [] more above begins = cc
past_first m n (k ∷ ks) more above begins = less_before m k.value.name n above.0 begins

below_first : (n : List ℕ) (l : Kids) (ks : Row) (more : Kids)
    → IsRising (join l (join (row_of ks) more)) → begins_by n (row_of ks) ≡ true → IsBelow n l
below_first n no_kids ks more rising begins = tt
below_first n (kid m text inside rest) ks more rising begins = (
  less_turned m n (past_first m n ks more
      (above_right m rest (join (row_of ks) more) rising.0) begins),
  below_first n rest ks more rising.1 begins,
)

first_after : (n : List ℕ) (ks : Row) (more : Kids) → 0 < length ks
    → IsRising (join (row_of ks) more) → begins_by n (row_of ks) ≡ false
    → IsAbove n (join (row_of ks) more)
first_after n [] more some rising late = absurd (omega (arith, some))
first_after n (k ∷ ks) more some rising late =
    let less = not_before k.value.name n late in
    (less, above_later n k.value.name (join (row_of ks) more) less rising.0)

-- what the search for the chunk of a name asks
past_later : (m n : List ℕ) (cs : Cut) (j : ℕ) (d : Rc Chunk Global) → IsAbove m (kids_of cs)
    → j < length cs → begins_by n (row_of (get_or cs j d).value.row.items) ≡ true
    → name_cmp m n ≡ Less
past_later m n [] j d above h begins = absurd (omega (arith, h))
past_later m n (c ∷ cs) zero d above h begins =
    past_first m n c.value.row.items (kids_of cs) above begins
past_later m n (c ∷ cs) (suc j) d above h begins =
    past_later m n cs j d (above_right m (row_of c.value.row.items) (kids_of cs) above)
    (omega (arith, h)) begins

begins_before : (n : List ℕ) (ks : Row) (cs : Cut) (j : ℕ) (d : Rc Chunk Global) → 0 < length ks
    → IsRising (join (row_of ks) (kids_of cs)) → j < length cs
    → begins_by n (row_of (get_or cs j d).value.row.items) ≡ true → begins_by n (row_of ks) ≡ true
begins_before n [] cs j d some rising h begins = absurd (omega (arith, some))
begins_before n (k ∷ ks) cs j d some rising h begins =
    ap is_le (past_later k.value.name n cs j d
    (above_right k.value.name (row_of ks) (kids_of cs) rising.0) h begins)

pub partitioned : (n : List ℕ) (cs : Cut) → AreChunks cs → IsRising (kids_of cs)
    → IsPartitionedBy (λ c. begins_by n (row_of c.value.row.items)) cs
partitioned n [] sound rising i j d le lt begins = absurd (omega (arith, lt))
partitioned n (c ∷ cs) sound rising zero zero d le lt begins = begins
partitioned n (c ∷ cs) sound rising zero (suc j) d le lt begins =
    begins_before n c.value.row.items cs j d sound.0.some rising (omega (arith, lt)) begins
partitioned n (c ∷ cs) sound rising (suc i) zero d le lt begins = absurd (omega (arith, le))
partitioned n (c ∷ cs) sound rising (suc i) (suc j) d le lt begins =
    partitioned n cs sound.1 (rising_right (row_of c.value.row.items) (kids_of cs) rising) i j d
    (omega (arith, le)) (omega (arith, lt)) begins

later_above : (n : List ℕ) (cs : Cut) → AreChunks cs → IsRising (kids_of cs)
    → ((d : Rc Chunk Global) → 0 < length cs
    → begins_by n (row_of (get_or cs 0 d).value.row.items) ≡ false) → IsAbove n (kids_of cs)
later_above n [] sound rising after = tt
later_above n (c ∷ cs) sound rising after =
    first_after n c.value.row.items (kids_of cs) sound.0.some rising (after c (omega arith))

earlier_below : (n : List ℕ) (l : Kids) (cs : Cut) → IsRising (join l (kids_of cs)) → 0 < length cs
    → ((d : Rc Chunk Global) → begins_by n (row_of (get_or cs 0 d).value.row.items) ≡ true)
    → IsBelow n l
earlier_below n l [] rising some before = absurd (omega (arith, some))
earlier_below n l (c ∷ cs) rising some before =
    below_first n l c.value.row.items (kids_of cs) rising (before c)

-- and what it finds: the last chunk that begins by the name, or the first
pub found : (n : List ℕ) (cs : Cut) (at past : ℕ) → AreChunks cs → IsRising (kids_of cs)
    → 0 < length cs → past ≤ length cs → at ≡ past - 1
    → AllWithin (λ c. begins_by n (row_of c.value.row.items) ≡ true) cs 0 past
    → AllWithin (λ c. begins_by n (row_of c.value.row.items) ≡ false) cs past (length cs)
    → IsIn n cs at
found n [] at past sound rising some h e before after = absurd (omega (arith, some))
found n (c ∷ cs) zero past sound rising some h e before after =
    later_above n cs sound.1 (rising_right (row_of c.value.row.items) (kids_of cs) rising)
    (λ d more. after 1 d (omega (arith, e)) (omega (arith, more)))
found n (c ∷ cs) (suc at) past sound rising some h e before after = (
  earlier_below n (row_of c.value.row.items) cs rising (omega (arith, h, e))
      (λ d. before 1 d (omega arith) (omega (arith, e))),
  found n cs at (past - 1) sound.1 (rising_right (row_of c.value.row.items) (kids_of cs) rising)
      (omega (arith, h, e)) (omega (arith, h, e)) (omega (arith, e))
      (λ i d low high. before (suc i) d (omega arith) (omega (arith, high, e)))
      (λ i d low high. after (suc i) d (omega (arith, low, e)) (omega (arith, high))),
)

-- what is so of that chunk
pub in_room : (n : List ℕ) (cs : Cut) (at : ℕ) → IsIn n cs at → at < length cs
in_room n [] at here = absurd here
in_room n (c ∷ cs) zero here = omega arith
in_room n (c ∷ cs) (suc at) here = omega (arith, in_room n cs at here.1)

pub in_rising : (n : List ℕ) (cs : Cut) (at : ℕ) (c : Rc Chunk Global) → IsIn n cs at
    → c ≡ get_or cs at c → IsRising (kids_of cs) → IsRising (row_of c.value.row.items)
in_rising n [] at new here is rising = absurd here
in_rising n (c ∷ cs) zero new here is rising =
    rw is (rising_left (row_of c.value.row.items) (kids_of cs) rising)
in_rising n (c ∷ cs) (suc at) new here is rising =
    in_rising n cs at new here.1 is (rising_right (row_of c.value.row.items) (kids_of cs) rising)

pub in_child : (n : List ℕ) (cs : Cut) (at : ℕ) (c : Rc Chunk Global) → IsIn n cs at
    → c ≡ get_or cs at c → child n (kids_of cs) ≡ child n (row_of c.value.row.items)
in_child n [] at new here is = absurd here
in_child n (c ∷ cs) zero new here is =
    rw is (child_left n (row_of c.value.row.items) (kids_of cs) here)
in_child n (c ∷ cs) (suc at) new here is =
    child_past n (row_of c.value.row.items) (kids_of cs) here.0 ∙ in_child n cs at new here.1 is

pub in_put : (n : List ℕ) (d : DocTree) (cs : Cut) (at : ℕ) (c : Rc Chunk Global) → IsIn n cs at
    → c ≡ get_or cs at c
    → with_row cs at (put_child n d (row_of c.value.row.items)) ≡ put_child n d (kids_of cs)
in_put n d [] at new here is = absurd here
in_put n d (c ∷ cs) zero new here is =
    rw is (sym (put_left n d (row_of c.value.row.items) (kids_of cs) here))
in_put n d (c ∷ cs) (suc at) new here is =
    ap (join (row_of c.value.row.items)) (in_put n d cs at new here.1 is)
    ∙ sym (put_past n d (row_of c.value.row.items) (kids_of cs) here.0)

pub in_delete : (n : List ℕ) (cs : Cut) (at : ℕ) (c : Rc Chunk Global) → IsIn n cs at
    → c ≡ get_or cs at c
    → with_row cs at (delete_child n (row_of c.value.row.items)) ≡ delete_child n (kids_of cs)
in_delete n [] at new here is = absurd here
in_delete n (c ∷ cs) zero new here is =
    rw is (sym (delete_left n (row_of c.value.row.items) (kids_of cs) here))
in_delete n (c ∷ cs) (suc at) new here is =
    ap (join (row_of c.value.row.items)) (in_delete n cs at new here.1 is)
    ∙ sym (delete_past n (row_of c.value.row.items) (kids_of cs) here.0)

-- a row in the place of a chunk's: none, one, or two halves
row_none : (ks : Row) → length ks ≡ 0 → row_of ks ≡ no_kids
row_none [] none = refl
row_none (k ∷ ks) none = absurd (omega (arith, none))

pub remove_row : (cs : Cut) (at : ℕ) (ks : Row) → at < length cs → length ks ≡ 0
    → kids_of (remove cs at) ≡ with_row cs at (row_of ks)
remove_row [] at ks h none = absurd (omega (arith, h))
remove_row (c ∷ cs) zero ks h none = rw (row_none ks none) refl
remove_row (c ∷ cs) (suc at) ks h none =
    ap (join (row_of c.value.row.items)) (remove_row cs at ks (omega (arith, h)) none)

pub set_row : (cs : Cut) (at : ℕ) (c : Rc Chunk Global) → at < length cs
    → kids_of (set cs at c) ≡ with_row cs at (row_of c.value.row.items)
set_row [] at new h = absurd (omega (arith, h))
set_row (c ∷ cs) zero new h = refl
set_row (c ∷ cs) (suc at) new h =
    ap (join (row_of c.value.row.items)) (set_row cs at new (omega (arith, h)))

row_append : (xs ys : Row) → row_of (xs ++ ys) ≡ join (row_of xs) (row_of ys)
row_append [] ys = refl
row_append (k ∷ ks) ys =
    ap (kid k.value.name k.value.tree.text k.value.tree.kids) (row_append ks ys)

pub cut_row : (cs : Cut) (at : ℕ) (low high : Rc Chunk Global) → at < length cs
    → kids_of (insert (set cs at high) at low)
    ≡ with_row cs at (row_of (low.value.row.items ++ high.value.row.items))
cut_row [] at low high h = absurd (omega (arith, h))
cut_row (c ∷ cs) zero low high h =
    sym (join_again (row_of low.value.row.items) (row_of high.value.row.items) (kids_of cs))
    ∙ ap (λ row. join row (kids_of cs)) (sym (row_append low.value.row.items high.value.row.items))
cut_row (c ∷ cs) (suc at) low high h =
    ap (join (row_of c.value.row.items)) (cut_row cs at low high (omega (arith, h)))

-- owners of the same chunks show the same
pub same_kids : (cs others : Cut) → AllZip (λ c other. other.value ≡ c.value) cs others
    → kids_of others ≡ kids_of cs
same_kids [] [] same = refl
same_kids [] (o ∷ others) same = absurd same
same_kids (c ∷ cs) [] same = absurd same
same_kids (c ∷ cs) (o ∷ others) same =
    rw (same.0, same_kids cs others same.1) refl

pub same_chunks : (cs others : Cut) → AreChunks cs
    → AllZip (λ c other. other.value ≡ c.value) cs others → AreChunks others
same_chunks [] [] sound same = tt
same_chunks [] (o ∷ others) sound same = absurd same
same_chunks (c ∷ cs) [] sound same = absurd same
same_chunks (c ∷ cs) (o ∷ others) sound same =
    (rw same.0 sound.0, same_chunks cs others sound.1 same.1)

-- a row in the place of a chunk's, among owners of the same chunks
same_with_row : (cs others : Cut) (at : ℕ) (new : Kids)
    → AllZip (λ c other. other.value ≡ c.value) cs others
    → with_row others at new ≡ with_row cs at new
same_with_row [] [] at new same = refl
same_with_row [] (o ∷ others) at new same = absurd same
same_with_row (c ∷ cs) [] at new same = absurd same
same_with_row (c ∷ cs) (o ∷ others) zero new same = rw (same_kids cs others same.1) refl
same_with_row (c ∷ cs) (o ∷ others) (suc at) new same =
    rw (same.0, same_with_row cs others at new same.1) refl

-- the children with one more, made among owners of the same chunks
pub put_at : (n : List ℕ) (d : DocTree) (cs others : Cut) (at : ℕ) (c : Rc Chunk Global)
    → AllZip (λ c other. other.value ≡ c.value) cs others → IsIn n cs at → c ≡ get_or cs at c
    → with_row others at (put_child n d (row_of c.value.row.items)) ≡ put_child n d (kids_of cs)
put_at n d cs others at c same here is =
    same_with_row cs others at (put_child n d (row_of c.value.row.items)) same
    ∙ in_put n d cs at c here is

pub same_room : (cs others : Cut) (at : ℕ) → AllZip (λ c other. other.value ≡ c.value) cs others
    → at < length cs → at < length others
same_room [] others at same h = absurd (omega (arith, h))
same_room (c ∷ cs) [] at same h = absurd same
same_room (c ∷ cs) (o ∷ others) zero same h = omega arith
same_room (c ∷ cs) (o ∷ others) (suc at) same h =
    omega (arith, same_room cs others at same.1 (omega (arith, h)))

pub chunks_set : (cs : Cut) (at : ℕ) (c : Rc Chunk Global) → AreChunks cs → IsChunk c.value
    → AreChunks (set cs at c)
chunks_set [] at new sound is = tt
chunks_set (c ∷ cs) zero new sound is = (is, sound.1)
chunks_set (c ∷ cs) (suc at) new sound is = (sound.0, chunks_set cs at new sound.1 is)

pub chunks_insert : (cs : Cut) (at : ℕ) (c : Rc Chunk Global) → AreChunks cs → IsChunk c.value
    → AreChunks (insert cs at c)
chunks_insert cs zero new sound is = (is, sound)
chunks_insert [] (suc at) new sound is = (is, tt)
chunks_insert (c ∷ cs) (suc at) new sound is = (sound.0, chunks_insert cs at new sound.1 is)

pub chunks_remove : (cs : Cut) (at : ℕ) → at < length cs → AreChunks cs → AreChunks (remove cs at)
chunks_remove [] at h sound = absurd (omega (arith, h))
chunks_remove (c ∷ cs) zero h sound = sound.1
chunks_remove (c ∷ cs) (suc at) h sound = (sound.0, chunks_remove cs at (omega (arith, h)) sound.1)

-- the next chunk of those that are left
pub kids_drop : (cs : Cut) (i : ℕ) (c : Rc Chunk Global) → i < length cs → c ≡ get_or cs i c
    → kids_of (drop i cs) ≡ join (row_of c.value.row.items) (kids_of (drop (i + 1) cs))
kids_drop cs i c h is =
    at_drop_more kids_of cs i c h
    ∙ ap (λ (x : Rc Chunk Global). join (row_of x.value.row.items) (kids_of (drop (i + 1) cs)))
    (sym is)

pub chunks_drop : (cs : Cut) (i : ℕ) (c : Rc Chunk Global) → i < length cs → c ≡ get_or cs i c
    → AreChunks (drop i cs) → IsChunk c.value × AreChunks (drop (i + 1) cs)
chunks_drop cs i c h is sound =
    subst AreChunks (at_drop_more (λ (rest : Cut). rest) cs i c h
    ∙ ap (λ (x : Rc Chunk Global). x ∷ drop (i + 1) cs) (sym is)) sound
