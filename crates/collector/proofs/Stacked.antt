-- The cells on a stack, in the items that hold them: a push, and what leaves it.
use Rattle.std.proofs.Common.{◌≡◌, ◌≢◌, ◌+◌, ◌<◌, ◌≤◌, ◌==◌, ℕ, zero, suc, Bool, true, false}
use Rattle.std.proofs.Common.{nat_lt, cond, List, [], ◌∷◌, length, get_or, slice_set, Some, None}
use Rattle.std.proofs.Common.{refl, sym, ◌∙◌, ap, arith, get_or-set_other, get_or-set_same}
use Rattle.std.proofs.Common.{eq-eqb, eqb-true, ne_eqb}
use Rattle.std.proofs.lemmas.Bool.{false≢true, le-ltb, lt-ltb}
use Rattle.std.proofs.lemmas.List.{length-set}
use Rattle.collector.specs.Stack.{AllBelow, Stack, down_to, has_room, is_empty, pushed, top_first}
use Rattle.collector.specs.Stack.{top_of, top_or, without}

pub top_first-length : (items : List ℕ) (h : ℕ) → length (top_first items h) ≡ h
top_first-length items zero = refl
top_first-length items (suc h) = ap suc (top_first-length items h)

top_first-set : (items : List ℕ) (c h i : ℕ) → h ≤ i
    → top_first (slice_set items i c) h ≡ top_first items h
top_first-set items c zero i le = refl
top_first-set items c (suc h) i le =
    let other : h ≢ i = omega arith in
    ap (λ (x : ℕ). x ∷ top_first (slice_set items i c) h) (get_or-set_other items i h c 0 other)
    ∙ ap (λ (xs : List ℕ). get_or items h 0 ∷ xs) (top_first-set items c h i (omega arith))

top_first-more : (items : List ℕ) (c h : ℕ) → h < length items
    → top_first (slice_set items h c) (h + 1) ≡ c ∷ top_first items h
top_first-more items c h lt =
    ap (λ (k : ℕ). top_first (slice_set items h c) k) next
    ∙ ap (λ (x : ℕ). x ∷ top_first (slice_set items h c) h) (get_or-set_same items h c 0 lt)
    ∙ ap (λ (xs : List ℕ). c ∷ xs) (top_first-set items c h h (omega arith))
  where
    next : h + 1 ≡ suc h
    next = omega arith

-- A push.

pub room_there : (items : List ℕ) (h : ℕ) → h < length items
    → nat_lt (length (top_first items h)) (length items) ≡ true
room_there items h lt =
    ap (λ (n : ℕ). nat_lt n (length items)) (top_first-length items h) ∙ lt-ltb h (length items) lt

pub room_gone : (items : List ℕ) (h : ℕ) → length items ≤ h
    → nat_lt (length (top_first items h)) (length items) ≡ false
room_gone items h le =
    ap (λ (n : ℕ). nat_lt n (length items)) (top_first-length items h) ∙ le-ltb h (length items) le

pub pushed_there : (items : List ℕ) (c h : ℕ) (s : Stack)
    → record { room = length items; cells = top_first items h } ≡ s → h < length items
    → record {
      room = length (slice_set items h c);
      cells = top_first (slice_set items h c) (h + 1);
    } ≡ pushed c s
pushed_there items c h s is lt =
    ap (λ (n : ℕ). record {
      room = n;
      cells = top_first (slice_set items h c) (h + 1);
    }) (length-set items h c)
    ∙ ap (λ (xs : List ℕ). record { room = length items; cells = xs }) (top_first-more items c h lt)
    ∙ sym (ap (λ (b : Bool). cond b
    (record { room = length items; cells = c ∷ top_first items h })
    (record { room = length items; cells = top_first items h })) (room_there items h lt))
    ∙ ap (λ (x : Stack). pushed c x) is

pub pushed_gone : (items : List ℕ) (c h : ℕ) (s : Stack)
    → record { room = length items; cells = top_first items h } ≡ s → length items ≤ h
    → s ≡ pushed c s
pushed_gone items c h s is le =
    sym (ap (λ (b : Bool). cond b (record s { cells = c ∷ s.cells }) s) full)
  where
    full : has_room s ≡ false
    full = sym (ap (λ (x : Stack). has_room x) is) ∙ room_gone items h le

-- What is on top, once a cell has left it.

pub top_none : (xs : List ℕ) → top_of xs ≡ None → xs ≡ []
top_none [] is = refl
top_none (x ∷ xs) is = absurd (cc is)

pub top_or_is : (c x : ℕ) (xs : List ℕ) → top_of xs ≡ Some x → x ≡ top_or c xs
top_or_is c x [] is = absurd (cc is)
top_or_is c x (y ∷ ys) is = let first : y ≡ x = cc is in sym first

none_step : (at y : ℕ) (ys : List ℕ) (b : Bool) → (y == at) ≡ b
    → top_of (cond b (without at ys) (y ∷ ys)) ≡ None
    → without at (cond b (y ∷ ys) (down_to at ys)) ≡ []
none_step at y ys true test is =
    ap (λ (b : Bool). cond b (without at ys) (y ∷ ys)) test ∙ top_none (without at ys) is
none_step at y ys false test is = absurd (cc is)

pub none_left : (at : ℕ) (xs : List ℕ) → top_of (without at xs) ≡ None
    → without at (down_to at xs) ≡ []
none_left at [] is = refl
none_left at (y ∷ ys) is = none_step at y ys (y == at) refl is

other_step : (at x y : ℕ) (ys : List ℕ) (b : Bool) → (y == at) ≡ b
    → (top_of (without at ys) ≡ Some x → x ≢ at)
    → top_of (cond b (without at ys) (y ∷ ys)) ≡ Some x → x ≢ at
other_step at x y ys true test before is = before is
other_step at x y ys false test before is =
    λ same. let first : y ≡ x = cc is in
    absurd (false≢true (sym test ∙ eq-eqb y at (first ∙ same)))

pub other_left : (at x : ℕ) (xs : List ℕ) → top_of (without at xs) ≡ Some x → x ≢ at
other_left at x [] is = absurd (cc is)
other_left at x (y ∷ ys) is = other_step at x y ys (y == at) refl (other_left at x ys) is

looked_step : (at x y : ℕ) (ys : List ℕ) (b : Bool) → (y == at) ≡ b → x ≢ at
    → (top_of (without at ys) ≡ Some x → without x (without at ys) ≡ without x (down_to x ys))
    → top_of (cond b (without at ys) (y ∷ ys)) ≡ Some x
    → without x (cond b (without at ys) (y ∷ ys))
    ≡ without x (cond (y == x) (y ∷ ys) (down_to x ys))
looked_step at x y ys true test other before is =
    before is
    ∙ sym (ap (λ (b : Bool). without x (cond b (y ∷ ys) (down_to x ys)))
    (ne_eqb y x (λ same. other (sym same ∙ eqb-true y at test))))
looked_step at x y ys false test other before is =
    let first : y ≡ x = cc is in
    sym (ap (λ (b : Bool). without x (cond b (y ∷ ys) (down_to x ys))) (eq-eqb y x first))

pub looked_left : (at x : ℕ) (xs : List ℕ) → top_of (without at xs) ≡ Some x
    → without x (without at xs) ≡ without x (down_to x xs)
looked_left at x [] is = absurd (cc is)
looked_left at x (y ∷ ys) is =
    looked_step at x y ys (y == at) refl (other_left at x (y ∷ ys) is) (looked_left at x ys) is

-- Cells of the heap.

below_step : (n c y : ℕ) (ys : List ℕ) (b : Bool) → AllBelow n (y ∷ ys)
    → AllBelow n (without c ys) → AllBelow n (cond b (without c ys) (y ∷ ys))
below_step n c y ys true all rest = rest
below_step n c y ys false all rest = all

pub without_below : (n c : ℕ) (xs : List ℕ) → AllBelow n xs → AllBelow n (without c xs)
without_below n c [] all = tt
without_below n c (y ∷ ys) all = below_step n c y ys (y == c) all (without_below n c ys all.1)

down_step : (n c y : ℕ) (ys : List ℕ) (b : Bool) → AllBelow n (y ∷ ys)
    → AllBelow n (down_to c ys) → AllBelow n (cond b (y ∷ ys) (down_to c ys))
down_step n c y ys true all rest = all
down_step n c y ys false all rest = rest

pub down_below : (n c : ℕ) (xs : List ℕ) → AllBelow n xs → AllBelow n (down_to c xs)
down_below n c [] all = tt
down_below n c (y ∷ ys) all = down_step n c y ys (y == c) all (down_below n c ys all.1)

pub top_below : (n x : ℕ) (xs : List ℕ) → AllBelow n xs → top_of xs ≡ Some x → x < n
top_below n x [] all is = absurd (cc is)
top_below n x (y ∷ ys) all is = let first : y ≡ x = cc is in omega (arith, first, all.0)

-- A stack is empty where its height is 0.

pub empty_of : (items : List ℕ) (h : ℕ) → is_empty (top_first items h) ≡ (h == 0)
empty_of items zero = refl
empty_of items (suc h) =
    let some : suc h ≢ 0 = omega arith in
    sym (ne_eqb (suc h) 0 some)

pub nothing_waits : (xs : List ℕ) → is_empty xs ≡ true → xs ≡ []
nothing_waits [] is = refl
nothing_waits (x ∷ xs) is = absurd (false≢true is)
