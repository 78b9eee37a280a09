-- The roots that are cells become places, in order.
use Rattle.std.proofs.Common.{◌≡◌, ◌<◌, ◌≤◌, ◌+◌, ◌++◌, ◌∷◌, ◌∙◌, ℕ, zero, suc, List, [], All}
use Rattle.std.proofs.Common.{length}
use Rattle.std.proofs.Common.{drop, take, refl, ap, arith}
use Rattle.std.specs.Prelude.{slice_set}
use Rattle.std.proofs.lemmas.List.Elements.{All-cons, All-nil}
use Rattle.local_references.specs.declared.roots.Root.{Root}
use Rattle.local_references.specs.declared.roots.Root.TheVariants as root
use Rattle.local_references.specs.Roots.{AllStand, RootStands, slot_at}
use Rattle.minor_heap.specs.declared.fields.MinorField.{MinorField}
use Rattle.local_records.specs.Local.{IsRootBelow}
use Rattle.local_records.specs.Settling.{cell_count, cells_in, places_of, shared_at, shared_from}

pub places_many : (places : List ℕ) (roots : List Root)
    → length (places_of places roots) ≡ cell_count roots
places_many places [] = refl
places_many places (root.Null ∷ roots) = let e = places_many places roots in omega (arith, e)
places_many places (root.Num n ∷ roots) = let e = places_many places roots in omega (arith, e)
places_many places (root.Private r ∷ roots) =
    let e = places_many places roots in omega (arith, e)
places_many places (root.Shared place ∷ roots) =
    let e = places_many places roots in omega (arith, e)

-- the roots of which the first so many are shared
abbrev pub shared_upto : ℕ → List Root → ℕ → List Root
shared_upto first roots i = shared_from first (take i roots) ++ drop i roots

pub upto_many : (first : ℕ) (roots : List Root) (i : ℕ)
    → length (shared_upto first roots i) ≡ length roots
upto_many first [] zero = refl
upto_many first [] (suc i) = refl
upto_many first (x ∷ roots) zero = refl
upto_many first (x ∷ roots) (suc i) =
    let many = upto_many (first + cells_in x) roots i in omega (arith, many)

-- the next one is as it was
pub next_as_was : (first : ℕ) (roots : List Root) (i : ℕ)
    → slot_at (shared_upto first roots i) i ≡ slot_at roots i
next_as_was first [] zero = refl
next_as_was first [] (suc i) = refl
next_as_was first (x ∷ roots) zero = refl
next_as_was first (x ∷ roots) (suc i) = next_as_was (first + cells_in x) roots i

next_all : (first : ℕ) (roots : List Root) (i : ℕ) → i < length roots
    → slice_set (shared_upto first roots i) i
    (shared_at (first + cell_count (take i roots)) (slot_at roots i))
    ≡ shared_upto first roots (suc i)
next_all first [] i lt = absurd (omega (arith, lt))
next_all first (x ∷ roots) zero lt =
    ap (λ (n : ℕ). shared_at n x ∷ roots) (let e : first + 0 ≡ first = omega arith in e)
next_all first (x ∷ roots) (suc i) lt =
    ap (λ (n : ℕ). shared_at first x
    ∷ slice_set (shared_upto (first + cells_in x) roots i) i (shared_at n (slot_at roots i)))
    (let e : first + (cells_in x + cell_count (take i roots))
    ≡ (first + cells_in x) + cell_count (take i roots) = omega arith in e)
    ∙ ap (λ (xs : List Root). shared_at first x ∷ xs)
    (next_all (first + cells_in x) roots i (omega (arith, lt)))

pub share_next : (first : ℕ) (roots now : List Root) (i next : ℕ) (y : Root) → i < length roots
    → now ≡ shared_upto first roots i → next ≡ first + cell_count (take i roots)
    → y ≡ shared_at next (slot_at roots i) → slice_set now i y ≡ shared_upto first roots (i + 1)
share_next first roots now i next y lt now_is next_is y_is =
    ap (λ (xs : List Root). slice_set xs i y) now_is
    ∙ ap (λ (x : Root). slice_set (shared_upto first roots i) i x)
    (y_is ∙ ap (λ (n : ℕ). shared_at n (slot_at roots i)) next_is)
    ∙ next_all first roots i lt
    ∙ ap (λ (n : ℕ). shared_upto first roots n) (let e : suc i ≡ i + 1 = omega arith in e)

count_all : (roots : List Root) (i : ℕ) → i < length roots
    → cell_count (take (suc i) roots) ≡ cell_count (take i roots) + cells_in (slot_at roots i)
count_all [] i lt = absurd (omega (arith, lt))
count_all (x ∷ roots) zero lt = omega arith
count_all (x ∷ roots) (suc i) lt =
    let e = count_all roots i (omega (arith, lt)) in omega (arith, e)

pub count_next : (roots : List Root) (i : ℕ) → i < length roots
    → cell_count (take (i + 1) roots) ≡ cell_count (take i roots) + cells_in (slot_at roots i)
count_next roots i lt =
    ap (λ (n : ℕ). cell_count (take n roots)) (let e : i + 1 ≡ suc i = omega arith in e)
    ∙ count_all roots i lt

pub count_within : (roots : List Root) (i : ℕ) → cell_count (take i roots) ≤ cell_count roots
count_within [] zero = omega arith
count_within [] (suc i) = omega arith
count_within (x ∷ roots) zero = omega arith
count_within (x ∷ roots) (suc i) = let le = count_within roots i in omega (arith, le)

below_one : (place n : ℕ) (x : Root) → place + cells_in x ≤ n → IsRootBelow n (shared_at place x)
below_one place n root.Null le = tt
below_one place n (root.Num value) le = tt
below_one place n (root.Private r) le = omega (arith, le)
below_one place n (root.Shared q) le = omega (arith, le)

stands_one : (records : List (List MinorField)) (place : ℕ) (x : Root)
    → RootStands records (shared_at place x)
stands_one records place root.Null = tt
stands_one records place (root.Num value) = tt
stands_one records place (root.Private r) = tt
stands_one records place (root.Shared q) = tt

-- none of them is a record
pub shared_stand : (records : List (List MinorField)) (first : ℕ) (roots : List Root)
    → AllStand records (shared_from first roots)
shared_stand records first [] k = tt
shared_stand records first (x ∷ roots) zero = stands_one records first x
shared_stand records first (x ∷ roots) (suc k) =
    shared_stand records (first + cells_in x) roots k

-- they are below the place after the last
pub shared_below : (first n : ℕ) (roots : List Root) → first + cell_count roots ≤ n
    → All (IsRootBelow n) (shared_from first roots)
shared_below first n [] le = All-nil (IsRootBelow n)
shared_below first n (x ∷ roots) le =
    All-cons (IsRootBelow n) (shared_at first x) (shared_from (first + cells_in x) roots)
    (below_one first n x (omega (arith, le)))
    (shared_below (first + cells_in x) n roots (omega (arith, le)))
