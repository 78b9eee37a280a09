-- Indexes into a row that is two rows with an entry between them.
use Rattle.std.proofs.Common.{◌≡◌, ℕ, zero, suc, ◌+◌, List, Some, refl, sym}
use Rattle.std.proofs.Common.{arith}
use Rattle.doc_tree.specs.Tree.{DocTree, Kids, no_kids, kid, kid_count}
use Rattle.doc_tree.specs.Rows.{join}
use Rattle.kids_avl.specs.declared.reading.Spot.{Spot}
use Rattle.kids_avl.specs.declared.reading.Spot.TheVariants.{Here, Past}
use Rattle.kids_avl.specs.Spots.{IsPast}
use Rattle.kids_avl.specs.Entries.{Entries, no_entries, entry, name_of, child_of, left_of, right_of}
use Rattle.kids_avl.specs.Entries.{IsEntry, kids_of, kid_at}

kid_left : (i : ℕ) (l r : Kids) (x : List ℕ × DocTree) → kid_at i l ≡ Some x
    → kid_at i (join l r) ≡ Some x
kid_left i no_kids r x is = cc
kid_left zero (kid n t inside rest) r x is = is
kid_left (suc i) (kid n t inside rest) r x is = kid_left i rest r x is

kid_past : (i j : ℕ) (l r : Kids) → i ≡ j + kid_count l → kid_at i (join l r) ≡ kid_at j r
kid_past i j no_kids r e = let same : i ≡ j = omega (arith, e) in rw same refl
kid_past zero j (kid n t inside rest) r e = absurd (omega (arith, e))
kid_past (suc i) j (kid n t inside rest) r e = kid_past i j rest r (omega (arith, e))

pub spot_left : (i : ℕ) (t : Entries) (x : List ℕ × DocTree) → Some x ≡ kid_at i (kids_of
    (left_of t))
    → Some x ≡ kid_at i (kids_of t)
spot_left i no_entries x is = is
spot_left i (entry n d l r) x is =
    sym (kid_left i (kids_of l) (kid n d.text d.kids (kids_of r)) x (sym is))

pub spot_here : (i : ℕ) (t : Entries) → IsEntry t → i ≡ kid_count (kids_of (left_of t))
    → Some (name_of t, child_of t) ≡ kid_at i (kids_of t)
spot_here i no_entries is e = absurd is
spot_here i (entry n d l r) is e =
    sym (kid_past i 0 (kids_of l) (kid n d.text d.kids (kids_of r)) (omega (arith, e)))

pub spot_right : (i j : ℕ) (t : Entries) → IsEntry t
    → i ≡ j + 1 + kid_count (kids_of (left_of t))
    → kid_at j (kids_of (right_of t)) ≡ kid_at i (kids_of t)
spot_right i j no_entries is e = absurd is
spot_right i j (entry n d l r) is e =
    sym (kid_past i (suc j) (kids_of l) (kid n d.text d.kids (kids_of r)) (omega (arith, e)))

-- how far past the row an index is that was past what is left of an entry and the entry itself
pub past_right : {A : Type 0} (i j l n m : ℕ) (spot : Spot A) → IsPast j n spot
    → i ≡ j + 1 + l → m ≡ l + 1 + n → IsPast i m spot
past_right i j l n m (Here a) past index row = tt
past_right i j l n m (Past more) past index row = omega (arith, past, index, row)

pub ruleset spots = (spot_left, spot_here, spot_right)
