-- Private roots, in order: where each stands among them, and what it denotes after a move.
use Rattle.std.proofs.Common.{◌≡◌, ◌≢◌, ◌<◌, ◌≤◌, ◌+◌, ◌++◌, ◌∷◌, ◌∙◌, ◌⊎◌, ⊎_elim, ℕ, zero, suc}
use Rattle.std.proofs.Common.{List, [], All, length, length-append, map, take, refl, sym, ap, subst}
use Rattle.std.proofs.Common.{arith}
use Rattle.std.specs.Prelude.{slice_index_or, slice_set}
use Rattle.std.proofs.lemmas.List.{get_or-set_other, get_or-set_same, length-map, length-set}
use Rattle.std.proofs.Math.ListN.{get_or-map}
use Rattle.cell_words.specs.Term.{Term}
use Rattle.minor_heap.specs.declared.fields.MinorField.{MinorField}
use Rattle.minor_heap.specs.declared.fields.MinorRef.{MinorRef}
use Rattle.minor_heap.specs.Nursery.{Stands}
use Rattle.minor_heap.specs.Terms.{term_of}
use Rattle.aged_nursery.specs.Survivors.{AreSurvivors}
use Rattle.local_references.specs.declared.roots.Root.{Root}
use Rattle.local_references.specs.declared.roots.Root.TheVariants as root
use Rattle.local_references.specs.Roots.{AllStand, AreMoved, IsMoved, IsPrivate, RootStands}
use Rattle.local_references.specs.Roots.{RootsKeep, private_of, rank, root_term, slot_at}

abbrev pub first_ref : MinorRef
first_ref = record { number = 0 }

abbrev ref_or : Root → MinorRef
ref_or (root.Private r) = r
ref_or root.Null = first_ref
ref_or (root.Num value) = first_ref
ref_or (root.Shared place) = first_ref

-- One more root.

pub at_any : (slots : List Root) (k : ℕ) (d : Root) → k < length slots
    → slice_index_or slots k d ≡ slot_at slots k
at_any [] k d lt = absurd (omega (arith, lt))
at_any (x ∷ slots) zero d lt = refl
at_any (x ∷ slots) (suc k) d lt = at_any slots k d (omega (arith, lt))

next_all : (slots : List Root) (k : ℕ) → k < length slots
    → private_of (take (suc k) slots)
    ≡ private_of (take k slots) ++ private_of (slot_at slots k ∷ [])
next_all [] k lt = absurd (omega (arith, lt))
next_all (x ∷ slots) zero lt = refl
next_all (root.Private q ∷ slots) (suc k) lt =
    ap (λ (rs : List MinorRef). q ∷ rs) (next_all slots k (omega (arith, lt)))
next_all (root.Null ∷ slots) (suc k) lt = next_all slots k (omega (arith, lt))
next_all (root.Num value ∷ slots) (suc k) lt = next_all slots k (omega (arith, lt))
next_all (root.Shared place ∷ slots) (suc k) lt = next_all slots k (omega (arith, lt))

pub next_root : (slots : List Root) (k : ℕ) (x : Root) → k < length slots → x ≡ slot_at slots k
    → private_of (take (k + 1) slots) ≡ private_of (take k slots) ++ private_of (x ∷ [])
next_root slots k x lt is =
    ap (λ (n : ℕ). private_of (take n slots)) (let e : k + 1 ≡ suc k = omega arith in e)
    ∙ next_all slots k lt
    ∙ ap (λ (y : Root). private_of (take k slots) ++ private_of (y ∷ [])) (sym is)

pub next_rank : (slots : List Root) (k : ℕ) (x : Root) → k < length slots → x ≡ slot_at slots k
    → rank slots (k + 1) ≡ rank slots k + length (private_of (x ∷ []))
next_rank slots k x lt is =
    ap (λ (rs : List MinorRef). length rs) (next_root slots k x lt is)
    ∙ length-append (private_of (take k slots)) (private_of (x ∷ []))

pub rank_within : (slots : List Root) (k : ℕ) → rank slots k ≤ length (private_of slots)
rank_within [] zero = omega arith
rank_within [] (suc k) = omega arith
rank_within (x ∷ slots) zero = omega arith
rank_within (root.Private q ∷ slots) (suc k) = let le = rank_within slots k in omega (arith, le)
rank_within (root.Null ∷ slots) (suc k) = rank_within slots k
rank_within (root.Num value ∷ slots) (suc k) = rank_within slots k
rank_within (root.Shared place ∷ slots) (suc k) = rank_within slots k

pub rank_few : (slots : List Root) (k : ℕ) → rank slots k ≤ k
rank_few [] zero = omega arith
rank_few [] (suc k) = omega arith
rank_few (x ∷ slots) zero = omega arith
rank_few (root.Private q ∷ slots) (suc k) = let few = rank_few slots k in omega (arith, few)
rank_few (root.Null ∷ slots) (suc k) = let few = rank_few slots k in omega (arith, few)
rank_few (root.Num value ∷ slots) (suc k) = let few = rank_few slots k in omega (arith, few)
rank_few (root.Shared place ∷ slots) (suc k) = let few = rank_few slots k in omega (arith, few)

-- Where a private root stands among the private ones.

pub rank_below : (slots : List Root) (k : ℕ) (r : MinorRef) → slot_at slots k ≡ root.Private r
    → rank slots k < length (private_of slots)
rank_below [] k r is = absurd cc
rank_below (root.Private q ∷ slots) zero r is = omega arith
rank_below (root.Null ∷ slots) zero r is = absurd cc
rank_below (root.Num value ∷ slots) zero r is = absurd cc
rank_below (root.Shared place ∷ slots) zero r is = absurd cc
rank_below (root.Private q ∷ slots) (suc k) r is =
    let lt = rank_below slots k r is in omega (arith, lt)
rank_below (root.Null ∷ slots) (suc k) r is = rank_below slots k r is
rank_below (root.Num value ∷ slots) (suc k) r is = rank_below slots k r is
rank_below (root.Shared place ∷ slots) (suc k) r is = rank_below slots k r is

pub private_at : (slots : List Root) (k : ℕ) (r : MinorRef) → slot_at slots k ≡ root.Private r
    → slice_index_or (private_of slots) (rank slots k) first_ref ≡ r
private_at [] k r is = absurd cc
private_at (root.Private q ∷ slots) zero r is = ap ref_or is
private_at (root.Null ∷ slots) zero r is = absurd cc
private_at (root.Num value ∷ slots) zero r is = absurd cc
private_at (root.Shared place ∷ slots) zero r is = absurd cc
private_at (root.Private q ∷ slots) (suc k) r is = private_at slots k r is
private_at (root.Null ∷ slots) (suc k) r is = private_at slots k r is
private_at (root.Num value ∷ slots) (suc k) r is = private_at slots k r is
private_at (root.Shared place ∷ slots) (suc k) r is = private_at slots k r is

past : (slots : List Root) (k : ℕ) → length slots ≤ k → slot_at slots k ≡ root.Null
past [] k le = refl
past (x ∷ slots) zero le = absurd (omega (arith, le))
past (x ∷ slots) (suc k) le = past slots k (omega (arith, le))

-- the private roots stand as records
pub private_stand : (records : List (List MinorField)) (slots : List Root)
    → AllStand records slots → All (Stands records) (private_of slots)
private_stand records [] stand i d lt = absurd (omega (arith, lt))
private_stand records (root.Private q ∷ slots) stand zero d lt = stand zero
private_stand records (root.Private q ∷ slots) stand (suc i) d lt =
    private_stand records slots (λ k. stand (suc k)) i d (omega (arith, lt))
private_stand records (root.Null ∷ slots) stand i d lt =
    private_stand records slots (λ k. stand (suc k)) i d lt
private_stand records (root.Num value ∷ slots) stand i d lt =
    private_stand records slots (λ k. stand (suc k)) i d lt
private_stand records (root.Shared place ∷ slots) stand i d lt =
    private_stand records slots (λ k. stand (suc k)) i d lt

-- Roots of which the first so many have moved.

pub record AreMovedUpto (old : List Root) (refs : List MinorRef) (new : List Root) (i : ℕ)
    : Type 0 where
  pub many : length new ≡ length old
  pub moved : (k : ℕ) → k < i → IsMoved refs (rank old k) (slot_at old k) (slot_at new k)
  pub left : (k : ℕ) → i ≤ k → slot_at new k ≡ slot_at old k

pub next_to_move : (old new : List Root) (refs : List MinorRef) (i : ℕ) (d : Root)
    → i < length old → AreMovedUpto old refs new i → slice_index_or new i d ≡ slot_at old i
next_to_move old new refs i d lt so =
    at_any new i d (omega (arith, lt, so.many)) ∙ so.left i (omega arith)

before_or : (k i : ℕ) → k < i + 1 → (k < i) ⊎ (k ≡ i)
before_or k i lt = search arith

pub one_moved : (old new : List Root) (refs : List MinorRef) (i : ℕ) (x y : Root) → i < length old
    → AreMovedUpto old refs new i → x ≡ slot_at old i → IsMoved refs (rank old i) x y
    → AreMovedUpto old refs (slice_set new i y) (i + 1)
one_moved old new refs i x y lt so is now = record {
  many = length-set new i y ∙ so.many;
  moved = λ k below. ⊎_elim
      (λ (le : k < i). subst (λ (z : Root). IsMoved refs (rank old k) (slot_at old k) z)
      (sym (other k (omega (arith, le)))) (so.moved k le))
      (λ (e : k ≡ i). subst
      (λ (n : ℕ). IsMoved refs (rank old n) (slot_at old n) (slot_at (slice_set new i y) n)) (sym e)
      (subst (λ (z : Root). IsMoved refs (rank old i) (slot_at old i) z) (sym same)
      (subst (λ (z : Root). IsMoved refs (rank old i) z y) is now)))
      (before_or k i below);
  left = λ k le. other k (omega (arith, le)) ∙ so.left k (omega (arith, le));
}
  where
    other : (k : ℕ) → k ≢ i → slot_at (slice_set new i y) k ≡ slot_at new k
    other k differ = get_or-set_other new i k y root.Null differ

    same : slot_at (slice_set new i y) i ≡ y
    same = get_or-set_same new i y root.Null (omega (arith, lt, so.many))

-- Where all have moved, the private ones are the records.

one_less : (r : MinorRef) (refs : List MinorRef) (n : ℕ) (x y : Root)
    → IsMoved (r ∷ refs) (suc n) x y → IsMoved refs n x y
one_less r refs n (root.Private q) y now = now
one_less r refs n root.Null y now = now
one_less r refs n (root.Num value) y now = now
one_less r refs n (root.Shared place) y now = now

pub private_now : (old : List Root) (refs : List MinorRef) (new : List Root)
    → length refs ≡ length (private_of old) → AreMoved old refs new → private_of new ≡ refs
private_now [] [] [] many so = refl
private_now [] (r ∷ refs) new many so = absurd (omega (arith, many))
private_now [] [] (y ∷ new) many so = let no = so.many in absurd (omega (arith, no))
private_now (x ∷ old) refs [] many so = let no = so.many in absurd (omega (arith, no))
private_now (root.Private q ∷ old) [] (y ∷ new) many so = absurd (omega (arith, many))
private_now (root.Private q ∷ old) (r ∷ refs) (y ∷ new) many so =
    ap (λ (z : Root). private_of (z ∷ new)) (so.moved 0 (omega arith))
    ∙ ap (λ (rs : List MinorRef). r ∷ rs) (private_now old refs new (omega (arith, many)) record {
      many = let all = so.many in omega (arith, all);
      moved = λ k lt. one_less r refs (rank old k) (slot_at old k) (slot_at new k)
          (so.moved (suc k) (omega (arith, lt)));
    })
private_now (root.Null ∷ old) refs (y ∷ new) many so =
    ap (λ (z : Root). private_of (z ∷ new)) (so.moved 0 (omega arith))
    ∙ private_now old refs new many record {
      many = let all = so.many in omega (arith, all);
      moved = λ k lt. so.moved (suc k) (omega (arith, lt));
    }
private_now (root.Num value ∷ old) refs (y ∷ new) many so =
    ap (λ (z : Root). private_of (z ∷ new)) (so.moved 0 (omega arith))
    ∙ private_now old refs new many record {
      many = let all = so.many in omega (arith, all);
      moved = λ k lt. so.moved (suc k) (omega (arith, lt));
    }
private_now (root.Shared place ∷ old) refs (y ∷ new) many so =
    ap (λ (z : Root). private_of (z ∷ new)) (so.moved 0 (omega arith))
    ∙ private_now old refs new many record {
      many = let all = so.many in omega (arith, all);
      moved = λ k lt. so.moved (suc k) (omega (arith, lt));
    }

-- What is left of roots whose records aged.

pub refs_many : (before after : List (List MinorField)) (from refs : List MinorRef)
    → AreSurvivors before from after refs → length refs ≡ length from
refs_many before after from refs so =
    sym (length-map refs (term_of [] after)) ∙ ap (λ (ts : List Term). length ts) (so.terms [])
    ∙ length-map from (term_of [] before)

module _ (before after : List (List MinorField)) (old new : List Root) (refs : List MinorRef)
    (so : AreSurvivors before (private_of old) after refs) (moved : AreMoved old refs new) where
  module _ (k : ℕ) (r : MinorRef) (is : slot_at old k ≡ root.Private r)
      (now : slot_at new k ≡ root.Private (slice_index_or refs (rank old k) first_ref)) where
    there : rank old k < length refs
    there =
        let below = rank_below old k r is in
        let many = refs_many before after (private_of old) refs so in omega (arith, below, many)

    stands_now : RootStands after (slot_at new k)
    stands_now =
        subst (λ (x : Root). RootStands after x) (sym now) (so.stand (rank old k) first_ref there)

    term_now : (shared : List Term)
        → root_term shared after (slot_at new k) ≡ root_term shared before (slot_at old k)
    term_now shared =
        ap (root_term shared after) now
        ∙ sym (get_or-map (term_of shared after) refs (rank old k) first_ref)
        ∙ ap (λ (ts : List Term). slice_index_or ts (rank old k)
        (term_of shared after first_ref)) (so.terms shared)
        ∙ same_at (map (term_of shared before) (private_of old)) (rank old k)
        (term_of shared after first_ref) (term_of shared before first_ref)
        (let below = rank_below old k r is in
        let many = length-map (private_of old) (term_of shared before) in
        omega (arith, below, many))
        ∙ get_or-map (term_of shared before) (private_of old) (rank old k) first_ref
        ∙ ap (term_of shared before) (private_at old k r is)
        ∙ sym (ap (root_term shared before) is)
      where
        same_at : (ts : List Term) (i : ℕ) (d e : Term) → i < length ts
            → slice_index_or ts i d ≡ slice_index_or ts i e
        same_at [] i d e lt = absurd (omega (arith, lt))
        same_at (t ∷ ts) zero d e lt = refl
        same_at (t ∷ ts) (suc i) d e lt = same_at ts i d e (omega (arith, lt))

  stands_by : (k : ℕ) (x : Root) → slot_at old k ≡ x → IsMoved refs (rank old k) x (slot_at new k)
      → RootStands after (slot_at new k)
  stands_by k (root.Private r) is now = stands_now k r is now
  stands_by k root.Null is now =
      subst (λ (x : Root). RootStands after x) (sym now) tt
  stands_by k (root.Num value) is now =
      subst (λ (x : Root). RootStands after x) (sym now) tt
  stands_by k (root.Shared place) is now =
      subst (λ (x : Root). RootStands after x) (sym now) tt

  term_by : (shared : List Term) (k : ℕ) (x : Root) → slot_at old k ≡ x
      → IsMoved refs (rank old k) x (slot_at new k)
      → root_term shared after (slot_at new k) ≡ root_term shared before (slot_at old k)
  term_by shared k (root.Private r) is now = term_now k r is now shared
  term_by shared k root.Null is now =
      ap (root_term shared after) now ∙ sym (ap (root_term shared before) is)
  term_by shared k (root.Num value) is now =
      ap (root_term shared after) now ∙ sym (ap (root_term shared before) is)
  term_by shared k (root.Shared place) is now =
      ap (root_term shared after) now ∙ sym (ap (root_term shared before) is)

  at_or : (k n : ℕ) → (k < n) ⊎ (n ≤ k)
  at_or k n = search arith

  both_past : (k : ℕ) → length old ≤ k → slot_at new k ≡ root.Null
  both_past k le = past new k (omega (arith, le, moved.many))

  same_by : (k : ℕ) (x : Root) → slot_at old k ≡ x → IsMoved refs (rank old k) x (slot_at new k)
      → (IsPrivate x → ⊥) → slot_at new k ≡ slot_at old k
  same_by k root.Null is now not = now ∙ sym is
  same_by k (root.Num value) is now not = now ∙ sym is
  same_by k (root.Private r) is now not = absurd (not tt)
  same_by k (root.Shared place) is now not = now ∙ sym is

  same_other : (k : ℕ) → (IsPrivate (slot_at old k) → ⊥) → slot_at new k ≡ slot_at old k
  same_other k not = ⊎_elim
      (λ (lt : k < length old). same_by k (slot_at old k) refl (moved.moved k lt) not)
      (λ (le : length old ≤ k). both_past k le ∙ sym (past old k le))
      (at_or k (length old))

  private_by : (k : ℕ) (x : Root) → IsMoved refs (rank old k) x (slot_at new k) → IsPrivate x
      → IsPrivate (slot_at new k)
  private_by k root.Null now is = absurd is
  private_by k (root.Num value) now is = absurd is
  private_by k (root.Private r) now is = subst (λ (x : Root). IsPrivate x) (sym now) tt
  private_by k (root.Shared place) now is = absurd is

  still_private : (k : ℕ) → IsPrivate (slot_at old k) → IsPrivate (slot_at new k)
  still_private k is = ⊎_elim
      (λ (lt : k < length old). private_by k (slot_at old k) (moved.moved k lt) is)
      (λ (le : length old ≤ k).
      absurd (subst (λ (x : Root). IsPrivate x) (past old k le) is))
      (at_or k (length old))

  pub roots_keep : RootsKeep before old after new
  roots_keep = record {
    many = moved.many;
    stand = λ k. ⊎_elim
        (λ (lt : k < length old). stands_by k (slot_at old k) refl (moved.moved k lt))
        (λ (le : length old ≤ k).
        subst (λ (x : Root). RootStands after x) (sym (both_past k le)) tt)
        (at_or k (length old));
    terms = λ shared k. ⊎_elim
        (λ (lt : k < length old). term_by shared k (slot_at old k) refl (moved.moved k lt))
        (λ (le : length old ≤ k).
        ap (root_term shared after) (both_past k le)
        ∙ sym (ap (root_term shared before) (past old k le)))
        (at_or k (length old));
    private = still_private;
    others = same_other;
  }
