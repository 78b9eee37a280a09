-- What is known of the first places, while others come and go.
use Rattle.std.proofs.Common.{◌≡◌, ◌<◌, ◌≤◌, ◌++◌, ◌∷◌, ◌∙◌, ℕ, zero, suc, List, [], All, length}
use Rattle.std.proofs.Common.{take, refl, sym, ap, subst, arith}
use Rattle.std.specs.Prelude.{slice_index_or, slice_set}
use Rattle.std.proofs.lemmas.List.{get_or-take}
use Rattle.cell_words.specs.Term.{Term}
use Rattle.heap_rule.specs.Facts.{is_term}
use Rattle.heap_rule.specs.Lore.{known_at}
use Rattle.heap_rule.specs.declared.known.Known.{Known}
use Rattle.heap_rule.specs.declared.known.Known.TheVariants as knows
use Rattle.minor_heap.specs.declared.fields.MinorField.{MinorField}
use Rattle.minor_heap.specs.declared.fields.MinorField.TheVariants as field
use Rattle.minor_heap.specs.Nursery.{field_at}
use Rattle.aged_nursery.specs.Survivors.{NameNoMore}
use Rattle.local_references.specs.declared.roots.Root.{Root}
use Rattle.local_references.specs.declared.roots.Root.TheVariants as root
use Rattle.local_references.specs.Roots.{IsPrivate, RootsKeep, slot_at}
use Rattle.std.proofs.lemmas.List.Elements.{All-cons, All-nil}
use Rattle.promotion.specs.Sharing.{SharesRecord}
use Rattle.promotion.proofs.Knowing.{term_there}
use Rattle.record_copying.specs.Copies.{AllShare, StillRecords}
use Rattle.local_records.specs.Local.{IsFieldBelow, IsRootBelow, StillBelow}

-- a record of the first n places is at one of them
below_first : (n : ℕ) (known : List Known) (place : ℕ) (t : Term)
    → known_at (take n known) place ≡ knows.Record t → place < n
below_first zero known place t is = absurd cc
below_first (suc n) [] place t is = absurd cc
below_first (suc n) (k ∷ known) zero t is = omega arith
below_first (suc n) (k ∷ known) (suc place) t is =
    let lt = below_first n known place t is in omega (arith, lt)

at_first : (n : ℕ) (known : List Known) (place : ℕ) → place < n
    → known_at (take n known) place ≡ known_at known place
at_first n known place lt = get_or-take n known place knows.Nothing lt

pub first_still : (n : ℕ) (known : List Known) → StillRecords (take n known) known
first_still n known place t is =
    sym (at_first n known place (below_first n known place t is)) ∙ is

pub first_below : (n m : ℕ) (known later : List Known) → n ≤ m → StillBelow n known later
    → StillRecords (take n known) (take m later)
first_below n m known later le still place t is =
    let lt = below_first n known place t is in
    at_first m later place (omega (arith, lt, le))
    ∙ still place t lt (sym (at_first n known place lt) ∙ is)

pub more_still : (n m : ℕ) (known : List Known) → n ≤ m
    → StillRecords (take n known) (take m known)
more_still n m known le = first_below n m known known le (λ place t lt is. is)

-- Fields.

field_first : (m : ℕ) (known : List Known) (f : MinorField) → SharesRecord known f
    → IsFieldBelow m f → SharesRecord (take m known) f
field_first m known field.Null shares below = tt
field_first m known (field.Num n) shares below = tt
field_first m known (field.Minor r) shares below = tt
field_first m known (field.Shared place) shares below =
    ap is_term (at_first m known place below) ∙ shares

pub fields_first : (m : ℕ) (known : List Known) (fields : List MinorField)
    → All (SharesRecord known) fields → All (IsFieldBelow m) fields
    → All (SharesRecord (take m known)) fields
fields_first m known fields shares below i d lt =
    field_first m known (slice_index_or fields i d) (shares i d lt) (below i d lt)

field_known : (known : List Known) (f : MinorField) → SharesRecord known f
    → IsFieldBelow (length known) f
field_known known field.Null shares = tt
field_known known (field.Num n) shares = tt
field_known known (field.Minor r) shares = tt
field_known known (field.Shared place) shares = term_there known place shares

-- a place that a field shares is one of those that are held
pub fields_known : (known : List Known) (fields : List MinorField)
    → All (SharesRecord known) fields → All (IsFieldBelow (length known)) fields
fields_known known fields shares i d lt =
    field_known known (slice_index_or fields i d) (shares i d lt)

at_field : (known : List Known) (fields : List MinorField) → All (SharesRecord known) fields
    → (i : ℕ) → SharesRecord known (slice_index_or fields i field.Null)
at_field known [] shares i = tt
at_field known (f ∷ fields) shares zero = shares 0 f (omega arith)
at_field known (f ∷ fields) shares (suc i) =
    at_field known fields (λ k d lt. shares (suc k) d (omega (arith, lt))) i

pub share_made : (known : List Known) (records : List (List MinorField)) (fields : List MinorField)
    → AllShare known records → All (SharesRecord known) fields
    → AllShare known (records ++ fields ∷ [])
share_made known [] fields share shares zero i = at_field known fields shares i
share_made known [] fields share shares (suc k) i = tt
share_made known (other ∷ records) fields share shares zero i = share zero i
share_made known (other ∷ records) fields share shares (suc k) i =
    share_made known records fields (λ j. share (suc j)) shares k i

-- an ageing adds no shared place
pub share_aged : (known : List Known) (old new : List (List MinorField)) → AllShare known old
    → NameNoMore old new → AllShare known new
share_aged known old new share so k i = by_field (field_at new k i) refl
  where
    by_field : (f : MinorField) → field_at new k i ≡ f → SharesRecord known f
    by_field field.Null is = tt
    by_field (field.Num n) is = tt
    by_field (field.Minor r) is = tt
    by_field (field.Shared place) is =
        let was = so place (record { number = k; index = i; is = is }) in
        subst (λ (f : MinorField). SharesRecord known f) was.is (share was.number was.index)

-- Roots.

pub root_wider : (n m : ℕ) (x : Root) → n ≤ m → IsRootBelow n x → IsRootBelow m x
root_wider n m root.Null le below = tt
root_wider n m (root.Num value) le below = tt
root_wider n m (root.Private r) le below = tt
root_wider n m (root.Shared place) le below = omega (arith, le, below)

pub roots_wider : (n m : ℕ) (roots : List Root) → n ≤ m → All (IsRootBelow n) roots
    → All (IsRootBelow m) roots
roots_wider n m roots le below i d lt =
    root_wider n m (slice_index_or roots i d) le (below i d lt)

pub roots_at : (n : ℕ) (roots : List Root) → All (IsRootBelow n) roots → (k : ℕ)
    → IsRootBelow n (slot_at roots k)
roots_at n [] below k = tt
roots_at n (x ∷ roots) below zero = below 0 x (omega arith)
roots_at n (x ∷ roots) below (suc k) =
    roots_at n roots (λ i d lt. below (suc i) d (omega (arith, lt))) k

-- and back
pub roots_all : (n : ℕ) (roots : List Root) → ((k : ℕ) → IsRootBelow n (slot_at roots k))
    → All (IsRootBelow n) roots
roots_all n [] below = All-nil (IsRootBelow n)
roots_all n (x ∷ roots) below =
    All-cons (IsRootBelow n) x roots (below 0) (roots_all n roots (λ k. below (suc k)))

private_below : (n : ℕ) (x : Root) → IsPrivate x → IsRootBelow n x
private_below n root.Null is = absurd is
private_below n (root.Num value) is = absurd is
private_below n (root.Private r) is = tt
private_below n (root.Shared place) is = absurd is

-- an ageing leaves roots that are places as they are
pub roots_kept : (n : ℕ) (before after : List (List MinorField)) (old new : List Root)
    → RootsKeep before old after new → All (IsRootBelow n) old → All (IsRootBelow n) new
roots_kept n before after old new so below = roots_all n new (λ k. by_root k (slot_at old k) refl)
  where
    other : (k : ℕ) → (IsPrivate (slot_at old k) → ⊥) → IsRootBelow n (slot_at new k)
    other k not =
        subst (λ (x : Root). IsRootBelow n x) (sym (so.others k not)) (roots_at n old below k)

    by_root : (k : ℕ) (x : Root) → slot_at old k ≡ x → IsRootBelow n (slot_at new k)
    by_root k root.Null is = other k (λ p. subst (λ (y : Root). IsPrivate y) is p)
    by_root k (root.Num value) is = other k (λ p. subst (λ (y : Root). IsPrivate y) is p)
    by_root k (root.Private r) is =
        private_below n (slot_at new k)
        (so.private k (subst (λ (y : Root). IsPrivate y) (sym is) tt))
    by_root k (root.Shared place) is = other k (λ p. subst (λ (y : Root). IsPrivate y) is p)

-- a push, a pop, a cut, and another root in place of one

later : (n : ℕ) (x : Root) (roots : List Root) → All (IsRootBelow n) (x ∷ roots)
    → All (IsRootBelow n) roots
later n x roots below i d lt = below (suc i) d (omega (arith, lt))

pub roots_pushed : (n m : ℕ) (roots : List Root) (x : Root) → n ≤ m → All (IsRootBelow n) roots
    → IsRootBelow m x → All (IsRootBelow m) (roots ++ x ∷ [])
roots_pushed n m [] x le below is = All-cons (IsRootBelow m) x [] is (All-nil (IsRootBelow m))
roots_pushed n m (y ∷ roots) x le below is =
    All-cons (IsRootBelow m) y (roots ++ x ∷ []) (root_wider n m y le (below 0 y (omega arith)))
    (roots_pushed n m roots x le (later n y roots below) is)

pub roots_popped : (n : ℕ) (roots : List Root) (x : Root) → All (IsRootBelow n) (roots ++ x ∷ [])
    → All (IsRootBelow n) roots
roots_popped n [] x below = All-nil (IsRootBelow n)
roots_popped n (y ∷ roots) x below =
    All-cons (IsRootBelow n) y roots (below 0 y (omega arith))
    (roots_popped n roots x (later n y (roots ++ x ∷ []) below))

pub roots_cut : (n k : ℕ) (roots : List Root) → All (IsRootBelow n) roots
    → All (IsRootBelow n) (take k roots)
roots_cut n zero roots below = All-nil (IsRootBelow n)
roots_cut n (suc k) [] below = All-nil (IsRootBelow n)
roots_cut n (suc k) (y ∷ roots) below =
    All-cons (IsRootBelow n) y (take k roots) (below 0 y (omega arith))
    (roots_cut n k roots (later n y roots below))

pub roots_set : (n m : ℕ) (roots : List Root) (i : ℕ) (x : Root) → n ≤ m
    → All (IsRootBelow n) roots → IsRootBelow m x → All (IsRootBelow m) (slice_set roots i x)
roots_set n m [] i x le below is = All-nil (IsRootBelow m)
roots_set n m (y ∷ roots) zero x le below is =
    All-cons (IsRootBelow m) x roots is (roots_wider n m roots le (later n y roots below))
roots_set n m (y ∷ roots) (suc i) x le below is =
    All-cons (IsRootBelow m) y (slice_set roots i x) (root_wider n m y le (below 0 y (omega arith)))
    (roots_set n m roots i x le (later n y roots below) is)
