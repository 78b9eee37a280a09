-- Private roots that stand: through a push, a pop, another root in a place, and a new record.
use Rattle.std.proofs.Common.{◌++◌, ◌∷◌, ℕ, zero, suc, List, [], length-append, arith}
use Rattle.std.specs.Prelude.{slice_set, take}
use Rattle.minor_heap.specs.declared.fields.MinorField.{MinorField}
use Rattle.local_references.specs.declared.roots.Root.{Root}
use Rattle.local_references.specs.declared.roots.Root.TheVariants as root
use Rattle.local_references.specs.Roots.{AllStand, RootStands, slot_at}

pub stand_pushed : (records : List (List MinorField)) (roots : List Root) (x : Root)
    → AllStand records roots → RootStands records x → AllStand records (roots ++ x ∷ [])
stand_pushed records [] x stand is zero = is
stand_pushed records [] x stand is (suc k) = tt
stand_pushed records (y ∷ roots) x stand is zero = stand zero
stand_pushed records (y ∷ roots) x stand is (suc k) =
    stand_pushed records roots x (λ j. stand (suc j)) is k

pub stand_popped : (records : List (List MinorField)) (roots : List Root) (x : Root)
    → AllStand records (roots ++ x ∷ []) → AllStand records roots
stand_popped records [] x stand k = tt
stand_popped records (y ∷ roots) x stand zero = stand zero
stand_popped records (y ∷ roots) x stand (suc k) =
    stand_popped records roots x (λ j. stand (suc j)) k

pub stand_cut : (records : List (List MinorField)) (roots : List Root) (n : ℕ)
    → AllStand records roots → AllStand records (take n roots)
stand_cut records roots zero stand k = tt
stand_cut records [] (suc n) stand k = tt
stand_cut records (y ∷ roots) (suc n) stand zero = stand zero
stand_cut records (y ∷ roots) (suc n) stand (suc k) =
    stand_cut records roots n (λ j. stand (suc j)) k

pub stand_set : (records : List (List MinorField)) (roots : List Root) (i : ℕ) (x : Root)
    → AllStand records roots → RootStands records x → AllStand records (slice_set roots i x)
stand_set records [] i x stand is k = tt
stand_set records (y ∷ roots) zero x stand is zero = is
stand_set records (y ∷ roots) zero x stand is (suc k) = stand (suc k)
stand_set records (y ∷ roots) (suc i) x stand is zero = stand zero
stand_set records (y ∷ roots) (suc i) x stand is (suc k) =
    stand_set records roots i x (λ j. stand (suc j)) is k

still : (records : List (List MinorField)) (fields : List MinorField) (x : Root)
    → RootStands records x → RootStands (records ++ fields ∷ []) x
still records fields (root.Private r) is =
    let more = length-append records (fields ∷ []) in omega (arith, is, more)
still records fields root.Null is = tt
still records fields (root.Num value) is = tt
still records fields (root.Shared place) is = tt

pub stand_made : (records : List (List MinorField)) (fields : List MinorField) (roots : List Root)
    → AllStand records roots → AllStand (records ++ fields ∷ []) roots
stand_made records fields roots stand k = still records fields (slot_at roots k) (stand k)
