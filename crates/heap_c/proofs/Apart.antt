-- Roots of which none is the anchor's place.
use Rattle.std.proofs.Common.{◌≡◌, ◌∷◌, ◌++◌, [], ℕ, zero, suc, List, arith, subst, sym, take}
use Rattle.std.specs.Prelude.{slice_set}
use Rattle.local_references.specs.declared.roots.Root.{Root}
use Rattle.local_references.specs.declared.roots.Root.TheVariants as root
use Rattle.heap_c.specs.Holding.{NoAnchor}
use Rattle.heap_c.proofs.RootSorts.{one_apart}

pub apart_none : (roots : List Root) → roots ≡ [] → NoAnchor roots
apart_none roots empty = subst (λ (rs : List Root). NoAnchor rs) (sym empty)
    (λ k is. one_apart root.Null (omega arith) is)

pub apart_as : (roots later : List Root) → later ≡ roots → NoAnchor roots → NoAnchor later
apart_as roots later is apart = subst (λ (rs : List Root). NoAnchor rs) (sym is) apart

pub apart_pushed : (roots : List Root) (r : Root) → NoAnchor roots
    → (r ≡ root.Shared 0 → ⊥) → NoAnchor (roots ++ r ∷ [])
apart_pushed [] r apart one zero is = one is
apart_pushed [] r apart one (suc k) is = one_apart root.Null (omega arith) is
apart_pushed (q ∷ roots) r apart one zero is = apart 0 is
apart_pushed (q ∷ roots) r apart one (suc k) is =
    apart_pushed roots r (λ i. apart (suc i)) one k is

pub apart_cut : (n : ℕ) (roots : List Root) → NoAnchor roots → NoAnchor (take n roots)
apart_cut zero roots apart k is = one_apart root.Null (omega arith) is
apart_cut (suc n) [] apart k is = one_apart root.Null (omega arith) is
apart_cut (suc n) (q ∷ roots) apart zero is = apart 0 is
apart_cut (suc n) (q ∷ roots) apart (suc k) is =
    apart_cut n roots (λ i. apart (suc i)) k is

pub apart_set : (roots : List Root) (n : ℕ) (r : Root) → NoAnchor roots
    → (r ≡ root.Shared 0 → ⊥) → NoAnchor (slice_set roots n r)
apart_set [] n r apart one k is = one_apart root.Null (omega arith) is
apart_set (q ∷ roots) zero r apart one zero is = one is
apart_set (q ∷ roots) zero r apart one (suc k) is = apart (suc k) is
apart_set (q ∷ roots) (suc n) r apart one zero is = apart 0 is
apart_set (q ∷ roots) (suc n) r apart one (suc k) is =
    apart_set roots n r (λ i. apart (suc i)) one k is
