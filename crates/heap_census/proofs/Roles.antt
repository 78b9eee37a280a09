-- Where a cell with a role stands.
use Rattle.std.proofs.Common.{◌≡◌, ◌<◌, ℕ, zero, suc, Some, subst, sym}
use Rattle.core_machine.specs.InRange.{NamesBelow}
use Rattle.heap_census.specs.declared.layouts.Role.{Role}
use Rattle.heap_census.specs.declared.layouts.Role.TheVariants as role
use Rattle.heap_census.specs.Layouts.{gives}
use Rattle.heap_census.specs.Heap.{Heap, NamesFit}
use Rattle.heap_census.specs.Roles.{HasRole, anchor, named}

-- it is one that there is
pub role_below : (size : ℕ) (h : Heap) (r : Role) (c : ℕ) → NamesFit size h → HasRole h r c
    → c < size
role_below size h r c fit (anchor is here) = subst (λ n. n < size) (sym here) fit.some_cells
role_below size h r c fit (named {c = b} i has among gave is) =
    subst (NamesBelow size) is (fit.fields_fit b i)

-- no field gives the anchor's role
no_anchor : (r : Role) (i : ℕ) → gives r i ≡ Some role.Anchor → ⊥
no_anchor role.Anchor zero is = absurd cc
no_anchor role.Anchor (suc zero) is = absurd cc
no_anchor role.Anchor (suc (suc zero)) is = absurd cc
no_anchor role.Anchor (suc (suc (suc zero))) is = absurd cc
no_anchor role.Anchor (suc (suc (suc (suc zero)))) is = absurd cc
no_anchor role.Anchor (suc (suc (suc (suc (suc zero))))) is = absurd cc
no_anchor role.Anchor (suc (suc (suc (suc (suc (suc i)))))) is = absurd cc
no_anchor role.Version zero is = absurd cc
no_anchor role.Version (suc zero) is = absurd cc
no_anchor role.Version (suc (suc zero)) is = absurd cc
no_anchor role.Version (suc (suc (suc zero))) is = absurd cc
no_anchor role.Version (suc (suc (suc (suc zero)))) is = absurd cc
no_anchor role.Version (suc (suc (suc (suc (suc zero))))) is = absurd cc
no_anchor role.Version (suc (suc (suc (suc (suc (suc i)))))) is = absurd cc
no_anchor role.Node zero is = absurd cc
no_anchor role.Node (suc zero) is = absurd cc
no_anchor role.Node (suc (suc zero)) is = absurd cc
no_anchor role.Node (suc (suc (suc zero))) is = absurd cc
no_anchor role.Node (suc (suc (suc (suc zero)))) is = absurd cc
no_anchor role.Node (suc (suc (suc (suc (suc zero))))) is = absurd cc
no_anchor role.Node (suc (suc (suc (suc (suc (suc i)))))) is = absurd cc
no_anchor role.Entry zero is = absurd cc
no_anchor role.Entry (suc zero) is = absurd cc
no_anchor role.Entry (suc (suc zero)) is = absurd cc
no_anchor role.Entry (suc (suc (suc zero))) is = absurd cc
no_anchor role.Entry (suc (suc (suc (suc zero)))) is = absurd cc
no_anchor role.Entry (suc (suc (suc (suc (suc zero))))) is = absurd cc
no_anchor role.Entry (suc (suc (suc (suc (suc (suc i)))))) is = absurd cc
no_anchor role.Text zero is = absurd cc
no_anchor role.Text (suc zero) is = absurd cc
no_anchor role.Text (suc (suc zero)) is = absurd cc
no_anchor role.Text (suc (suc (suc zero))) is = absurd cc
no_anchor role.Text (suc (suc (suc (suc zero)))) is = absurd cc
no_anchor role.Text (suc (suc (suc (suc (suc zero))))) is = absurd cc
no_anchor role.Text (suc (suc (suc (suc (suc (suc i)))))) is = absurd cc

-- so the anchor alone has it
pub only_anchor : (h : Heap) (r : Role) (c : ℕ) → r ≡ role.Anchor → HasRole h r c → c ≡ 0
only_anchor h r c is (anchor _ here) = here
only_anchor h r c is (named {r = q} i has among gave _) =
    absurd (no_anchor q i (subst (λ p. gives q i ≡ Some p) is gave))
