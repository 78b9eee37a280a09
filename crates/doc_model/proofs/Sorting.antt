-- A sort by an entry's key sorts by the order of entries.
use Rattle.std.proofs.Common.{◌≡◌, ℕ, Bool, List, IsSortedByKey}
use Rattle.std.specs.Fn.{ComputesKey, Called}
use Rattle.std.specs.declared.cmp.Ordering.{Ordering}
use Rattle.std.specs.Ordering.{nat_cmp, bool_cmp, ordering_then}
use Rattle.std.proofs.lemmas.Fn.{always_returns_same}
use denote.Param.Members.{Mut}
use denote.Ref.{Bor}
use Rattle.doc_model.specs.declared.command.Entry.{Entry}
use Rattle.doc_model.specs.Merge.{entry_order, is_late}

abbrev pub Key : Type 0
Key = ℕ × Bool × ℕ × ℕ

abbrev pub key_of : Entry → Key
key_of e = (e.place, is_late e, e.client, e.number)

-- the order of tuples
abbrev pub key_cmp : Key → Key → Ordering
key_cmp x y =
    ordering_then (ordering_then (ordering_then (nat_cmp x.0 y.0) (bool_cmp x.1 y.1))
    (nat_cmp x.2 y.2)) (nat_cmp x.3 y.3)

pub sorted_by_place : {F : Type 0} {g : Mut F (Bor Entry × Unit {0}) Key} {f : F} (xs : List Entry)
    → ((key : Entry → Key) → ComputesKey g key f → IsSortedByKey key key_cmp xs)
    → ((a : Bor Entry × Unit {0}) (r : Key) (f' : F) → Called g f a r f'
    → (r ≡ key_of a.0.now) × (f' ≡ f)) → IsSortedByKey (λ e. e) entry_order xs
sorted_by_place {g = g} {f = f} xs up h =
    up key_of (always_returns_same g (λ a r. r ≡ key_of a.0.now) f h)
