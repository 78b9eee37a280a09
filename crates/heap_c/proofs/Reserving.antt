-- A step of a sharing that makes room.
use Rattle.std.proofs.Common.{◌≡◌, ℕ, inl, refl, subst}
use Rattle.heap_c.specs.Holding.{Owned}
use Rattle.heap_c.specs.Moving.{SharesFor, SharesRoots, slice_of}
use Rattle.heap_c.specs.declared.codes.Code.{Code}
use Rattle.heap_c.specs.declared.codes.Code.TheVariants as code

-- a sharing that has not ended
shares_on : (m later : Owned) (base places : ℕ) (c : Code) → (c ≡ code.Ok → ⊥)
    → SharesRoots m later base (slice_of m) c → SharesFor m later base places c
shares_on m later base places code.Ok not so = absurd (not refl)
shares_on m later base places code.NoMemory not so = so
shares_on m later base places code.BadPlace not so = so
shares_on m later base places code.BadField not so = so
shares_on m later base places code.NoRoom not so = inl so
shares_on m later base places code.Wait not so = so
shares_on m later base places code.Moved not so = so
shares_on m later base places code.NotIn not so = so
shares_on m later base places code.BadValue not so = so
shares_on m later base places code.IsIn not so = so
shares_on m later base places code.NoHandle not so = so
shares_on m later base places code.Full not so = so
shares_on m later base places code.NoSeat not so = so
shares_on m later base places code.Spent not so = so
shares_on m later base places code.BadSize not so = so
shares_on m later base places code.NotZero not so = so
shares_on m later base places code.NoRecords not so = so
shares_on m later base places code.Part not so = so

-- with as many copies as a call makes at most
module _ (m later : Owned) (base places most : ℕ) (most_is : most ≡ slice_of m) (c : Code)
    (so : SharesRoots m later base most c) where
  so_many : SharesRoots m later base (slice_of m) c
  so_many = subst (λ (n : ℕ). SharesRoots m later base n c) most_is so

  pub shares_end : c ≡ code.Ok → SharesRoots m later base (slice_of m) code.Ok
  shares_end is = subst (λ (x : Code). SharesRoots m later base (slice_of m) x) is so_many

  pub shares_more : (c ≡ code.Ok → ⊥) → SharesFor m later base places c
  shares_more not = shares_on m later base places c not so_many
