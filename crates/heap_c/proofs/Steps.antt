-- A handle put together and taken apart, as steps of a walk; E is the box of what it owns. Assumes
-- `Logic`.
use Rattle.std.proofs.Common.{◌≡◌, ℕ, List, [], ◌∷◌, ◌++◌, refl, sym, subst, Option, None, Some}
use seplogic.Ra.Ura.{Ura}
use mir.Raw.{raw as bare}
use mir.Val.{of_list, Val, vcons, vnil, vnull, vstruct}
use base.Fml.{fex, Fml, fsep, ftrue}
use base.Logic.{ent, fst∗, guard, guard_i, never, snd∗, via}
use contract.Monad.{fact_use}
use types.Logic.{Logic, sem}
use types.Kit.{◌$◌, drop, feq_i, feq_l, fjoin, fpack, fpick, fsplit, given, Goal, Item, learn, move}
use types.Kit.{rewrite, Seq, Step, step, use1, ‵}
use denote.Param.Laws.{Laws}
use denote.RattleType.{RattleType, Valss}
use denote.RawPtr.{block_ptr, in_a_block, lies_at, null_ptr, Ptr, ptr_val, RawPtr, Testable}
use base.Fraction.{full_share}
use denote.Steps.{nothing}
use denote.Struct.Owning.{shape}
use denote.Struct.Struct.{within}
use Rattle.std.proofs.GlobalToken.{dealloc_token-Testable}
use Rattle.std.proofs.alloc.Calls.{Fits, handle_tells, token}
use Rattle.std.proofs.BoxSteps.Form.{Bx, handle, owning, P, R, word, τ}
use Rattle.std.specs.Box.Ownership.{box_owns}
use Rattle.std.specs.Global.{Global}
use Rattle.heap_c.specs.Owning.{owns_boxed}
use Rattle.heap_c.proofs.Owner.{boxed}

-- the machine value of a handle of nothing
abbrev pub null_word : Val → Val
null_word hv = vstruct (vcons vnull (vcons hv vnil))

module _ (row : RattleType) (laws : Laws row) where
  abbrev E : Bx
  E = boxed row laws

  abbrev pub owned_at : Global → Ptr → row.Denot → Fml
  owned_at alloc = box_owns (token E.al alloc) (R E)

  -- what a handle with these fields owns
  abbrev pub handle_owns : Ptr → Global → Option row.Denot → List Val → Fml
  handle_owns p alloc owned vs =
      fsep (fex (Valss (RawPtr ∷ P E ∷ [])) (within (shape (owning E)) (p, (alloc, tt)) vs))
      (owns_boxed (R E) alloc p owned)

  module _ {M : Type 1} {𝓤 : Ura M} (𝓛 : Logic 𝓤) (alloc : Global) (p : Ptr) (x : row.Denot) where
    -- what may be freed may be compared with null
    tested : ent 𝓤 (sem 𝓛 (owned_at alloc p x))
        (guard 𝓤 (Testable p) (sem 𝓛 (owned_at alloc p x)))
    tested = fact_use 𝓤 (Testable p)
        (via 𝓤 _ (snd∗ 𝓤 (sem 𝓛 (lies_at (R E) full_share p x))
        (sem 𝓛 (token E.al alloc (bare (τ E)) p)))
        (dealloc_token-Testable 𝓛 alloc (bare (τ E)) p))
        (guard_i 𝓤 (Testable p) (sem 𝓛 (owned_at alloc p x)))

  module _ {M : Type 1} {𝓤 : Ura M} {𝓛 : Logic 𝓤} {K : Type 0} {Γ : List (Item 𝓤)}
      {G : Goal 𝓤 𝓛.H} where
    -- nothing is owned, or what a box at the pointer owns
    either : K → (alloc : Global) (p : Ptr) (owned : Option row.Denot)
        → (owned ≡ None → p ≡ null_ptr → Seq K 𝓛 Γ G)
        → ((x : row.Denot) (b o : ℕ) → owned ≡ Some x → p ≡ block_ptr b o → Testable p
        → Seq K 𝓛 (‵ (owned_at alloc (block_ptr b o) x) ∷ Γ) G)
        → Seq K 𝓛 (‵ (owns_boxed (R E) alloc p owned) ∷ Γ) G
    either t alloc p None none one = fpick t (λ is_null. drop t $ none refl is_null)
    either t alloc p (Some x) none one =
        use1 𝓛 (given (Testable p) (‵ (owned_at alloc p x))) (tested 𝓛 alloc p x) $
        learn t (λ may. in_a_block t p (λ r. owned_at alloc r x)
        (fst∗ 𝓤 (never 𝓤) (sem 𝓛 (token E.al alloc (bare (τ E)) null_ptr)))
        (λ b o at. one x b o refl at may))

  module _ {M : Type 1} {𝓤 : Ura M} {𝓛 : Logic 𝓤} {K : Type 0} {Γ : List (Item 𝓤)}
      {G : Goal 𝓤 𝓛.H} where
    -- a handle of nothing is made of the allocator's alone
    pub null_in : K → (alloc : Global) (hv : Val) → Step K 𝓛
        (‵ (handle_owns null_ptr alloc None (null_word hv ∷ [])) ∷ Γ) G
        (‵ (handle E alloc hv) ∷ Γ) G
    null_in t alloc hv = step (λ s.
        nothing t $ fpack t (null_ptr ≡ null_ptr) (λ _. ftrue) refl $ nothing t $
        move t (2 ∷ 0 ∷ []) $ fjoin t $ feq_i t (List Val) (vnull ∷ []) (vnull ∷ []) refl $
        fjoin t $ feq_i t (List Val) (null_word hv ∷ []) (null_word hv ∷ []) refl $ fjoin t $
        fpack t (Valss (RawPtr ∷ P E ∷ []))
        (within (shape (owning E)) (null_ptr, (alloc, tt)) (null_word hv ∷ []))
        (vnull ∷ [], (hv ∷ [], tt)) $ fjoin t $ s)

    -- the same, of a handle that is known to be one of nothing
    pub null_back : K → (p : Ptr) (alloc : Global) (owned : Option row.Denot) (hv : Val)
        → owned ≡ None → p ≡ null_ptr → Step K 𝓛
        (‵ (handle_owns p alloc owned (null_word hv ∷ [])) ∷ Γ) G
        (‵ (handle E alloc hv) ∷ Γ) G
    null_back t p alloc owned hv none at = step (λ s.
        null_in t alloc hv $
        rewrite t 0 (λ (q : Ptr). ‵ (handle_owns q alloc None (null_word hv ∷ []))) (sym at)
        refl $
        rewrite t 0 (λ (o : Option row.Denot). ‵ (handle_owns p alloc o (null_word hv ∷ [])))
        (sym none) refl $ s)

    -- a handle by value is the allocator's, with nothing or with what a box owns
    pub handle_out : K → (p : Ptr) (alloc : Global) (owned : Option row.Denot) (vs : List Val)
        → ((hv : Val) → owned ≡ None → p ≡ null_ptr → vs ≡ null_word hv ∷ [] → Fits E.al hv
        → Seq K 𝓛 (‵ (handle E alloc hv) ∷ Γ) G)
        → ((x : row.Denot) (b o : ℕ) (hv : Val) → owned ≡ Some x → p ≡ block_ptr b o
        → Testable (block_ptr b o) → vs ≡ word E hv b o ∷ [] → Fits E.al hv
        → Seq K 𝓛 (‵ (owned_at alloc (block_ptr b o) x) ∷ ‵ (handle E alloc hv) ∷ Γ) G)
        → Seq K 𝓛 (‵ (handle_owns p alloc owned vs) ∷ Γ) G
    handle_out t p alloc owned vs none one =
        fsplit t $ fpick t (λ vss. fsplit t $ feq_l t (λ all. fsplit t $ feq_l t (λ pointer.
        fsplit t $ handle_tells E.al t alloc vss.1.0 (λ hv is fits.
        move t (1 ∷ []) $ drop t $ move t (1 ∷ []) $
        let told : (q : Ptr) → p ≡ q → vs ≡ vstruct (of_list (ptr_val q ∷ hv ∷ [])) ∷ [] =
        λ q at. subst (λ (r : Ptr). vs ≡ vstruct (of_list (ptr_val r ∷ hv ∷ [])) ∷ []) at
        (subst (λ (ws : List Val). vs ≡ vstruct (of_list (ptr_val p ∷ (ws ++ []))) ∷ []) is
        (subst (λ (ps : List Val). vs ≡ vstruct (of_list (ps ++ (vss.1.0 ++ []))) ∷ []) pointer
        all)) in
        either t alloc p owned
        (λ no at. none hv no at (told null_ptr at) fits)
        (λ x b o so at may. one x b o hv so at (subst Testable at may) (told (block_ptr b o) at)
        fits)))))
