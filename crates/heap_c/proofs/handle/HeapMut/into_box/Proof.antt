-- A handle of nothing gives nothing; what another one owns goes to `from_raw`.
use Rattle.std.proofs.Common.{◌≡◌, List, [], ◌∷◌, ◌++◌, refl, sym, subst, ap, ◌∙◌, lit<, None, Some}
use Rattle.std.proofs.raw_atomic.Walks.{proved_at}
use lib.Dec.{T}
use mir.Val.{has_ty, of_list, Val, vptr, WT}
use base.Fml.{flft, fsep, ftrue}
use base.Fraction.{full_share}
use base.Logic.{emp, id⊢}
use contract.BorrowLft.{◌⊑◌, ⊑_static}
use contract.Monad.{fact, fact_i}
use contract.Running.{tables}
use prog.Wp.{WpFn}
use types.Kit.{ !, ◌$◌, ◌∵◌, ◌⊛◌, at_ret, await, done, drop, feq_i, fjoin, fsplit, group, join}
use types.Kit.{keep, later, move, pick, prop, qed, raw, regoal, rewrite, some, split, split3}
use types.Kit.{suffices, use0, use1, ‵}
use types.Match.{live}
use types.Part.{agg, sub, whole}
use types.Run.{and_then, bin, blocks, branches, enter, exec, first, fld, lit, no_more, of_opd}
use types.Run.{returns, returns_within, skips, stop}
use types.ByLocal.{alloc_all, env, free_all, get, get_in, lands_last, look_at, pass_all, sets}
use types.Tokens.{lft_new}
use denote.Exit.{yes}
use denote.Param.NoDrop
use denote.RattleType.{RattleType}
use denote.RawPtr.{block_ptr, null_ptr, tests_null}
use denote.Signature.{plain}
use denote.Steps.{heard, nothing, only}
use denote.Triple.Call.{calls_at_last}
use denote.Triple.Spec.{triple_of}
use denote.Triple.Table.{framed}
use denote.Triple.Walked.{ends_at, Goes-dropped, says, Stays, stay_dropped, walk_of}
use Rattle.std.proofs.ResultValues.{and_tt}
use Rattle.std.proofs.alloc.Calls.{α}
use Rattle.std.proofs.boxed.Box.from_raw.Met.{met}
use Rattle.std.proofs.impls.GlobalAllocator.TheImpl.Met as allocator
use Rattle.std.proofs.option.Made.{none_of, Some-of}
use Rattle.std.proofs.BoxSteps.Form.{B, box_ty, box_typed, D, word}
use Rattle.std.proofs.BoxSteps.Steps.{box_in, box_out}
use Rattle.std.specs.contracts.alloc.Global as Heap
use Rattle.std.specs.contracts.boxed.Box as Box
use Rattle.std.specs.contracts.boxed.Box.from_raw as g
use Rattle.std.specs.contracts.option.Option as Option
use Rattle.heap_c.specs.contracts.handle.HeapMut.{the_row}
use Rattle.heap_c.specs.contracts.mine.Mine as Mine
use Rattle.heap_c.proofs.Destruct++none.drop.Code.{code as nothing_dropped}
use Rattle.heap_c.proofs.OfMine.{E, laws, row}
use Rattle.heap_c.proofs.Steps.{handle_out}
use Rattle.heap_c.specs.contracts.handle.HeapMut.into_box as f
use Rattle.heap_c.proofs.handle.HeapMut.into_box.Statement.{statement}
use Rattle.heap_c.proofs.handle.HeapMut.into_box.Code as code

abbrev stayed : Stays f.ended.signature.params f.ended.kept
stayed = (stay_dropped (plain (λ _. the_row)) yes, tt)

abbrev Boxed : RattleType
Boxed = Box.the_row Mine.the_row Heap.the_row E.al.g

pub into_box_spec : {M : Type 1} → statement M
unfolding nothing_dropped
into_box_spec {M = M} 𝓤 𝓛 𝓜 𝓡 wired =
    let c = f.clauses 𝓛 𝓜.mem 𝓡.returns in
    let W = walk_of 𝓛 f.ended stayed c in
    let 𝓣 = tables 𝓤 𝓛.H 𝓜 𝓡 𝓡.env in
    let G = triple_of 𝓛 (g.signature E.row E.al.row E.al.g E.al.d E.al.drops)
    (g.spec E.row E.al.row E.al.g E.al.d E.al.drops 𝓛 𝓜.mem 𝓡.returns) in
    proved_at 𝓛 f.ended stayed c 𝓜 𝓡
    (Goes-dropped 𝓛 0 (plain (λ _. the_row)) yes (λ κs x w. refl), tt)
    f.Key.name code.function (code.unfolded 𝓤 𝓛.H 𝓜 𝓡 wired) (λ z are.
    let h : the_row.Denot = z.0.3.0 in
    qed 𝓛 ((‵ ftrue ⊛ ‵ (fsep (the_row.own_val h z.0.4.0) ftrue)) ∷ raw (emp 𝓤) ∷ []) ∵
    split ! $ drop ! $ fsplit ! $ handle_out row laws ! h.ptr h.alloc h.mine z.0.4.0
    (λ hv no at is fits.
    regoal ! (λ (us : List Val). prop (WpFn 𝓤 𝓛.H 𝓣.C 𝓣.Λ code.function (us ++ []) (W.post z)))
    is refl $ keep ! [] $
    enter ! _ _ _ _ _ $ alloc_all ! (λ l. pass_all ! refl
    ((and_tt (has_ty (α E.al) hv) fits.0, (record { fits = lit< tt }, (fits.1, tt))), tt) $
    sets ! (of_opd ! (get_in ! (fld ! refl (stop !)) (sub ! 0 refl (whole !)))) refl
    (tt, record { fits = lit< tt }) $
    sets ! (of_opd ! (get_in ! (fld ! refl (stop !)) (sub ! 1 refl (whole !)))) refl fits $
    sets ! (of_opd ! (get ! refl)) refl (tt, record { fits = lit< tt }) $
    sets ! (bin ! (get ! refl) (lit ! tt) (tests_null null_ptr (lit< tt))) refl (tt, tt) $
    first ! $ branches ! (get ! refl)
    (λ is_null. sets ! (agg ! (and_then ! (lit ! tt) (no_more !))) refl
    (tt, (record { fits = lit< tt }, tt)) $
    returns_within ! (W.post z) refl (look_at ! 0 refl) $ free_all ! refl $
    use0 𝓛 (‵ ((Option.the_row Boxed).own_val None (live 0 (of_list []) ∷ []))) (none_of 𝓛 Boxed) $
    suffices ! _ (ends_at 𝓛 f.ended stayed c z (live 0 (of_list [])) None (tt, tt) (tt, tt)) $
    says ! no $ nothing ! $ nothing ! $ fjoin ! $ join ! $ nothing ! $ join ! $ done !)
    (λ not_null. absurd not_null)))
    (λ x b o hv so at may is fits.
    let w = word E hv b o in
    regoal ! (λ (us : List Val). prop (WpFn 𝓤 𝓛.H 𝓣.C 𝓣.Λ code.function (us ++ []) (W.post z)))
    is refl $ keep ! (0 ∷ 1 ∷ []) $
    enter ! _ _ _ _ _ $ alloc_all ! (λ l. pass_all ! refl (box_typed E hv b o fits, tt) $
    sets ! (of_opd ! (get_in ! (fld ! refl (stop !)) (sub ! 0 refl (whole !)))) refl (tt, tt) $
    sets ! (of_opd ! (get_in ! (fld ! refl (stop !)) (sub ! 1 refl (whole !)))) refl fits $
    sets ! (of_opd ! (get ! refl)) refl (tt, tt) $
    sets ! (bin ! (get ! refl) (lit ! tt) (tests_null (block_ptr b o) may)) refl (tt, tt) $
    first ! $ branches ! (get ! refl) (λ is_null. absurd is_null)
    (λ not_null. skips ! $
    let En = env code.Mir.locals l in
    exec ! 𝓣.C 𝓣.Λ En code.Mir.t-6 (at_ret En (W.post z)) $
    first ! $ blocks ! $ sets ! (of_opd ! (get ! refl)) refl fits $
    sets ! (of_opd ! (get ! refl)) refl (tt, tt) $ sets ! (of_opd ! (get ! refl)) refl (tt, tt) $
    -- [what the pointer owns; the allocator's handle], and the callee's two lifetimes
    lft_new ! tt (λ α. lft_new ! tt (λ β.
    let alive = ‵ (flft (α ∷ []) full_share) ⊛ ‵ (flft (β ∷ []) full_share) ⊛ ‵ ftrue in
    let y : G.Ghost = (
      (
        (α ∷ [], (β ∷ [], tt)),
        (full_share, (full_share, tt)),
        tt,
        (h.alloc, (block_ptr b o, tt)),
        (hv ∷ [], (vptr b o ∷ [], tt)),
      ),
      x,
    ) in
    nothing ! $ move ! (2 ∷ 1 ∷ 0 ∷ []) $ group ! 3 $ move ! (1 ∷ []) $
    use0 𝓛 (raw (fact 𝓤 ((β ∷ []) ⊑ E.al.row.lives)))
    (fact_i 𝓤 _ (emp 𝓤) (⊑_static (β ∷ []))) $
    use0 𝓛 (raw (fact 𝓤 ((α ∷ []) ⊑ E.row.lives))) (fact_i 𝓤 _ (emp 𝓤) (⊑_static (α ∷ []))) $
    group ! 3 $
    nothing ! $ feq_i ! (List Val) (vptr b o ∷ []) (vptr b o ∷ []) refl $ fjoin ! $
    move ! (3 ∷ 0 ∷ []) $ fjoin ! $ move ! (2 ∷ 0 ∷ []) $ join ! $ join ! $
    use1 𝓛 (raw (G.pre y)) (id⊢ 𝓤 _) $
    calls_at_last ! (framed 𝓤 𝓛.H 𝓜 (tables 𝓤 𝓛.H 𝓜 𝓡 𝓡.env)) G
    (met 𝓤 𝓛 𝓜 𝓡 (code.calls-std_alloc::boxed::Box::from_raw 𝓡.env wired)
    E.row E.al.row E.laws E.al.laws E.al.g E.al.d E.al.drops
    (allocator.passed 𝓡.env (code.calls-std_heap::GlobalAllocator::allocate 𝓡.env wired)
    (code.calls-std_heap::GlobalAllocator::deallocate 𝓡.env wired)
    (code.calls-std_heap::GlobalAllocator::grow 𝓡.env wired)
    (code.calls-std_heap::GlobalAllocator::shrink 𝓡.env wired) M 𝓤 𝓛 𝓜 𝓡)
    (NoDrop.glues "heap_c::Destruct++none::drop" 𝓡.env
    (code.calls-heap_c::Destruct++none::drop 𝓡.env wired) E.al.row E.al.laws M 𝓤 𝓛 𝓜 𝓡)) y
    (and_then ! (get ! refl) (and_then ! (get ! refl) (no_more !))) (λ u.
    use1 𝓛 (later (some (λ (r : D E). (alive ⊛ ‵ ((B E).own_val r (u ∷ []))) ⊛
    some (λ (_ : Unit {0} × (Unit {0} × Unit {0})). ‵ (fsep ftrue (fsep ftrue ftrue)) ⊛
    (raw (fact 𝓤 (r.value ≡ x)) ⊛ raw (fact 𝓤 (r.alloc ≡ h.alloc))))))) (id⊢ 𝓤 _) $
    await ! tt $ pick ! (λ r. split ! $ move ! (1 ∷ []) $ pick ! (λ ws. split3 ! $ drop ! $
    heard ! (r.value ≡ x) (λ same. drop ! $ split ! $ move ! (1 ∷ []) $
    box_out E ! r (u ∷ []) (λ b' o' hw at' is' fits'. box_in E ! r b' o' r.value at' refl $
    rewrite ! 0 (λ (us : List Val). ‵ ((B E).own_val r us)) (sym is') refl $
    let typed : T (has_ty (box_ty E) u) × WT u =
    subst (λ (s : Val). T (has_ty (box_ty E) s) × WT s) (sym (ap only is'))
    (box_typed E hw b' o' fits') in
    lands_last ! refl typed $
    exec ! 𝓣.C 𝓣.Λ En code.Mir.t-7 (at_ret En (W.post z)) $
    sets ! (of_opd ! (get ! refl)) refl typed $
    sets ! (agg ! (and_then ! (lit ! tt) (and_then ! (get ! refl) (no_more !)))) refl
    (and_tt (has_ty (box_ty E) u) typed.0, (record { fits = lit< tt }, (typed.1, tt))) $
    returns ! (look_at ! 0 refl) $ free_all ! refl $ keep ! (0 ∷ []) $
    use1 𝓛 (‵ ((Option.the_row Boxed).own_val (Some r) (live 1 (of_list (u ∷ [])) ∷ [])))
    (Some-of 𝓛 Boxed r u) $
    suffices ! _ (ends_at 𝓛 f.ended stayed c z (live 1 (of_list (u ∷ []))) (Some r) (tt, tt)
    (tt, tt)) $ says ! (so ∙ ap Some (sym same)) $
    nothing ! $ nothing ! $ fjoin ! $ join ! $ nothing ! $ join ! $ done !)))))))))))
