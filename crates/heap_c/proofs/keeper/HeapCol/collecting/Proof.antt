-- The handle is opened: of nothing it is closed as it was; else what it owns is lent, and the
-- handle follows it.
use Rattle.std.proofs.Common.{◌≡◌, ℕ, List, [], ◌∷◌, refl, lit<, MutBor, None, Some}
use Rattle.std.proofs.raw_atomic.Walks.{proved}
use seplogic.Ra.Ura.{Ura}
use mir.Raw.{raw as bare}
use mir.Syntax.{named}
use mir.Val.{of_list, Val, vptr}
use base.Fml.{Fml, flft, fres, fsep, ftrue, GName}
use base.Fraction.{full_share}
use base.Logic.{ent, id⊢, sep}
use contract.Running.{tables}
use types.Kit.{ !, ◌$◌, ◌∵◌, ◌⊛◌, at_ret, await, done, fjoin, fjoin3, fpack, frame, fsplit, fsplit3}
use types.Kit.{group, join, keep, later, move, pick, qed, rewrite, some, split, split3, suffices}
use types.Kit.{use0, use1, ‵}
use types.Logic.{Logic, sem}
use types.Match.{live}
use types.Part.{agg, look_in, sub, whole}
use types.Run.{addr, and_then, bin, blocks, branches, enter, exec, first, fld, lit, load, no_more}
use types.Run.{of_opd, returns, returns_within, skips, stop}
use types.ByLocal.{alloc_all, env, free_all, get, look_at, pass_all, sets, sets_last, through}
use denote.Exit.{no}
use denote.Follow.{follows, follows_by, lends_Part}
use denote.Memory.{cell_at, mem, part_at, part_of}
use denote.RawPtr.{block_ptr, null_ptr, tests_null}
use denote.Ref.{MutRef, mut_Tells, mut_vals}
use denote.Signature.{mut_ref_to, plain}
use denote.Steps.{closes, nothing, opens}
use denote.Triple.Walked.{ends_at, Goes-spent_ref, says, Stays, stay_dropped, walk_of}
use Rattle.std.proofs.alloc.Calls.{token}
use Rattle.std.proofs.option.Made.{none_of, Some-of}
use Rattle.std.proofs.BoxSteps.Form.{D, handle, R, word, τ}
use Rattle.std.proofs.BoxSteps.Steps.{box_in}
use Rattle.std.specs.contracts.option.Option as Option
use Rattle.heap_c.specs.Lending.{with_collecting}
use Rattle.heap_c.specs.contracts.keeper.HeapCol.{the_row}
use Rattle.heap_c.specs.contracts.collecting.Collecting as Collecting
use Rattle.heap_c.proofs.OfCollecting.{E, laws, row}
use Rattle.heap_c.proofs.Steps.{handle_out, null_back, null_word}
use Rattle.heap_c.specs.contracts.keeper.HeapCol.collecting as f
use Rattle.heap_c.proofs.keeper.HeapCol.collecting.Statement.{statement}
use Rattle.heap_c.proofs.keeper.HeapCol.collecting.Code as code

abbrev stayed : Stays f.ended.signature.params f.ended.kept
stayed = (stay_dropped (mut_ref_to (0 ∷ []) tt (plain (λ _. the_row))) no, tt)

module _ (h : the_row.Denot) (b o rb ro : ℕ) (hv : Val) where
  -- all of a handle but what it owns
  abbrev Rest : Fml
  Rest = fsep (token E.al h.alloc (bare (τ E)) (block_ptr b o)) (fsep (handle E h.alloc hv)
      (cell_at full_share the_row.mir (word E hv b o ∷ []) rb ro))

  back : {M : Type 1} {𝓤 : Ura M} (𝓛 : Logic 𝓤) → h.ptr ≡ block_ptr b o
      → (x : Collecting.the_row.Denot)
      → ent 𝓤 (sep 𝓤 (sem 𝓛 ((mem Collecting.the_row).own_at x b o)) (sem 𝓛 Rest))
      (sem 𝓛 ((mem the_row).own_at (with_collecting h x) rb ro))
  unfolding part_of
  back {𝓤 = 𝓤} 𝓛 at x =
      let d : D E = record { ptr = h.ptr; alloc = h.alloc; value = x } in
      qed 𝓛 (‵ (part_at (R E) full_share x b o) ∷ ‵ Rest ∷ []) ∵ move ! (1 ∷ []) $
      fsplit3 ! $ move ! (3 ∷ 0 ∷ 1 ∷ []) $ box_in E ! d b o x at refl $
      use1 𝓛 (‵ (the_row.own_val (with_collecting h x) (word E hv b o ∷ []))) (id⊢ 𝓤 _) $
      move ! (1 ∷ 0 ∷ []) $ fjoin ! $
      fpack ! (List Val) (λ us. fsep (cell_at full_share the_row.mir us rb ro)
      (the_row.own_val (with_collecting h x) us)) (word E hv b o ∷ []) $ done !

pub collecting_spec : {M : Type 1} → statement M
unfolding follows_by
collecting_spec 𝓤 𝓛 𝓜 𝓡 wired =
    let c = f.clauses 𝓛 𝓜.mem 𝓡.returns in
    let W = walk_of 𝓛 f.ended stayed c in
    let 𝓣 = tables 𝓤 𝓛.H 𝓜 𝓡 𝓡.env in
    proved 𝓛 f.ended stayed c 𝓜 𝓡
    (Goes-spent_ref 𝓛 1 (0 ∷ []) tt (plain (λ _. the_row)), tt)
    f.Key.name code.function (code.unfolded 𝓤 𝓛.H 𝓜 𝓡 wired)
    (λ κs. (mut_vals, tt)) (λ κs. (mut_Tells (named 0) κs.0 the_row, tt))
    (λ κs qs bounds a _ are.
    let κ = κs.0 in let q = qs.0 in let h = a.0.now in let γ = a.0.ghost_name in
    let b = a.0.ref_ptr.0 in let o = a.0.ref_ptr.1 in let vs = mut_vals a.0 in
    let y : W.Ghost = ((κs, qs, bounds, a, (vs, tt)), tt) in
    let Lent = MutRef (named 0) κ Collecting.the_row in
    let Cell = λ (ws : List Val). ‵ (cell_at full_share the_row.mir ws b o) in
    qed 𝓛 (((‵ (flft κ q) ⊛ ‵ ftrue) ⊛ ‵ ((MutRef (named 0) κ the_row).own_val a.0 vs) ⊛ ‵ ftrue)
    ∷ ‵ ftrue ∷ []) ∵
    split ! $ split ! $ move ! (2 ∷ []) $ split ! $ keep ! (0 ∷ 2 ∷ []) $
    enter ! _ _ _ _ _ $ alloc_all ! (λ l. pass_all ! refl ((tt, tt), tt) $
    let En = env code.Mir.locals l in
    fsplit3 ! $ move ! (1 ∷ 2 ∷ 3 ∷ []) $ opens ! tt the_row {h = h} b o (λ us.
    move ! (1 ∷ []) $ handle_out row laws ! h.ptr h.alloc h.collecting us
    (λ hv none at is fits.
    -- [the allocator's handle; the cell; the open borrow, in three entries]
    rewrite ! 1 Cell is refl $
    sets ! (of_opd ! (load ! (through ! refl (fld ! refl (stop !)))
    (look_in ! 1 (sub ! 0 refl (whole !))))) refl (tt, record { fits = lit< tt }) $
    sets ! (bin ! (get ! refl) (lit ! tt) (tests_null null_ptr (lit< tt))) refl (tt, tt) $
    first ! $ branches ! (get ! refl)
    (λ is_null. sets ! (agg ! (and_then ! (lit ! tt) (no_more !))) refl
    (tt, (record { fits = lit< tt }, tt)) $
    null_back row laws ! h.ptr h.alloc h.collecting hv none at $
    use1 𝓛 (‵ (the_row.own_val h (null_word hv ∷ []))) (id⊢ 𝓤 _) $ move ! (1 ∷ 0 ∷ []) $
    closes ! tt the_row h (null_word hv ∷ []) b o $
    -- [what the handle ends as; its borrow; the lifetime]
    use1 𝓛 (‵ (fres γ (the_row.coded.code h))) (𝓛.names.obs-res γ (the_row.coded.code h)) $
    use0 𝓛 (‵ ((Option.the_row Lent).own_val None (live 0 (of_list []) ∷ []))) (none_of 𝓛 Lent) $
    returns_within ! (W.post y) refl (look_at ! 0 refl) $ free_all ! refl $
    keep ! (0 ∷ 3 ∷ 1 ∷ []) $
    suffices ! _ (ends_at 𝓛 f.ended stayed c y (live 0 (of_list [])) None (tt, tt) (tt, tt)) $
    nothing ! $ nothing ! $ fjoin ! $ join ! $ nothing ! $ move ! (2 ∷ 0 ∷ []) $ join ! $ join ! $
    frame ! $ says ! none $ done !)
    (λ not_null. absurd not_null))
    (λ x pb po hv so at may is fits.
    -- [what is owned; the allocator's handle; the cell; the open borrow, in three entries]
    rewrite ! 2 Cell is refl $
    sets ! (of_opd ! (load ! (through ! refl (fld ! refl (stop !)))
    (look_in ! 2 (sub ! 0 refl (whole !))))) refl (tt, tt) $
    sets ! (bin ! (get ! refl) (lit ! tt) (tests_null (block_ptr pb po) may)) refl (tt, tt) $
    first ! $ branches ! (get ! refl) (λ is_null. absurd is_null)
    (λ not_null. skips ! $
    exec ! 𝓣.C 𝓣.Λ En code.Mir.t-4 (at_ret En (W.post y)) $
    fsplit ! $ first ! $ blocks ! $
    sets ! (of_opd ! (load ! (through ! refl (fld ! refl (stop !)))
    (look_in ! 3 (sub ! 0 refl (whole !))))) refl (tt, tt) $
    sets ! (of_opd ! (get ! refl)) refl (tt, tt) $
    sets_last ! (addr ! (through ! refl (stop !))) refl (tt, tt) $
    exec ! 𝓣.C 𝓣.Λ En code.Mir.t-5 (at_ret En (W.post y)) $
    sets ! (of_opd ! (get ! refl)) refl (tt, tt) $
    sets ! (agg ! (and_then ! (lit ! tt) (and_then ! (get ! refl) (no_more !)))) refl
    (tt, (record { fits = lit< tt }, (tt, tt))) $
    -- [what is owned; the right to free it; the allocator's handle; the cell; the open borrow]
    move ! (1 ∷ 2 ∷ 3 ∷ []) $ fjoin3 ! $ move ! (2 ∷ 3 ∷ 4 ∷ 1 ∷ 0 ∷ []) $ group ! 5 $
    use1 𝓛 (later (some (λ (δ : GName).
    ‵ (Lent.own_val (record { ref_ptr = (pb, po); ghost_name = δ; now = x }) (vptr pb po ∷ []))
    ⊛ ‵ (flft κ q) ⊛ ‵ (follows the_row Collecting.the_row γ δ (with_collecting h)))))
    (lends_Part 𝓛 the_row Collecting.the_row (with_collecting h) (named 0) κ q b o pb po γ
    (sem 𝓛 (Rest h pb po b o hv)) (back h pb po b o hv 𝓛 at)
    (the_row.coded.code h) (the_row.coded.code h) x) $ await ! tt $ pick ! (λ δ. split3 ! $
    let r : MutBor Collecting.the_row.Denot =
    record { ref_ptr = (pb, po); ghost_name = δ; now = x } in
    let some_r = live 1 (of_list (vptr pb po ∷ [])) in
    use1 𝓛 (‵ ((Option.the_row Lent).own_val (Some r) (some_r ∷ [])))
    (Some-of 𝓛 Lent r (vptr pb po)) $
    returns ! (look_at ! 0 refl) $ free_all ! refl $ keep ! (0 ∷ 1 ∷ 2 ∷ []) $
    suffices ! _ (ends_at 𝓛 f.ended stayed c y some_r (Some r) (tt, tt) (tt, tt)) $
    nothing ! $ nothing ! $ fjoin ! $ join ! $ nothing ! $ move ! (2 ∷ 0 ∷ []) $ join ! $ join ! $
    frame ! $ says ! so $ done !))))))
