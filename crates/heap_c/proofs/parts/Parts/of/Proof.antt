-- The box is taken apart by `into_raw_with_allocator`, and the parts own what that gives.
use Rattle.std.proofs.Common.{List, [], ◌∷◌, ◌++◌, refl, ap, ◌∙◌, ◌≡◌}
use Rattle.std.proofs.raw_atomic.Walks.{proved_at}
use mir.MapTy.{inst_fn}
use mir.Syntax.{a_type, dcons, Dict, dnil}
use mir.Raw.{raw as bare}
use mir.Val.{Val, vstruct, of_list}
use base.Fml.{flft, fsep, ftrue}
use base.Fraction.{full_share}
use base.Logic.{emp, fst∗, id⊢, never}
use contract.BorrowLft.{◌⊑◌, ⊑_static}
use contract.Monad.{fact, fact_i}
use contract.Running.{tables}
use prog.Wp.{WpFn}
use types.Kit.{ !, ◌$◌, ◌∵◌, ◌⊛◌, await, done, drop, feq_l, fjoin, fpick, fsplit, group, join, keep}
use types.Kit.{later, move, pick, prop, qed, raw, regoal, rewrite, some, split, split3, suffices}
use types.Kit.{use0, use1, ‵}
use types.Logic.{sem}
use types.Part.{agg, sub, whole}
use types.Run.{and_then, enter, fld, no_more, of_opd, returns, stop}
use types.ByLocal.{alloc_all, free_all, get, get_in, lands_as, look_at, pass_all, sets}
use types.Tokens.{lft_new}
use denote.Exit.{no}
use denote.Param.{bounded}
use denote.Param.Laws.{Laws}
use denote.Param.NoDrop
use denote.RattleType.{RattleType}
use denote.RawPtr.{block_ptr, in_a_block, null_ptr, Ptr, ptr_val, RawPtr}
use denote.Signature.{plain}
use denote.Steps.{heard, nothing, only}
use denote.Struct.Tuple.{Tuple}
use denote.Triple.Call.{calls_at}
use denote.Triple.Spec.{triple_of}
use denote.Triple.Table.{framed}
use denote.Triple.Walked.{ends_at, says, Stays, stay_dropped, walk_of}
use Rattle.std.proofs.alloc.Calls.{Goes-blank, handle_tells, token}
use Rattle.std.proofs.boxed.Box.into_raw_with_allocator.Met.{met}
use Rattle.std.proofs.impls.GlobalAllocator.TheImpl.Met as allocator
use Rattle.std.proofs.BoxSteps.Form.{B, box_typed, D, P, R, word, τ}
use Rattle.std.proofs.BoxSteps.Steps.{box_in, box_out}
use Rattle.std.specs.Box.Ownership.{box_owns}
use Rattle.std.specs.contracts.alloc.Global as Heap
use Rattle.std.specs.contracts.boxed.Box as Box
use Rattle.std.specs.contracts.impls.GlobalAllocator.TheImpl.{ghosts}
use Rattle.std.specs.contracts.boxed.Box.into_raw_with_allocator as g
use Rattle.heap_c.proofs.Destruct++none.drop.Code.{code as nothing_dropped}
use Rattle.heap_c.proofs.Owner.{boxed}
use Rattle.heap_c.specs.contracts.parts.Parts as Parts
use Rattle.heap_c.specs.contracts.parts.Parts.of as f
use Rattle.heap_c.proofs.parts.Parts.of.Statement.{statement}
use Rattle.heap_c.proofs.parts.Parts.of.Code as code

-- the box as the parameter's type has it
abbrev From : RattleType → RattleType
From row = Box.the_row (f.T-row row) Heap.the_row ghosts

abbrev stayed : (row : RattleType) (laws : Laws row) (drops : Dict)
    → Stays (f.ended row drops).signature.params (f.ended row drops).kept
stayed row laws drops = (stay_dropped (plain (λ _. From row)) no, tt)

pub of_spec : {M : Type 1} → statement M
unfolding nothing_dropped
of_spec {M = M} 𝓤 𝓛 𝓜 𝓡 wired row laws drops glue =
    let E = boxed row laws in
    let Out = Parts.the_row (f.T-row row) in
    let c = f.clauses row drops 𝓛 𝓜.mem 𝓡.returns in
    let W = walk_of 𝓛 (f.ended row drops) (stayed row laws drops) c in
    let 𝓣 = tables 𝓤 𝓛.H 𝓜 𝓡 𝓡.env in
    let args = bounded (a_type ∷ []) (row, tt) (dcons drops dnil) in
    let fn = inst_fn args code.function in
    let G = triple_of 𝓛 (g.signature E.row E.al.row E.al.g E.al.d E.al.drops drops)
    (g.spec E.row E.al.row E.al.g E.al.d E.al.drops drops 𝓛 𝓜.mem 𝓡.returns) in
    proved_at 𝓛 (f.ended row drops) (stayed row laws drops) c 𝓜 𝓡
    (Goes-blank 𝓛 1 (plain (λ _. From row)) no (λ κs x w. tt), tt)
    (f.Key.name args) fn (code.unfolded 𝓤 𝓛.H 𝓜 𝓡 wired (row, tt) drops) (λ z are.
    let v : D E = z.0.3.0 in
    let κ = z.0.0.0 in let q = z.0.1.0 in
    qed 𝓛 (((‵ (flft κ q) ⊛ ‵ ftrue) ⊛ ‵ (fsep ((B E).own_val v z.0.4.0) ftrue))
    ∷ (raw (fact 𝓤 (κ ⊑ row.lives)) ⊛ ‵ ftrue) ∷ []) ∵
    split ! $ move ! (2 ∷ []) $ split ! $ heard ! _ (λ lives. drop ! $ split ! $
    move ! (2 ∷ []) $ fsplit ! $ box_out E ! v z.0.4.0 (λ b o hv at is fits.
    let w = word E hv b o in
    regoal ! (λ (us : List Val). prop (WpFn 𝓤 𝓛.H 𝓣.C 𝓣.Λ fn (us ++ []) (W.post z)))
    is refl $
    box_in E ! v b o v.value at refl $ keep ! (0 ∷ 2 ∷ []) $
    enter ! _ _ _ _ _ $ alloc_all ! (λ l. pass_all ! refl (box_typed E hv b o fits, tt) $
    sets ! (of_opd ! (get ! refl)) refl (box_typed E hv b o fits) $
    -- [the box; the lifetime], and one more for the callee
    lft_new ! tt (λ β.
    let alive = ‵ (flft κ q) ⊛ ‵ (flft (β ∷ []) full_share) ⊛ ‵ ftrue in
    let y : G.Ghost = (((κ, (β ∷ [], tt)), (q, (full_share, tt)), tt, (v, tt), (w ∷ [], tt)), tt) in
    nothing ! $ move ! (3 ∷ 1 ∷ 0 ∷ []) $ group ! 3 $
    nothing ! $ move ! (2 ∷ 0 ∷ []) $ fjoin ! $ move ! (1 ∷ 0 ∷ []) $ join ! $
    nothing ! $ use0 𝓛 (raw (fact 𝓤 ((β ∷ []) ⊑ E.al.row.lives)))
    (fact_i 𝓤 _ (emp 𝓤) (⊑_static (β ∷ []))) $
    use0 𝓛 (raw (fact 𝓤 (κ ⊑ row.lives))) (fact_i 𝓤 _ (emp 𝓤) lives) $
    group ! 3 $ move ! (1 ∷ 0 ∷ []) $ join ! $ use1 𝓛 (raw (G.pre y)) (id⊢ 𝓤 _) $
    calls_at ! (framed 𝓤 𝓛.H 𝓜 (tables 𝓤 𝓛.H 𝓜 𝓡 𝓡.env)) G
    (met 𝓤 𝓛 𝓜 𝓡 (code.calls-std_alloc::boxed::Box::into_raw_with_allocator 𝓡.env wired)
    E.row E.al.row E.laws E.al.laws E.al.g E.al.d E.al.drops drops
    (allocator.passed 𝓡.env (code.calls-std_heap::GlobalAllocator::allocate 𝓡.env wired)
    (code.calls-std_heap::GlobalAllocator::deallocate 𝓡.env wired)
    (code.calls-std_heap::GlobalAllocator::grow 𝓡.env wired)
    (code.calls-std_heap::GlobalAllocator::shrink 𝓡.env wired) M 𝓤 𝓛 𝓜 𝓡)
    (NoDrop.glues "heap_c::Destruct++none::drop" 𝓡.env
    (code.calls-heap_c::Destruct++none::drop 𝓡.env wired) E.al.row E.al.laws M 𝓤 𝓛 𝓜 𝓡) glue) y
    (and_then ! (get ! refl) (no_more !)) (λ u.
    use1 𝓛 (later (some (λ (r : Ptr × E.al.row.Denot).
    (alive ⊛ ‵ ((Tuple (RawPtr ∷ P E ∷ [])).own_val r (u ∷ []))) ⊛
    some (λ (_ : (Unit {0} × (Unit {0} × Unit {0})) × Unit {0}).
    ‵ (fsep (fsep ftrue (fsep ftrue ftrue)) ftrue) ⊛ (raw (fact 𝓤 (r.1 ≡ v.alloc)) ⊛
    ‵ (box_owns (token E.al v.alloc) (R E) r.0 v.value)))))) (id⊢ 𝓤 _) $
    await ! tt $ pick ! (λ r. split ! $ move ! (1 ∷ []) $ pick ! (λ ws. split3 ! $ drop ! $
    heard ! (r.1 ≡ v.alloc) (λ same.
    in_a_block ! r.0 (λ p. box_owns (token E.al v.alloc) (R E) p v.value)
    (fst∗ 𝓤 (never 𝓤) (sem 𝓛 (token E.al v.alloc (bare (τ E)) null_ptr))) (λ b' o' at'.
    -- [what the pointer owns; the lifetimes with the pair]
    move ! (1 ∷ []) $ split ! $ move ! (1 ∷ []) $ fpick ! (λ vss. fsplit ! $ feq_l ! (λ pair.
    fsplit ! $ feq_l ! (λ pointer. fsplit ! $
    rewrite ! 0 (λ (s : E.al.row.Denot). ‵ (E.al.row.own_val s vss.1.0)) same refl $
    handle_tells E.al ! v.alloc vss.1.0 (λ hw is' fits'.
    let d : D E = record { ptr = block_ptr b' o'; alloc = v.alloc; value = v.value } in
    let made : Out.Denot = record {
      ptr = block_ptr b' o';
      alloc = v.alloc;
      value = v.value;
    } in
    let w' = word E hw b' o' in
    let typed = box_typed E hw b' o' fits' in
    lands_as ! (ap only (pair ∙ (λ j. vstruct (of_list
    ((pointer ∙ ap (λ (p : Ptr). ptr_val p ∷ []) at') j ++ (is' j ++ []))) ∷ []))) refl typed $
    sets ! (of_opd ! (get_in ! (fld ! refl (stop !)) (sub ! 0 refl (whole !)))) refl (tt, tt) $
    sets ! (of_opd ! (get_in ! (fld ! refl (stop !)) (sub ! 1 refl (whole !)))) refl fits' $
    sets ! (agg ! (and_then ! (get ! refl) (and_then ! (get ! refl) (no_more !)))) refl typed $
    returns ! (look_at ! 0 refl) $ free_all ! refl $
    -- [the allocator's handle; nothing; the lifetimes; what the pointer owns]
    keep ! (3 ∷ 0 ∷ 2 ∷ []) $ fsplit ! $ box_in E ! d b' o' v.value refl refl $
    use1 𝓛 (‵ (Out.own_val made (w' ∷ []))) (id⊢ 𝓤 _) $
    move ! (1 ∷ []) $ split3 ! $ keep ! (0 ∷ 3 ∷ []) $
    suffices ! _ (ends_at 𝓛 (f.ended row drops) (stayed row laws drops) c z w' made
    (tt, tt) (tt, tt)) $ says ! refl $
    nothing ! $ move ! (1 ∷ 0 ∷ []) $ join ! $ move ! (1 ∷ 0 ∷ []) $
    nothing ! $ nothing ! $ fjoin ! $ join ! $ move ! (1 ∷ 0 ∷ []) $ join ! $ done !))))))))))))))
