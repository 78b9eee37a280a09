-- The handle is made of a pointer to nothing and the allocator's handle.
use Rattle.std.proofs.Common.{List, [], ◌∷◌, ◌++◌, refl, lit<, None}
use Rattle.std.proofs.raw_atomic.Walks.{proved_at}
use mir.Val.{has_ty, Val}
use base.Fml.{ftrue}
use base.Logic.{emp, id⊢}
use contract.Running.{tables}
use prog.Wp.{WpFn}
use types.Kit.{ !, ◌$◌, ◌∵◌, ◌⊛◌, done, drop, fjoin, fsplit, join, keep, prop, qed, raw, regoal}
use types.Kit.{split, suffices, use1, ‵}
use types.Part.{agg}
use types.Run.{and_then, enter, lit, no_more, returns}
use types.ByLocal.{alloc_all, free_all, get, look_at, pass_all, sets}
use denote.Exit.{yes}
use denote.RattleType.{owns}
use denote.RawPtr.{null_ptr}
use denote.Signature.{plain, types_at}
use denote.Steps.{nothing}
use denote.Triple.Walked.{ends_at, Goes-dropped, says, Stays, stay_dropped, walk_of}
use Rattle.std.proofs.ResultValues.{and_tt}
use Rattle.std.proofs.alloc.Calls.{α, handle_tells}
use Rattle.std.specs.contracts.alloc.Global as Heap
use Rattle.heap_c.proofs.OfCollecting.{E, laws, row}
use Rattle.heap_c.proofs.Steps.{null_in, null_word}
use Rattle.heap_c.specs.contracts.keeper.HeapCol.{the_row}
use Rattle.heap_c.specs.contracts.keeper.HeapCol.null as f
use Rattle.heap_c.proofs.keeper.HeapCol.null.Statement.{statement}
use Rattle.heap_c.proofs.keeper.HeapCol.null.Code as code

abbrev stayed : Stays f.ended.signature.params f.ended.kept
stayed = (stay_dropped (plain (λ _. Heap.the_row)) yes, tt)

pub null_spec : {M : Type 1} → statement M
null_spec 𝓤 𝓛 𝓜 𝓡 wired =
    let c = f.clauses 𝓛 𝓜.mem 𝓡.returns in
    let W = walk_of 𝓛 f.ended stayed c in
    let 𝓣 = tables 𝓤 𝓛.H 𝓜 𝓡 𝓡.env in
    proved_at 𝓛 f.ended stayed c 𝓜 𝓡
    (Goes-dropped 𝓛 0 (plain (λ _. Heap.the_row)) yes (λ κs x w. refl), tt)
    f.Key.name code.function (code.unfolded 𝓤 𝓛.H 𝓜 𝓡 wired) (λ z are.
    let a = z.0.3.0 in
    let made : the_row.Denot = record { ptr = null_ptr; alloc = a; collecting = None } in
    qed 𝓛 ((‵ ftrue ⊛ ‵ (owns (types_at f.ended.signature.params z.0.0) z.0.3 z.0.4))
    ∷ raw (emp 𝓤) ∷ []) ∵ split ! $ drop ! $ fsplit ! $
    handle_tells E.al ! a z.0.4.0 (λ hv is fits.
    regoal ! (λ (us : List Val). prop (WpFn 𝓤 𝓛.H 𝓣.C 𝓣.Λ code.function (us ++ []) (W.post z)))
    is refl $
    enter ! _ _ _ _ _ $ alloc_all ! (λ l. pass_all ! refl (fits, tt) $
    sets ! (agg ! (and_then ! (lit ! tt) (and_then ! (get ! refl) (no_more !)))) refl
    (and_tt (has_ty (α E.al) hv) fits.0, (record { fits = lit< tt }, (fits.1, tt))) $
    returns ! (look_at ! 0 refl) $ free_all ! refl $ keep ! (0 ∷ []) $
    suffices ! _ (ends_at 𝓛 f.ended stayed c z (null_word hv) made (tt, tt) (tt, tt)) $
    says ! refl $ null_in row laws ! a hv $
    use1 𝓛 (‵ (the_row.own_val made (null_word hv ∷ []))) (id⊢ 𝓤 _) $
    nothing ! $ nothing ! $ fjoin ! $ join ! $ nothing ! $ join ! $ done !)))
