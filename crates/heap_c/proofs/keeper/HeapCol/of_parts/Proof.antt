-- The handle owns what the parts of a box do: the pointer is cast, and nothing else changes.
use Rattle.std.proofs.Common.{List, [], ◌∷◌, ◌++◌, refl, Some}
use Rattle.std.proofs.raw_atomic.Walks.{proved_at}
use mir.Val.{Val}
use base.Fml.{fsep, ftrue}
use base.Logic.{emp, id⊢}
use contract.Running.{tables}
use prog.Wp.{WpFn}
use types.Kit.{ !, ◌$◌, ◌∵◌, ◌⊛◌, done, drop, fjoin, fsplit, join, keep, prop, qed, raw, regoal}
use types.Kit.{split, suffices, use1, ‵}
use types.Part.{agg, sub, whole}
use types.Run.{and_then, enter, fld, no_more, of_opd, returns, stop}
use types.ByLocal.{alloc_all, free_all, get, get_in, look_at, pass_all, sets}
use denote.Exit.{yes}
use denote.RattleType.{RattleType}
use denote.Signature.{plain}
use denote.Steps.{nothing}
use denote.Triple.Walked.{ends_at, Goes-dropped, says, Stays, stay_dropped, walk_of}
use Rattle.std.proofs.BoxSteps.Form.{B, box_typed, D, word}
use Rattle.std.proofs.BoxSteps.Steps.{box_in, box_out}
use Rattle.heap_c.proofs.OfCollecting.{E}
use Rattle.heap_c.specs.contracts.keeper.HeapCol.{the_row}
use Rattle.heap_c.specs.contracts.parts.Parts as Parts
use Rattle.heap_c.specs.contracts.collecting.Collecting as Collecting
use Rattle.heap_c.specs.contracts.keeper.HeapCol.of_parts as f
use Rattle.heap_c.proofs.keeper.HeapCol.of_parts.Statement.{statement}
use Rattle.heap_c.proofs.keeper.HeapCol.of_parts.Code as code

abbrev From : RattleType
From = Parts.the_row Collecting.the_row

abbrev stayed : Stays f.ended.signature.params f.ended.kept
stayed = (stay_dropped (plain (λ _. From)) yes, tt)

pub of_parts_spec : {M : Type 1} → statement M
of_parts_spec 𝓤 𝓛 𝓜 𝓡 wired =
    let c = f.clauses 𝓛 𝓜.mem 𝓡.returns in
    let W = walk_of 𝓛 f.ended stayed c in
    let 𝓣 = tables 𝓤 𝓛.H 𝓜 𝓡 𝓡.env in
    proved_at 𝓛 f.ended stayed c 𝓜 𝓡
    (Goes-dropped 𝓛 0 (plain (λ _. From)) yes (λ κs x w. refl), tt)
    f.Key.name code.function (code.unfolded 𝓤 𝓛.H 𝓜 𝓡 wired) (λ z are.
    let p : From.Denot = z.0.3.0 in
    let d : D E = record { ptr = p.ptr; alloc = p.alloc; value = p.value } in
    let made : the_row.Denot = record {
      ptr = p.ptr;
      alloc = p.alloc;
      collecting = Some p.value;
    } in
    qed 𝓛 ((‵ ftrue ⊛ ‵ (fsep ((B E).own_val d z.0.4.0) ftrue)) ∷ raw (emp 𝓤) ∷ []) ∵
    split ! $ drop ! $ fsplit ! $ box_out E ! d z.0.4.0 (λ b o hv at is fits.
    let w = word E hv b o in
    let typed = box_typed E hv b o fits in
    regoal ! (λ (us : List Val). prop (WpFn 𝓤 𝓛.H 𝓣.C 𝓣.Λ code.function (us ++ []) (W.post z)))
    is refl $
    box_in E ! d b o d.value at refl $
    use1 𝓛 (‵ (the_row.own_val made (w ∷ []))) (id⊢ 𝓤 _) $ keep ! (0 ∷ []) $
    enter ! _ _ _ _ _ $ alloc_all ! (λ l. pass_all ! refl (typed, tt) $
    sets ! (of_opd ! (get_in ! (fld ! refl (stop !)) (sub ! 0 refl (whole !)))) refl (tt, tt) $
    sets ! (of_opd ! (get_in ! (fld ! refl (stop !)) (sub ! 1 refl (whole !)))) refl fits $
    sets ! (of_opd ! (get ! refl)) refl (tt, tt) $
    sets ! (agg ! (and_then ! (get ! refl) (and_then ! (get ! refl) (no_more !)))) refl typed $
    returns ! (look_at ! 0 refl) $ free_all ! refl $
    suffices ! _ (ends_at 𝓛 f.ended stayed c z w made (tt, tt) (tt, tt)) $ says ! refl $
    nothing ! $ nothing ! $ fjoin ! $ join ! $ nothing ! $ join ! $ done !)))
