use Rattle.std.proofs.Common.{◌≡◌, true, ◌+◌, ◌∷◌, drop, ◌∙◌, ap, sym, arith}
use Rattle.std.proofs.lemmas.List.{drop_more}
use Rattle.std.proofs.lemmas.Bool.{false≢true}
use Rattle.doc_model.proofs.Steps.{legal_first, legal_step, few_step}
use Rattle.doc_model.proofs.history.is_legal.Goals as goal

pub loop-entry-preserved : goal.loop-entry-preserved
loop-entry-preserved c =
    let es = c.args.entries.now in
    let i = c.loop-entry.entry-index in
    let e = c.entry-item.result in
    let rest : drop i es ≡ e ∷ drop (i + 1) es = drop_more es i e (omega arith)
    ∙ ap (λ x. x ∷ drop (i + 1) es) (sym c.entry-item.is) in
    let t : c.in_ok-accept.field-0 ≡ true = c.if-not-branch.false in
    let both = legal_step c.loop-entry.store c.accept.new.self e (drop i es) (drop (i + 1) es) rest
    (c.in_ok-accept.ensures.says.0 t) (c.in_ok-accept.ensures.next t) in
    record {
      rest = (
        λ h. c.loop-entry.invariant.rest.0 (both.0 h),
        λ h. both.1 (c.loop-entry.invariant.rest.1 h),
      );
      few = few_step c.loop-entry.store c.accept.new.self e i c.loop-entry.invariant.few
          (c.in_ok-accept.ensures.says.0 t).0 (c.in_ok-accept.ensures.next t);
    }

pub returns-then-not-branch : goal.returns-then-not-branch
returns-then-not-branch c =
    let es = c.args.entries.now in
    let i = c.loop-entry.entry-index in
    let e = c.entry-item.result in
    let rest : drop i es ≡ e ∷ drop (i + 1) es = drop_more es i e (omega arith)
    ∙ ap (λ x. x ∷ drop (i + 1) es) (sym c.entry-item.is) in (
      λ t. absurd (false≢true t),
      λ legal.
          sym c.if-not-branch.true
          ∙ c.in_ok-accept.ensures.says.1
          (legal_first c.loop-entry.store e (drop i es) (drop (i + 1) es) rest
          (c.loop-entry.invariant.rest.1 legal)),
    )
