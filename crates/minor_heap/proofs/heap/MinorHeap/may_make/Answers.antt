use Rattle.std.proofs.Common.{◌∙◌, ℕ, refl, sym, subst, true≢false, arith, length}
use Rattle.std.specs.Prelude.{slice_index_or}
use Rattle.minor_heap.specs.declared.record.FieldKind.TheVariants as kind
use Rattle.minor_heap.specs.Record.{IsWithin, field_of}
use Rattle.minor_heap.proofs.Within.{within_all, within_at, within_fit, within_more}
use Rattle.minor_heap.proofs.heap.MinorHeap.may_make.Goals as goal

pub loop-i-preserved : goal.loop-i-preserved
loop-i-preserved c =
    within_more (length c.args.self.now.records) c.args.places c.args.kinds.now c.args.words.now
    c.loop-i.i
    (subst (λ (n : ℕ). IsWithin n c.args.places (field_of
    (slice_index_or c.args.kinds.now c.loop-i.i kind.Null)
    (slice_index_or c.args.words.now c.loop-i.i 0))) c.len.ensures.count
    (c.is_within.ensures.within.0 c.if-not-is_within.false))
    c.loop-i.invariant

pub returns-then-not-is_within-clause-may : goal.returns-then-not-is_within-clause-may
returns-then-not-is_within-clause-may c = (
  (λ no. absurd (true≢false (sym no))),
  (λ all.
      sym c.if-not-is_within.true ∙ c.is_within.ensures.within.1
      (subst (λ (n : ℕ). IsWithin n c.args.places (field_of
      (slice_index_or c.args.kinds.now c.loop-i.i kind.Null)
      (slice_index_or c.args.words.now c.loop-i.i 0))) (sym c.len.ensures.count)
      (within_at (length c.args.self.now.records) c.args.places c.args.kinds.now c.args.words.now
      c.loop-i.i (omega (arith, c.loop-i-test.true, c.told-kinds))
      (c.told-kinds ∙ sym c.told-words) all))),
)

pub returns-clause-may : goal.returns-clause-may
returns-clause-may c = (
  (λ _. within_all (length c.args.self.now.records) c.args.places c.args.kinds.now
      c.args.words.now c.loop-i.i (omega (arith, c.told-kinds, c.loop-i-test.false))
      (c.told-kinds ∙ sym c.told-words) c.loop-i.invariant),
  (λ _. refl),
)

pub returns-clause-fits : goal.returns-clause-fits
returns-clause-fits c is =
    within_fit (length c.args.self.now.records) c.args.places c.args.kinds.now c.args.words.now
    ((returns-clause-may c).0 is)
