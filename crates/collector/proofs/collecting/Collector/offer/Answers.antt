use Rattle.std.proofs.Common.{inl, inr, ℕ, ap, subst}
use Rattle.cell_words.specs.declared.controls.Control.{Control}
use Rattle.collector.specs.Offering.{Offers}
use Rattle.free_cells.specs.Hints.{counts_of}
use Rattle.collector.proofs.collecting.Collector.offer.Goals as goal

pub returns-then-put-clause-offered : goal.returns-then-put-clause-offered
returns-then-put-clause-offered g c =
    subst (λ (cell : ℕ). Offers cell (counts_of c.args.hints.now) (counts_of c.put.new.self))
    (ap (λ (x : Control). x.position) c.control-cell.ensures.control) (inl c.if-put.ensures.counts)

pub returns-clause-offered : goal.returns-clause-offered
returns-clause-offered g c =
    subst (λ (cell : ℕ). Offers cell (counts_of c.args.hints.now) (counts_of c.put.new.self))
    (ap (λ (x : Control). x.position) c.control-cell.ensures.control) (inr c.if-put.ensures.counts)
