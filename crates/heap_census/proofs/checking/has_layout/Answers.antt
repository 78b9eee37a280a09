use Rattle.std.proofs.Common.{◌∙◌, ap, arith, sym}
use Rattle.std.proofs.lemmas.Bool.{true≢false, false≢true}
use Rattle.heap_census.specs.Layouts.{fits}
use Rattle.heap_census.proofs.Checks.{shape_more}
use Rattle.heap_census.proofs.Parts.{part_is}
use Rattle.heap_census.proofs.checking.has_layout.Goals as goal

-- what was tested is the part of the layout against the field
pub loop-i-preserved : goal.loop-i-preserved
loop-i-preserved g c = λ h shows.
    let r = c.args.role in
    let i = c.loop-i.i in
    let part = part_is c.layout-parts.result r i _ c.layout-parts.ensures c.loop-i-test.true in
    shape_more h r c.args.cell i (c.loop-i.invariant h shows)
    (ap (λ p. fits p (h.field c.args.cell i)) (sym part)
    ∙ (ap (fits _) (sym (c.field.ensures h shows)) ∙ (sym c.fits.ensures ∙ c.if-not-fits.false)))

pub returns-then-not-fits : goal.returns-then-not-fits
returns-then-not-fits g c = record {
  fit = λ h shows is. absurd (false≢true is);
  misfit = λ h shows is.
      let r = c.args.role in
      let i = c.loop-i.i in
      let part = part_is c.layout-parts.result r i _ c.layout-parts.ensures c.loop-i-test.true in (
        i,
        c.loop-i-test.true,
        ap (λ p. fits p (h.field c.args.cell i)) (sym part)
            ∙ (ap (fits _) (sym (c.field.ensures h shows))
            ∙ (sym c.fits.ensures ∙ c.if-not-fits.true)),
      );
}

pub returns : goal.returns
returns g c = record {
  fit = λ h shows is i among.
      c.loop-i.invariant h shows i (omega (arith, among, c.loop-i-test.false));
  misfit = λ h shows is. absurd (true≢false is);
}
