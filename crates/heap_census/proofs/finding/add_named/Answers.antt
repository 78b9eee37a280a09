use Rattle.std.proofs.Common.{◌+◌, ◌∙◌, ap, arith, subst, sym}
use Rattle.heap_census.specs.Heap.{NamesFit}
use Rattle.heap_census.specs.Layouts.{named_by}
use Rattle.heap_census.specs.Search.{GrowsTo, with_found}
use Rattle.heap_census.proofs.Found.{grows_same, grows_on, add_grows, named_start, named_pass}
use Rattle.heap_census.proofs.Found.{named_more, NamedSoFar}
use Rattle.heap_census.proofs.Parts.{part_is}
use Rattle.heap_census.proofs.finding.add_named.Goals as goal
use Rattle.heap_census.proofs.finding.add_named.Goals.{in-Some+in-Cell+in_ok-add}
use Rattle.heap_census.proofs.finding.add_named.Goals.{in-Some+in_default-field, in_default}

pub loop-i-init : goal.loop-i-init
loop-i-init g c = record {
  grows = grows_same c.args.found.now;
  named = λ h shows. named_start h c.args.next.role c.args.next.cell c.args.found.now;
}

pub loop-i-preserved : goal.loop-i-preserved
loop-i-preserved g c =
    let r = c.args.next.role in
    let b = c.args.next.cell in
    let i = c.loop-i.i in
    let start = c.args.found.now in
    let old = c.loop-i.found in
    let invariant = c.loop-i.invariant in
    let part = part_is c.layout-parts.result r i _ c.layout-parts.ensures c.loop-i-test.true in
    let gave = c.named_by.ensures ∙ ap named_by part in
    elim c.match-named_by.branch [
      | in-Some+in-Cell+in_ok-add w ↦
          let q = w.in-Some.role in
          let d = w.in-Cell.cell in
          let e = w.found-is ∙ w.in_ok-add.ensures.added in
          record {
            grows = subst (GrowsTo start) (sym e)
                (grows_on start old (with_found old q d) invariant.grows (add_grows old q d));
            named = λ h shows. subst (NamedSoFar h r b (i + 1) start) (sym e)
                (named_more h r b i q d start old c.loop-i-test.true
                (subst (λ n. NamesFit n h) (sym (invariant.grows.size ∙ c.requires.size))
                (g.met.C.Cells.fits c.args.cells.now h shows))
                (sym gave ∙ w.in-Some.is) (sym (w.field.ensures h shows) ∙ w.in-Cell.is)
                (invariant.named h shows));
          }
      | in-Some+in_default-field w ↦ record {
        grows = subst (GrowsTo start) (sym w.found-is) invariant.grows;
        named = λ h shows. subst (NamedSoFar h r b (i + 1) start) (sym w.found-is)
            (named_pass h r b i start old
            (λ q d _ is. w.in_default-field.not-Cell d (w.field.ensures h shows ∙ is))
            (invariant.named h shows));
      }
      | in_default w ↦ record {
        grows = subst (GrowsTo start) (sym w.found-is) invariant.grows;
        named = λ h shows. subst (NamedSoFar h r b (i + 1) start) (sym w.found-is)
            (named_pass h r b i start old
            (λ q d gives_it _. w.in_default.not-Some q (gave ∙ gives_it))
            (invariant.named h shows));
      }
    ]

pub returns : goal.returns
returns g c = record {
  grows = c.loop-i.invariant.grows;
  found = λ h shows. (c.loop-i.invariant.named h shows).found;
  named = λ h shows i q d among. (c.loop-i.invariant.named h shows).named i q d
      (omega (arith, among, c.loop-i-test.false));
}
