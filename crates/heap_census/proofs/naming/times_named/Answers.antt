use Rattle.std.proofs.Common.{◌≡◌, ◌+◌, ◌∙◌, ap, arith, length, replicate, rules, subst, sym}
use Rattle.std.proofs.lemmas.List.{length-replicate, with_items_is}
use Rattle.heap_census.specs.Times.{Told, never}
use Rattle.heap_census.proofs.Named.{told_start, told_skip, told_shared}
use Rattle.heap_census.proofs.OneMore.{some_role, no_role}
use Rattle.heap_census.proofs.naming.times_named.Goals as goal
use Rattle.heap_census.proofs.naming.times_named.Goals.{then-has_any, else-has_any}

pub add_names-requires : goal.add_names-requires
add_names-requires g c = record {
  size = ap length c.deref_mut.ensures.value ∙ c.loop-cell.invariant.size;
  cell = omega (arith, c.loop-cell-test.true, c.cells-count.ensures);
}

pub loop-cell-init : goal.loop-cell-init
loop-cell-init g c =
    let is : c.in_ok-times.times.items ≡ replicate c.cells-count.result never = search rules in
    record {
      size = ap length is ∙ (length-replicate c.cells-count.result never ∙ c.cells-count.ensures);
      told = λ h shows tells. subst (Told h 0 0) (sym is) (told_start h c.cells-count.result);
    }

pub loop-cell-preserved : goal.loop-cell-preserved
loop-cell-preserved g c =
    elim c.if-has_any.branch [
      | then-has_any w ↦
          let is = ap (λ t. t.items) w.times-is
          ∙ with_items_is c.loop-cell.times w.add_names.new.times
          (w.add_names.auto.times ∙ w.deref_mut.ensures.len) in
          record {
            size = ap length is
                ∙ (w.add_names.auto.times
                ∙ (ap length w.deref_mut.ensures.value ∙ c.loop-cell.invariant.size));
            told = λ h shows tells.
                let some = some_role _ (sym c.has_any.ensures ∙ w.if-has_any.true) in
                let new : Told h (c.loop-cell.cell + 1) 0 w.add_names.new.times =
                w.add_names.ensures h shows some.0 ((tells some.0 c.loop-cell.cell).0 some.1)
                (subst (Told h c.loop-cell.cell 0) (sym w.deref_mut.ensures.value)
                (c.loop-cell.invariant.told h shows tells)) in
                subst (Told h (c.loop-cell.cell + 1) 0) (sym is) new;
          }
      | else-has_any w ↦ record {
        size = ap (λ t. length t.items) w.times-is ∙ c.loop-cell.invariant.size;
        told = λ h shows tells.
            subst (λ t. Told h (c.loop-cell.cell + 1) 0 t.items) (sym w.times-is)
            (told_skip h c.loop-cell.cell c.loop-cell.times.items
            (λ r has. no_role _ (sym c.has_any.ensures ∙ w.if-has_any.false) r
            ((tells r c.loop-cell.cell).1 has))
            (c.loop-cell.invariant.told h shows tells));
      }
    ]

pub returns : goal.returns
returns g c = record {
  size = c.loop-cell.invariant.size;
  shared = λ h shows tells.
      let all : c.loop-cell.cell ≡ g.C.Cells.size c.args.cells.now =
      omega (arith, c.loop-cell.auto.cell-end, c.loop-cell-test.false, c.cells-count.ensures) in
      told_shared h (g.C.Cells.size c.args.cells.now) c.loop-cell.times.items
      (g.met.C.Cells.fits c.args.cells.now h shows)
      (subst (λ n. Told h n 0 c.loop-cell.times.items) all
      (c.loop-cell.invariant.told h shows tells));
}
