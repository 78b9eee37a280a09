use Rattle.std.proofs.Common.{◌≡◌, ◌<◌, ◌≤◌, ◌+◌, ℕ, refl, sym, subst, arith}
use Rattle.closed_store.proofs.Used.{UsedOf, used_all, used_no, used_yes}
use Rattle.closed_store.proofs.reading.used_cells.Goals.{else-is_used, then-is_used}
use Rattle.closed_store.proofs.reading.used_cells.Goals as goal

pub loop-cell-init : goal.loop-cell-init
loop-cell-init c = (omega arith, λ s shows. refl)

pub overflow_add-used : goal.overflow_add-used
overflow_add-used c =
    let few = c.loop-cell.invariant.0 in
    let there = c.loop-cell-test.true in
    let end = c.cells-cell-end.type_inv in
    omega (arith, few, there, end)

-- the cell is one that there is
below : (c : goal.Joined-is_used) → c.loop-cell.cell < c.args.image.now.cells
below c =
    subst (λ (n : ℕ). c.loop-cell.cell < n) c.cells-cell-end.ensures.cells c.loop-cell-test.true

pub loop-cell-preserved : goal.loop-cell-preserved
loop-cell-preserved c = elim c.if-is_used.branch [
  | then-is_used w ↦
      let same = w.used-is in
      let few = c.loop-cell.invariant.0 in (
        omega (arith, same, few),
        subst (UsedOf c.args.image.now (c.loop-cell.cell + 1)) (sym same)
            (used_yes c.args.image.now c.loop-cell.cell c.loop-cell.used c.is_used.result (below c)
            c.is_used.ensures.used w.if-is_used.true c.loop-cell.invariant.1),
      )
  | else-is_used w ↦
      let same = w.used-is in
      let few = c.loop-cell.invariant.0 in (
        omega (arith, same, few),
        subst (UsedOf c.args.image.now (c.loop-cell.cell + 1)) (sym same)
            (used_no c.args.image.now c.loop-cell.cell c.loop-cell.used c.is_used.result (below c)
            c.is_used.ensures.used w.if-is_used.false c.loop-cell.invariant.1),
      )
]

-- all cells were looked at
all_seen : (c : goal.After-loop-cell) → c.loop-cell.cell ≡ c.args.image.now.cells
all_seen c =
    let past = c.loop-cell-test.false in
    let within = c.loop-cell.auto.cell-end in
    let end = c.cells-cell-end.ensures.cells in
    omega (arith, past, within, end)

pub returns-clause-used : goal.returns-clause-used
returns-clause-used c =
    used_all c.args.image.now c.loop-cell.used
    (subst (λ (n : ℕ). UsedOf c.args.image.now n c.loop-cell.used) (all_seen c)
    c.loop-cell.invariant.1)

pub returns-clause-few : goal.returns-clause-few
returns-clause-few c =
    subst (λ (n : ℕ). c.loop-cell.used ≤ n) (all_seen c) c.loop-cell.invariant.0
