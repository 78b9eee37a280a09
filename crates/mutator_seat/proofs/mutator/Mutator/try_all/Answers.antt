use Rattle.std.proofs.Common.{◌≡◌, ◌≤◌, ◌+◌, ℕ, ap, arith}
use Rattle.mutator_seat.proofs.Pacing.{paces_then, paces_try, paces_within}
use Rattle.mutator_seat.specs.Searches.{first_cells}
use Rattle.mutator_seat.proofs.Searching.{tries_as, tries_idle, tries_more}
use Rattle.mutator_seat.proofs.Seeking.{seeking_then}
use Rattle.mutator_seat.proofs.Tries.{claimed_then, tries_on}
use Rattle.mutator_seat.proofs.mutator.Mutator.try_all.Goals as goal

pub returns-in-Some-clause-got : goal.returns-in-Some-clause-got
returns-in-Some-clause-got g c =
    claimed_then c.args.self.now c.loop-cell.self c.try_cell.new.self c.in-Some.place
    c.loop-cell.invariant.2 c.in-Some.ensures.got

pub returns-in-Some-clause-pace : goal.returns-in-Some-clause-pace
returns-in-Some-clause-pace g c =
    let was = c.args.self.now in
    let loop = c.loop-cell in
    let few : loop.tries ≤ 63 = loop.invariant.3 in
    paces_within was c.try_cell.new.self 1 (loop.tries + 1 + 1) 1 65 (omega arith)
    (omega (arith, few))
    (paces_then was loop.self c.try_cell.new.self 1 (loop.tries + 1) (loop.tries + 1 + 1)
    loop.invariant.4
    (paces_try loop.self c.try_cell.new.self loop.cell (loop.tries + 1) (omega (arith, few))
    c.try_cell.ensures.tried))

pub returns-clause-pace : goal.returns-clause-pace
returns-clause-pace g c =
    let loop = c.loop-cell in
    let few : loop.tries ≤ 63 = loop.invariant.3 in
    paces_within c.args.self.now loop.self 1 (loop.tries + 1) 1 65 (omega arith)
    (omega (arith, few)) loop.invariant.4

pub loop-cell-preserved : goal.loop-cell-preserved
loop-cell-preserved g c =
    let was = c.args.self.now in
    let loop = c.loop-cell in
    let tried = c.try_cell.new.self in
    let looked = c.look_at_times-tries in
    let few : loop.tries ≤ 63 = loop.invariant.3 in (
      tries_on was loop.self tried looked.new.self loop.cell
          loop.invariant.0 c.in-None.ensures.none looked.ensures.calm,
      looked.ensures.mode,
      seeking_then was tried looked.new.self
          (seeking_then was loop.self tried loop.invariant.2
          c.in-None.ensures.seeking) looked.ensures.calm,
      looked.ensures.few,
      paces_then was tried looked.new.self 1 (loop.tries + 1 + 1) (looked.result + 1)
          (paces_then was loop.self tried 1 (loop.tries + 1) (loop.tries + 1 + 1) loop.invariant.4
          (paces_try loop.self tried loop.cell (loop.tries + 1) (omega (arith, few))
          c.try_cell.ensures.tried)) looked.ensures.pace,
      tries_idle (first_cells (loop.cell + 1)) was tried looked.new.self
          (tries_more loop.cell was loop.self tried loop.invariant.5 c.try_cell.ensures.tried)
          looked.ensures.idle,
    )

pub returns-in-Some-clause-walk : goal.returns-in-Some-clause-walk
returns-in-Some-clause-walk g c =
    let loop = c.loop-cell in (
      loop.cell + 1,
      (
        omega (arith, c.loop-cell-test.true, c.cells-cell-end.ensures.cells),
        tries_more loop.cell c.args.self.now loop.self c.try_cell.new.self loop.invariant.5
            c.try_cell.ensures.tried,
      ),
    )

pub returns-clause-all : goal.returns-clause-all
returns-clause-all g c =
    let loop = c.loop-cell in
    let cells = c.args.self.now.seat.me.shape.cells in
    let all : loop.cell ≡ cells =
    omega (arith, c.loop-cell-test.false, loop.auto.cell-end, c.cells-cell-end.ensures.cells) in
    tries_as (first_cells loop.cell) (first_cells cells) c.args.self.now loop.self
    (ap (λ (n : ℕ). first_cells n) all) loop.invariant.5

pub returns-clause-walk : goal.returns-clause-walk
returns-clause-walk g c = (
  c.loop-cell.cell,
  (
    omega (arith, c.loop-cell.auto.cell-end, c.cells-cell-end.ensures.cells),
    c.loop-cell.invariant.5,
  ),
)
