use Rattle.std.proofs.Common.{◌≡◌, ◌+◌, [], ◌∷◌, ◌++◌, IfNone, IfSome, subst}
use Rattle.mutator_seat.specs.Bound.{Bound, bound, held_cells}
use Rattle.mutator_seat.specs.Claims.{Claimed, Seeking, Tried}
use Rattle.mutator_seat.specs.Stretches.{Calm}
use Rattle.trails.specs.Claims.{AllUsed}
use Rattle.mutator_seat.proofs.mutator.Mutator.try_cell.Goals as goal

pub returns-clause-got : goal.returns-clause-got
returns-clause-got g c =
    let after = bound c.self.inside.heap.now c.try_cell.new.seat in
    subst (λ (m : Bound _). IfSome c.try_cell.result (λ place. Claimed m place after))
    c.self.view_is c.try_cell.ensures.got

pub returns-clause-cell : goal.returns-clause-cell
returns-clause-cell g c =
    let after = bound c.self.inside.heap.now c.try_cell.new.seat in
    subst (λ (m : Bound _). IfSome c.try_cell.result (λ place. held_cells after
    ≡ held_cells m ++ c.args.cell ∷ [])) c.self.view_is c.try_cell.ensures.cell

pub returns-clause-none : goal.returns-clause-none
returns-clause-none g c =
    let after = bound c.self.inside.heap.now c.try_cell.new.seat in
    subst (λ (m : Bound _). IfNone c.try_cell.result (Calm (AllUsed c.args.cell (c.args.cell + 1))
    m after)) c.self.view_is c.try_cell.ensures.none

pub returns-clause-tried : goal.returns-clause-tried
returns-clause-tried g c =
    let after = bound c.self.inside.heap.now c.try_cell.new.seat in
    subst (λ (m : Bound _). Tried c.args.cell m after) c.self.view_is c.try_cell.ensures.tried

pub returns-clause-seeking : goal.returns-clause-seeking
returns-clause-seeking g c =
    let after = bound c.self.inside.heap.now c.try_cell.new.seat in
    subst (λ (m : Bound _). IfNone c.try_cell.result (Calm Seeking m after)) c.self.view_is
    c.try_cell.ensures.seeking
