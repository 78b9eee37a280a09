use Rattle.std.proofs.Common.{◌≡◌, List, [], ℕ, Some, ap, sym, ◌∙◌}
use Rattle.collector.specs.Stack.{Stack, top_of, top_or, without}
use Rattle.collector.proofs.Stacked.{looked_left, none_left, top_below, top_none, top_or_is}
use Rattle.collector.proofs.Stacked.{without_below}
use Rattle.collector.proofs.mark_stack.MarkStack.next_besides.Goals as goal
use Rattle.collector.proofs.mark_stack.MarkStack.next_besides.Goals.{After-leave-in-Some, In-None}

-- none is left once the given cell has left the top
none_is : (c : In-None) → without c.args.at c.args.self.now.cells ≡ []
none_is c =
    top_none (without c.args.at c.args.self.now.cells)
    (sym (ap (λ (s : Stack). top_of s.cells) c.leave.ensures.left) ∙ sym c.top.ensures.top
    ∙ c.in-None.is)

top_is : (c : After-leave-in-Some)
    → top_of (without c.args.at c.args.self.now.cells) ≡ Some c.in-Some.cell
top_is c =
    sym (ap (λ (s : Stack). top_of s.cells) c.leave.ensures.left) ∙ sym c.top.ensures.top
    ∙ c.in-Some.is

pub returns-in-None-clause-left : goal.returns-in-None-clause-left
returns-in-None-clause-left c =
    c.leave.ensures.left
    ∙ ap (λ (xs : List ℕ). record c.args.self.now { cells = xs }) (none_is c
    ∙ sym (none_left c.args.at c.args.self.now.cells
    (sym (ap (λ (s : Stack). top_of s.cells) c.leave.ensures.left) ∙ sym c.top.ensures.top
    ∙ c.in-None.is)))

pub returns-in-Some-clause-left : goal.returns-in-Some-clause-left
returns-in-Some-clause-left c =
    c.leave-in-Some.ensures.left
    ∙ ap (λ (s : Stack). record s { cells = without c.in-Some.cell s.cells }) c.leave.ensures.left
    ∙ ap (λ (xs : List ℕ). record c.args.self.now { cells = xs })
    (looked_left c.args.at c.in-Some.cell c.args.self.now.cells (top_is c))

pub returns-in-None-clause-next : goal.returns-in-None-clause-next
returns-in-None-clause-next c =
    sym (ap (λ (xs : List ℕ). top_or c.args.at xs) (none_is c))

pub returns-in-Some-clause-next : goal.returns-in-Some-clause-next
returns-in-Some-clause-next c =
    top_or_is c.args.at c.in-Some.cell (without c.args.at c.args.self.now.cells) (top_is c)

pub returns-in-Some-clause-below : goal.returns-in-Some-clause-below
returns-in-Some-clause-below c =
    λ cells at all. top_below cells c.in-Some.cell (without c.args.at c.args.self.now.cells)
    (without_below cells c.args.at c.args.self.now.cells all) (top_is c)
