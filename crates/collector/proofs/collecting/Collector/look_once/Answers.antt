use Rattle.std.proofs.Common.{ℕ, false, refl, ◌∙◌, ap}
use Rattle.cell_words.specs.declared.colours.Colour.TheVariants as colour
use Rattle.core_machine.specs.Collector.{restarted}
use Rattle.core_machine.specs.declared.events.Found.TheVariants as finds
use Rattle.collector.specs.Bound.{Bound, cells_of, part_of}
use Rattle.collector.specs.Stack.{next_of}
use Rattle.collector.proofs.Scanning.{does_look, last_is}
use Rattle.collector.proofs.collecting.Collector.look_once.Goals as goal

pub returns-in-Blue-clause-does : goal.returns-in-Blue-clause-does
returns-in-Blue-clause-does g c =
    does_look c.args.self.now c.next_besides-cell.new.self c.see_once.new.self
    c.next_besides-cell.result (finds.Colour colour.Blue) c.is_last-ends.result
    c.next_besides-cell.ensures.left c.in-Blue.ensures.told c.in-Blue.ensures.known
    (c.next_besides-cell.ensures.next
    ∙ ap (λ (k : ℕ). next_of k c.args.self.now.stack.cells) c.at-at.ensures.at)
    (last_is c.next_besides-cell.result c.at-at.result c.cells.result
    (restarted (part_of c.args.self.now) (cells_of c.args.self.now)).cursor
    (cells_of c.args.self.now) c.is_last-ends.result c.is_last-ends.ensures.last
    c.at-at.ensures.at
    (c.cells.ensures.cells ∙ ap (λ (x : Bound _). cells_of x) c.next_besides-cell.ensures.left))

pub returns-in-White-clause-does : goal.returns-in-White-clause-does
returns-in-White-clause-does g c =
    does_look c.args.self.now c.next_besides-cell.new.self c.see_once.new.self
    c.next_besides-cell.result (finds.Colour colour.White) c.is_last-ends.result
    c.next_besides-cell.ensures.left c.in-White.ensures.told c.in-White.ensures.known
    (c.next_besides-cell.ensures.next
    ∙ ap (λ (k : ℕ). next_of k c.args.self.now.stack.cells) c.at-at.ensures.at)
    (last_is c.next_besides-cell.result c.at-at.result c.cells.result
    (restarted (part_of c.args.self.now) (cells_of c.args.self.now)).cursor
    (cells_of c.args.self.now) c.is_last-ends.result c.is_last-ends.ensures.last
    c.at-at.ensures.at
    (c.cells.ensures.cells ∙ ap (λ (x : Bound _). cells_of x) c.next_besides-cell.ensures.left))

pub returns-in-Black-clause-does : goal.returns-in-Black-clause-does
returns-in-Black-clause-does g c =
    does_look c.args.self.now c.next_besides-cell.new.self c.see_once.new.self
    c.next_besides-cell.result (finds.Colour colour.Black) c.is_last-ends.result
    c.next_besides-cell.ensures.left c.in-Black.ensures.told c.in-Black.ensures.known
    (c.next_besides-cell.ensures.next
    ∙ ap (λ (k : ℕ). next_of k c.args.self.now.stack.cells) c.at-at.ensures.at)
    (last_is c.next_besides-cell.result c.at-at.result c.cells.result
    (restarted (part_of c.args.self.now) (cells_of c.args.self.now)).cursor
    (cells_of c.args.self.now) c.is_last-ends.result c.is_last-ends.ensures.last
    c.at-at.ensures.at
    (c.cells.ensures.cells ∙ ap (λ (x : Bound _). cells_of x) c.next_besides-cell.ensures.left))

pub returns-in-Gray-clause-does : goal.returns-in-Gray-clause-does
returns-in-Gray-clause-does g c =
    does_look c.args.self.now c.next_besides-cell.new.self c.see_once.new.self
    c.next_besides-cell.result (finds.Colour colour.Gray) false
    c.next_besides-cell.ensures.left c.in-Gray.ensures.told c.in-Gray.ensures.known
    (c.next_besides-cell.ensures.next
    ∙ ap (λ (k : ℕ). next_of k c.args.self.now.stack.cells) c.at-at.ensures.at) refl
