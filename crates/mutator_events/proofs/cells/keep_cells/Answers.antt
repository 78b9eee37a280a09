use Rattle.std.proofs.Common.{◌≡◌, ℕ, ◌+◌, ◌-◌, ◌≤◌, List, take, drop, length, arith}
use Rattle.std.proofs.Common.{◌∙◌, ap, length-drop}
use Rattle.std.proofs.lemmas.List.{length-take}
use Rattle.mutator_events.proofs.HeldCells.{copied_is, kept_of_front}
use Rattle.mutator_events.proofs.cells.keep_cells.Goals as goal

pub returns-clause-cells : goal.returns-clause-cells
returns-clause-cells c =
    let front = c.args.cells.now.items in
    let all = c.lengthen.new.cells.items in
    let longer : length front ≤ length all = omega
    (arith, ap length c.lengthen.ensures.front, length-take (length front) all) in
    let same : c.args.from + c.args.copies - c.args.from ≡ c.args.copies = omega arith in
    let left : c.args.from + c.args.copies - c.args.from ≤ length (drop c.args.from all) =
    omega (arith, length-drop c.args.from all) in
    c.truncate.ensures.items
    ∙ ap (λ (xs : List ℕ). take (c.args.count + c.args.copies) xs) c.copy_within.ensures.items
    ∙ copied_is all c.args.count c.args.from c.args.copies _ (omega arith) left same
    ∙ kept_of_front front all c.args.count c.args.from c.args.copies c.requires.count
    c.requires.from c.lengthen.ensures.front
