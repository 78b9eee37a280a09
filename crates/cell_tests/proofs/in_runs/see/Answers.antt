use Rattle.std.proofs.Common.{◌≡◌, ◌++◌, ℕ, Option, Some, None, ap, refl, ◌∙◌}
use Rattle.cell_heap.specs.Runs.{finds_gray, left_gray, see_over}
use Rattle.core_machine.specs.Collector.{Collector}
use Rattle.cell_heap.proofs.InARow.{still_of}
use Rattle.cell_tests.proofs.in_runs.see.Goals as goal

left_answered : (gray : Option ℕ) (part : Collector)
    → (left_gray gray part).answered ≡ part.answered
left_answered None part = refl
left_answered (Some cell) part = refl

left_marked : (gray : Option ℕ) (part : Collector)
    → (left_gray gray part).anchor_marked ≡ part.anchor_marked
left_marked None part = refl
left_marked (Some cell) part = refl

pub returns-then-cursor-cells : goal.returns-then-cursor-cells
returns-then-cursor-cells c =
    let drives = c.requires.drives in
    let seen = c.see_on.ensures.seen in
    record {
      drives = record {
        seat_is = still_of c.args.heap.now c.args.seat.now c.see_on.new.self
            (see_over c.args.seat.now.me.part.cursor seen.found ++ finds_gray c.see_on.result)
            drives.seat_is seen.told;
        one = drives.one;
        answered = ap (λ (x : Collector). x.answered) seen.part
            ∙ left_answered c.see_on.result _ ∙ drives.answered;
        marked = ap (λ (x : Collector). x.anchor_marked) seen.part
            ∙ left_marked c.see_on.result _ ∙ drives.marked;
      };
    }
