use Rattle.std.proofs.Common.{refl, ap, arith}
use Rattle.heap_rule.specs.Shape.{Shape}
use Rattle.sorted_rule.specs.Opening.{first_terms}
use Rattle.sorted_rule.proofs.Openings.{firsts, opened}
use Rattle.collector.specs.Stack.{Stack}
use Rattle.heap_c.proofs.Unsplit.{new_left}
use Rattle.heap_c.proofs.opening.opened.Goals as goal

pub open-requires-clause-rule : goal.open-requires-clause-rule
open-requires-clause-rule c = (first_terms, firsts, opened _ refl)

pub new-requires-in-Ok : goal.new-requires-in-Ok
new-requires-in-Ok c =
    record {
      keeping = new_left _ _ _ _ c.in-Ok.ensures.ok c.in_ok-heap.ensures.seat
          (ap (λ (s : Stack). s.cells) c.in_ok-stack.ensures.stack)
          (ap (λ (h : Shape). h.setting) c.in_ok-heap.ensures.heap)
          (omega (arith, c.requires.some_boxes, c.from-setting.ensures));
    }
