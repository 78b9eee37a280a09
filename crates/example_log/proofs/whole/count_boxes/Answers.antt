use Rattle.std.proofs.Common.{suc, ◌+◌, ◌∙◌, arith}
use Rattle.core_machine.specs.State.{field_of}
use Rattle.example_log.specs.Leaving.{boxes_from}
use Rattle.example_log.proofs.Ending.{walk_ends, walks_on}
use Rattle.example_log.proofs.whole.count_boxes.Goals.{in-Cell, in-Null}
use Rattle.example_log.proofs.whole.count_boxes.Goals as goal

pub loop-seen-preserved : goal.loop-seen-preserved
loop-seen-preserved c = elim c.match-at.branch [
  | in-Cell w ↦ (
    (let few = c.loop-seen.invariant.0 in let one = w.boxes-is in omega (arith, few, one)),
    λ s shows left so_many.
        walks_on s left c.loop-seen.boxes c.match-at.boxes
        (boxes_from c.args.most s (field_of s 0 0)) c.loop-seen.at c.match-at.at w.in-Cell.cell
        w.in-Cell.is (w.at-is ∙ w.field_at-at-in-Cell.ensures.field s shows) w.boxes-is
        (c.loop-seen.invariant.1 s shows (suc left) (omega (arith, so_many))),
  )
  | in-Null w ↦ (
    (let few = c.loop-seen.invariant.0 in let same = w.boxes-is in omega (arith, few, same)),
    λ s shows left so_many.
        let ends = walk_ends s left c.loop-seen.boxes (boxes_from c.args.most s (field_of s 0 0))
        c.loop-seen.at w.in-Null.is
        (c.loop-seen.invariant.1 s shows (suc left) (omega (arith, so_many))) in
        (λ i. w.boxes-is i + boxes_from left s (w.at-is i)) ∙ ends,
  )
]
