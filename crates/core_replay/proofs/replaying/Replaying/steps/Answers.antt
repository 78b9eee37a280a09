use Rattle.std.proofs.Common.{◌∙◌, ◌++◌, ap, arith, length}
use Rattle.core_replay.proofs.Ending.{few_left, few_more, written_all, written_last, written_more}
use Rattle.core_replay.proofs.replaying.Replaying.steps.Goals as goal

pub step-requires : goal.step-requires
step-requires c =
    few_left c.args.self.now.taken c.loop-numbered.self.taken c.loop-numbered.numbered-index
    (length c.args.steps.now) c.loop-numbered.invariant.few c.loop-numbered-test.true c.requires

pub loop-numbered-preserved : goal.loop-numbered-preserved
loop-numbered-preserved c =
    let at = c.loop-numbered in
    record {
      so_far = written_more c.args.self.now at.self c.step.new.self c.args.steps.now
          at.numbered-index _ c.in_ok-shown.field-0 c.in-Some.shown at.text.items
          c.extend_from_slice.new.self.items c.loop-numbered-test.true
          c.in_ok-shown.ensures.outcome c.in-Some.is
          (c.in_ok-extend_from_slice-in-Some.ensures.items
          ∙ ap (λ said. at.text.items ++ said) c.as_bytes.ensures.value)
          at.invariant.so_far;
      few = few_more c.args.self.now.taken at.self.taken c.step.new.self.taken
          at.numbered-index at.invariant.few c.step.ensures.few;
    }

pub returns-in-None : goal.returns-in-None
returns-in-None c =
    let at = c.loop-numbered in
    record {
      text = written_last c.args.self.now at.self c.step.new.self c.args.steps.now
          at.numbered-index _ c.in_ok-shown.field-0 at.text.items
          c.extend_from_slice-in-None.new.self.items c.loop-numbered-test.true
          c.in_ok-shown.ensures.outcome c.in-None.is
          (c.in_ok-extend_from_slice-in-None.ensures.items
          ∙ ap (λ said. at.text.items ++ said)
          (c.as_bytes-in-None.ensures.value ∙ c.in_ok-refusal_line-in-None.ensures))
          at.invariant.so_far;
    }

pub returns : goal.returns
returns c = record {
  text = written_all c.args.self.now c.loop-numbered.self c.args.steps.now
      c.loop-numbered.numbered-index
      c.loop-numbered.text.items (omega arith) c.loop-numbered.invariant.so_far;
}
