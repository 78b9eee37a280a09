use Rattle.std.proofs.Common.{ap, codes}
use Rattle.core_replay.specs.Steps.{bare_step_of}
use Rattle.core_replay.proofs.Words.{same_text}
use Rattle.core_replay.proofs.verb.bare_step.Goals as goal

pub returns-then-is-7 : goal.returns-then-is-7
returns-then-is-7 c =
    ap bare_step_of
    (same_text {word = c.args.word.now} {text = codes "sweep"}
    c.is-else-is-6.ensures c.if-is-7.true)
