-- What follows the number is read from where the number ends.
use Rattle.std.proofs.Common.{◌∙◌, ℕ, ap, sym, Result}
use Rattle.line_texts.specs.Cut.{next_rest_of}
use Rattle.core_replay.specs.Numbers.{and_then}
use Rattle.core_replay.specs.Steps.{over_in}
use Rattle.core_replay.specs.declared.fault.ScheduleKind.{ScheduleKind}
use Rattle.core_replay.proofs.event.read_out.Goals as goal

pub returns : goal.returns
returns c =
    c.read_over.ensures ∙ ap (over_in c.in_ok-i.i) c.next_rest.ensures
    ∙ ap (λ (read : Result ℕ ScheduleKind).
    and_then read (λ i. over_in i (next_rest_of c.args.rest.now)))
    (sym c.in_ok-i.was ∙ c.read_index.ensures)
