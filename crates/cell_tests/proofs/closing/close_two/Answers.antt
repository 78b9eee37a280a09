use Rattle.std.proofs.Common.{◌∙◌, ap}
use Rattle.cell_tests.specs.declared.counter.Added.{Added}
use Rattle.cell_tests.proofs.Ending.{finished}
use Rattle.heap_rule.specs.Moves.{joined_view}
use Rattle.heap_table.specs.Seats.{SeatView}
use Rattle.cell_tests.proofs.closing.close_two.Goals as goal

pub returns-clause-counter : goal.returns-clause-counter
returns-clause-counter c =
    finished c.args.heap.shape c.close-image.result.0.words c.args.collector.me
    c.join-2.new.self.me c.args.first.0.me c.args.second.0.me c.args.first.1 c.args.second.1
    c.requires.places c.requires.two c.requires.first_is c.requires.second_is
    c.requires.first.pass_is c.requires.second.pass_is
    (ap (λ (s : SeatView Added). s.me) c.join-2.ensures.both
    ∙ ap (λ (s : SeatView Added). joined_view s.me c.args.second.0.me) c.join.ensures.both)
    c.close-image.ensures.ended
