use Rattle.std.proofs.Common.{◌∙◌, ap}
use Rattle.cell_words.specs.Modes.{barrier_of}
use Rattle.cell_words.specs.declared.presences.Status.{Status}
use Rattle.mutator_seat.specs.Bound.{bound}
use Rattle.mutator_seat.proofs.Updates.{looked_and_marked}
use Rattle.mutator_seat.proofs.writing.look_and_mark.Goals as goal

pub returns-clause-calm : goal.returns-clause-calm
returns-clause-calm g c =
    let heap = c.args.heap.now in
    let control = c.look_once-control.result in
    looked_and_marked (bound heap c.args.seat.now) (bound heap c.look_once-control.new.seat)
    (bound heap c.mark_wanted.new.seat) control c.barrier-wanted.result c.args.old c.args.new
    c.look_once-control.ensures.told
    (c.barrier-wanted.ensures.barrier
    ∙ ap (λ (own : Status). barrier_of own control) c.status.ensures.status)
    c.mark_wanted.ensures.calm
