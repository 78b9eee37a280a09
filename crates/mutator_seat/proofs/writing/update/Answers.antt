use Rattle.mutator_seat.specs.Bound.{bound}
use Rattle.mutator_seat.proofs.Stores.{either_of}
use Rattle.mutator_seat.proofs.Updates.{err_then, ok_then, other_as, updated, updated_as}
use Rattle.mutator_seat.proofs.Writes.{may_write}
use Rattle.mutator_seat.proofs.writing.update.Goals as goal

pub write-requires-clause-may : goal.write-requires-clause-may
write-requires-clause-may g c =
    let heap = c.args.heap.now in
    let marked = c.look_and_mark in
    may_write g.P.Keeping.fixed (bound heap c.args.seat.now) (bound heap marked.new.seat)
    c.args.place c.args.field c.args.old c.args.new c.requires.may marked.ensures.calm.kept
    marked.ensures.seat.settled marked.ensures.mode marked.ensures.marks

pub write-requires-clause-rule : goal.write-requires-clause-rule
write-requires-clause-rule g c =
    let marked = c.look_and_mark in
    c.requires.rule (bound c.args.heap.now marked.new.seat) marked.ensures.calm.kept
    marked.ensures.presence

pub returns-clause-made : goal.returns-clause-made
returns-clause-made g c =
    let heap = c.args.heap.now in
    ok_then c.write.result c.write.ensures.made (λ at.
    updated_as g.P.Keeping.holds g.P.Keeping.fixed g.C.Choice.next (bound heap c.args.seat.now)
    (bound heap c.look_and_mark.new.seat) c.write.new.self c.args.place c.args.field c.args.old
    c.args.new c.look_and_mark.ensures.calm at c.write.ensures.table)

pub returns-clause-moved : goal.returns-clause-moved
returns-clause-moved g c =
    let heap = c.args.heap.now in
    let was = bound heap c.args.seat.now in
    let at = bound heap c.look_and_mark.new.seat in
    let calm = c.look_and_mark.ensures.calm in
    err_then c.write.result c.write.ensures.moved (λ moved both. (
      other_as was at c.args.old c.args.new moved.found calm both.0,
      updated g.P.Keeping.holds g.P.Keeping.fixed g.C.Choice.next was at c.write.new.self
          c.args.place c.args.field c.args.old c.args.new calm moved.found both.1
          c.write.ensures.table,
    ))

pub returns-clause-places : goal.returns-clause-places
returns-clause-places g c =
    let heap = c.args.heap.now in
    let was = bound heap c.args.seat.now in
    let at = bound heap c.look_and_mark.new.seat in
    let calm = c.look_and_mark.ensures.calm in
    either_of c.write.result c.write.ensures.made c.write.ensures.moved
    (λ step. (updated_as g.P.Keeping.holds g.P.Keeping.fixed g.C.Choice.next was at
    c.write.new.self c.args.place c.args.field c.args.old c.args.new calm step
    c.write.ensures.table).places)
    (λ moved both. (updated g.P.Keeping.holds g.P.Keeping.fixed g.C.Choice.next was at
    c.write.new.self c.args.place c.args.field c.args.old c.args.new calm moved.found both.1
    c.write.ensures.table).places)
