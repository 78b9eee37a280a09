use Rattle.std.proofs.Common.{◌∙◌, refl, rules}
use Rattle.client_trees.specs.Records.{outside_of}
use Rattle.client_trees.proofs.Makes.{each_stands, field_fits, later_made, new_term, part_says}
use Rattle.client_trees.proofs.Makes.{stands_made}
use Rattle.client_trees.proofs.pool.ClientRecordsRecordPool.make.Goals as goal

pub make-requires : goal.make-requires
make-requires g c =
    let was = c.args.self.now in
    let m = g.M.ClientSeat.bound was.mutator.now in
    let v = m.seat.me in
    let outside = outside_of m (was.mutator.ghost_name, was.minor.ghost_name) in
    let p1 =
    field_fits v outside was.minor.now c.args.first _ c.field_of.ensures c.requires.first in
    let p2 =
    field_fits v outside was.minor.now c.args.second _ c.field_of-2.ensures c.requires.second in
    let p3 =
    field_fits v outside was.minor.now c.args.third _ c.field_of-3.ensures c.requires.third in
    let p4 =
    field_fits v outside was.minor.now c.args.fourth _ c.field_of-4.ensures c.requires.fourth in
    let p5 =
    field_fits v outside was.minor.now c.args.fifth _ c.field_of-5.ensures c.requires.fifth in
    search (rules, p1, p2, p3, p4, p5)

pub returns-clause-term : goal.returns-clause-term
returns-clause-term g c =
    let was = c.args.self.now in
    let m = g.M.ClientSeat.bound was.mutator.now in
    let v = m.seat.me in
    let outside = outside_of m (was.mutator.ghost_name, was.minor.ghost_name) in
    new_term v outside was.minor.now c.make.new.self _
    record {
      room = c.make.ensures.room;
      records = c.in-Ok.ensures.records;
      terms = c.in-Ok.ensures.term;
    } c.in-Ok.made
    c.in-Ok.ensures.made
    ∙ rw (
      c.field_of.ensures,
      c.field_of-2.ensures,
      c.field_of-3.ensures,
      c.field_of-4.ensures,
      c.field_of-5.ensures,
      part_says v outside was.minor.now c.args.first,
      part_says v outside was.minor.now c.args.second,
      part_says v outside was.minor.now c.args.third,
      part_says v outside was.minor.now c.args.fourth,
      part_says v outside was.minor.now c.args.fifth,
    ) refl

pub returns-clause-stands : goal.returns-clause-stands
returns-clause-stands g c =
    let was = c.args.self.now in
    let m = g.M.ClientSeat.bound was.mutator.now in
    let v = m.seat.me in
    let outside = outside_of m (was.mutator.ghost_name, was.minor.ghost_name) in
    stands_made v outside was.minor.now c.make.new.self _
    record {
      room = c.make.ensures.room;
      records = c.in-Ok.ensures.records;
      terms = c.in-Ok.ensures.term;
    } c.in-Ok.made
    c.in-Ok.ensures.made
    (each_stands v outside was.minor.now _ _ _ _ _
    (c.args.first, (c.field_of.ensures, c.requires.first))
    (c.args.second, (c.field_of-2.ensures, c.requires.second))
    (c.args.third, (c.field_of-3.ensures, c.requires.third))
    (c.args.fourth, (c.field_of-4.ensures, c.requires.fourth))
    (c.args.fifth, (c.field_of-5.ensures, c.requires.fifth)))

pub returns-clause-later : goal.returns-clause-later
returns-clause-later g c =
    let was = c.args.self.now in
    let m = g.M.ClientSeat.bound was.mutator.now in
    let v = m.seat.me in
    let outside = outside_of m (was.mutator.ghost_name, was.minor.ghost_name) in
    later_made v outside was.minor.now c.make.new.self _
    record {
      room = c.make.ensures.room;
      records = c.in-Ok.ensures.records;
      terms = c.in-Ok.ensures.term;
    }
