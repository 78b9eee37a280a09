use Rattle.std.proofs.Common.{◌∙◌, refl, rules, []}
use Rattle.records_tests.proofs.Pools.{part_fits, part_field, new_term, later_made}
use Rattle.records_tests.proofs.memory.MemoryPoolRecordPool.make.Goals as goal

pub make-requires : goal.make-requires
make-requires c =
    let p1 = part_fits c.args.self.now c.args.first _ c.field.ensures c.requires.first in
    let p2 = part_fits c.args.self.now c.args.second _ c.field-2.ensures c.requires.second in
    let p3 = part_fits c.args.self.now c.args.third _ c.field-3.ensures c.requires.third in
    let p4 = part_fits c.args.self.now c.args.fourth _ c.field-4.ensures c.requires.fourth in
    let p5 = part_fits c.args.self.now c.args.fifth _ c.field-5.ensures c.requires.fifth in
    search (rules, p1, p2, p3, p4, p5)

pub returns-clause-term : goal.returns-clause-term
returns-clause-term c =
    let pool = c.args.self.now in
    new_term _ _ _ c.in-Ok.made
    record { records = c.in-Ok.ensures.records; terms = c.in-Ok.ensures.term [] }
    c.in-Ok.ensures.made
    ∙ rw (
      c.field.ensures,
      c.field-2.ensures,
      c.field-3.ensures,
      c.field-4.ensures,
      c.field-5.ensures,
      part_field pool c.args.first,
      part_field pool c.args.second,
      part_field pool c.args.third,
      part_field pool c.args.fourth,
      part_field pool c.args.fifth,
    ) refl

pub returns-clause-later : goal.returns-clause-later
returns-clause-later c =
    later_made c.args.self.now record { heap = c.make.new.self } _
    record { records = c.in-Ok.ensures.records; terms = c.in-Ok.ensures.term [] }
