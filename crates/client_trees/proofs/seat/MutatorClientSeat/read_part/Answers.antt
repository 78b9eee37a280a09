use Rattle.std.proofs.Common.{◌∙◌, ap, subst, sym, arith}
use Rattle.cell_words.specs.Term.{part}
use Rattle.heap_rule.specs.Lore.{known_at}
use Rattle.heap_rule.proofs.Picking.{read_picks}
use Rattle.doc_records.specs.declared.pool.Part.{Part}
use Rattle.client_trees.specs.declared.at.NodeAt.{NodeAt}
use Rattle.client_trees.specs.Records.{Outside, SharedRead, known_term, outside_of, part_held}
use Rattle.client_trees.proofs.Readings.{event_reads, outside_same}
use Rattle.client_trees.proofs.seat.MutatorClientSeat.read_part.Goals as goal

pub read-requires-clause-rule : goal.read-requires-clause-rule
read-requires-clause-rule g c =
    let v = c.args.self.now.seat.me in
    read_picks g.P.Keeping.holds g.P.Keeping.fixed v v.number c.args.place c.args.index

pub returns-clause-reads : goal.returns-clause-reads
returns-clause-reads g c = λ minor names ordered.
    let m = c.args.self.now in
    let v = m.seat.me in
    let told = c.read.ensures.told in
    let w = c.read.new.self.seat.me in
    let before = outside_of m names in
    let t = part c.args.index (known_term (known_at v.known c.args.place)) in
    subst (λ (o : Outside). SharedRead minor before o v w t c.part_held.result)
    (outside_same m c.read.new.self names c.read.ensures.heap c.read.ensures.table)
    (subst (λ (p : Part NodeAt). SharedRead minor before before v w t p)
    (sym (c.part_held.ensures ∙ ap part_held told.1))
    (event_reads minor before v w c.args.place c.args.index told.0 ordered
    c.requires.fit c.requires.known (omega (arith, c.requires.range)) told.2))
