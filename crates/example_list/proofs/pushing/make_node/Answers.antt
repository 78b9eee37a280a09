use Rattle.example_list.proofs.Making.{holds_both, may_term}
use Rattle.example_list.proofs.pushing.make_node.Goals as goal

pub fill_record-requires-clause-terms : goal.fill_record-requires-clause-terms
fill_record-requires-clause-terms g c =
    may_term c.args.m.now.seat.me.known c.args.number c.args.count c.ranges.number.fits
    c.requires.few

pub name_record-requires : goal.name_record-requires
name_record-requires g c = record {
  both = holds_both c.args.m.now c.fill_record.new.m c.in-Ok.made _ c.in-Ok.ensures.made
      c.args.newest c.requires.newest;
}
