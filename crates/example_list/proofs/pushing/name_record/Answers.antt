use Rattle.example_list.proofs.Making.{holds_node, may_name}
use Rattle.example_list.proofs.pushing.name_record.Goals as goal

pub fill_box-requires-clause-named : goal.fill_box-requires-clause-named
fill_box-requires-clause-named g c =
    may_name c.args.m.now c.args.newest c.args.made c.requires.both

pub returns-in-Ok-clause-made : goal.returns-in-Ok-clause-made
returns-in-Ok-clause-made g c =
    holds_node c.args.m.now c.fill_box.new.m c.args.newest c.args.made c.in-Ok.node
    c.in-Ok.ensures.made c.requires.both
