use Rattle.example_log.proofs.Exchanges.{makes_next, may_name}
use Rattle.example_log.proofs.appending.make_entry.Goals as goal

pub fill_box-requires-clause-named : goal.fill_box-requires-clause-named
fill_box-requires-clause-named g c =
    may_name c.args.m.now c.args.number c.args.writer c.args.count c.requires.holds
    c.requires.small c.requires.small_writer c.requires.few

pub returns-in-Ok-clause-made : goal.returns-in-Ok-clause-made
returns-in-Ok-clause-made g c =
    makes_next c.args.m.now c.args.number c.args.writer c.args.count c.requires.holds
    c.fill_box.new.m _ c.requires.writer c.requires.count c.in-Ok.ensures.made
