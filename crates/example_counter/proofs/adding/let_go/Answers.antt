use Rattle.example_counter.proofs.Adds.{cut_adds, cut_rests, loose_some}
use Rattle.example_counter.proofs.adding.let_go.Goals as goal

pub cut-requires-clause-inside : goal.cut-requires-clause-inside
cut-requires-clause-inside c = c.requires.loose.holds.inside

pub cut-requires-clause-kept : goal.cut-requires-clause-kept
cut-requires-clause-kept c = loose_some c.args.m.now c.requires.loose

pub returns-clause-rests : goal.returns-clause-rests
returns-clause-rests c =
    cut_rests c.args.m.now c.cut.new.self c.requires.loose c.cut.ensures.told

pub returns-clause-same : goal.returns-clause-same
returns-clause-same c = cut_adds c.args.m.now c.cut.new.self c.cut.ensures.told
