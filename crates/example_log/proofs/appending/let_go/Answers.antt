use Rattle.cell_making.proofs.Resting.{has_cut, rests_cut}
use Rattle.example_log.proofs.Finding.{appends_none}
use Rattle.example_log.proofs.appending.let_go.Goals as goal

pub cut-requires-clause-inside : goal.cut-requires-clause-inside
cut-requires-clause-inside c = c.requires.loose.is_in.inside

pub cut-requires-clause-kept : goal.cut-requires-clause-kept
cut-requires-clause-kept c = c.requires.loose.is_in.some

pub returns-clause-rests : goal.returns-clause-rests
returns-clause-rests c =
    rests_cut c.args.m.now c.cut.new.self c.cut.ensures.told 8 c.requires.loose

pub returns-clause-same : goal.returns-clause-same
returns-clause-same c =
    appends_none _ _ (has_cut c.args.m.now c.cut.new.self c.cut.ensures.told)
