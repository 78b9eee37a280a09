use Rattle.cell_making.proofs.Resting.{has_cut, rests_cut}
use Rattle.held_places.proofs.Going.{cut_goes}
use Rattle.example_root.proofs.Finding.{has_of}
use Rattle.example_root.proofs.places.let_go.Goals as goal

pub cut-requires-clause-inside : goal.cut-requires-clause-inside
cut-requires-clause-inside c = c.requires.loose.is_in.inside

pub cut-requires-clause-kept : goal.cut-requires-clause-kept
cut-requires-clause-kept c = c.requires.loose.is_in.some

pub returns-clause-rests : goal.returns-clause-rests
returns-clause-rests c =
    rests_cut c.args.m.now c.cut.new.self c.cut.ensures.told 8 c.requires.loose

pub returns-clause-same : goal.returns-clause-same
returns-clause-same c =
    has_of _ _ _ (has_cut c.args.m.now c.cut.new.self c.cut.ensures.told)

pub returns-clause-goes : goal.returns-clause-goes
returns-clause-goes c =
    cut_goes c.args.m.now c.cut.new.self 1 _ c.cut.ensures.told
