use Rattle.cell_making.proofs.Resting.{rests_calm, rests_cut}
use Rattle.example_list.proofs.pushing.try_to_push.Goals as goal

pub push-pushed-requires-clause-rests : goal.push-pushed-requires-clause-rests
push-pushed-requires-clause-rests g c =
    rests_calm _ c.args.m.now c.answer.new.self c.answer.ensures.calm 8 c.requires.rests

pub returns-clause-rests : goal.returns-clause-rests
returns-clause-rests g c =
    rests_cut c.push-pushed.new.m c.cut.new.self c.cut.ensures.told 8 c.push-pushed.ensures.loose
