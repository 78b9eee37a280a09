use Rattle.std.proofs.Common.{arith}
use Rattle.doc_export.proofs.Keeping.{keeps_calm, keeps_left, keeps_on}
use Rattle.doc_export.proofs.Looking.{looks_kept, looks_once, on_ok}
use Rattle.doc_export.proofs.walking.add_node.Goals as goal

pub returns-clause-keeps : goal.returns-clause-keeps
returns-clause-keeps c =
    let left = c.text_of.ensures.leaves.leaves in
    keeps_on
    (keeps_left c.args.m.now c.text_of.new.m c.args.minor.now c.text_of.new.minor left)
    (keeps_calm _ c.text_of.new.m c.answer-answered.new.self c.answer-answered.ensures.calm)

pub returns-clause-looked : goal.returns-clause-looked
returns-clause-looked c =
    let before = looks_kept c.args.m.now c.text_of.new.m
    (keeps_left c.args.m.now c.text_of.new.m c.args.minor.now c.text_of.new.minor
    c.text_of.ensures.leaves.leaves) in
    let once = looks_once c.answer-answered.result c.text_of.new.m c.answer-answered.new.self
    c.answer-answered.ensures.calm in
    on_ok c.push_line.result _ (omega (arith, before, once))
