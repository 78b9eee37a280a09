use Rattle.client_heap.proofs.Handshakes.{calm_carries, calm_held}
use Rattle.client_heap.proofs.places.safe_point.Goals as goal

pub returns-clause-carries : goal.returns-clause-carries
returns-clause-carries c =
    calm_carries _ c.args.m.now c.answer-answered.new.self c.answer-answered.ensures.calm
    c.args.minor.now c.len-records.ensures.ordered

pub returns-clause-held : goal.returns-clause-held
returns-clause-held c =
    calm_held _ c.args.m.now c.answer-answered.new.self c.answer-answered.ensures.calm

pub returns-clause-pass : goal.returns-clause-pass
returns-clause-pass c = c.answer-answered.ensures.calm.kept.pass

pub returns-clause-claims : goal.returns-clause-claims
returns-clause-claims c = c.answer-answered.ensures.calm.kept.claims
