use Rattle.std.proofs.Common.{◌∙◌}
use Rattle.client_threads.proofs.Waiting.{waits_same, waits_then}
use Rattle.client_threads.proofs.answering.await_gate.Goals as goal

pub loop-init : goal.loop-init
loop-init g c = waits_same c.args.m.now

pub handshake-requires : goal.handshake-requires
handshake-requires g c = record {
  inside = c.loop.invariant.kept.inside ∙ c.requires.inside;
}

pub returns-then-go : goal.returns-then-go
returns-then-go g c = record {
  waits = waits_then c.args.m.now c.loop.m c.handshake.new.m c.loop.invariant
      c.handshake.ensures.waits;
}

pub loop-preserved : goal.loop-preserved
loop-preserved g c =
    waits_then c.args.m.now c.loop.m c.handshake.new.m c.loop.invariant c.handshake.ensures.waits
