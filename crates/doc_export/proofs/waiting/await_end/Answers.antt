use Rattle.std.proofs.Common.{arith}
use Rattle.client_threads.proofs.Waiting.{waits_calm, waits_then}
use Rattle.doc_export.proofs.Looking.{looks_once}
use Rattle.doc_export.proofs.waiting.await_end.Goals as goal

pub loop-look-preserved : goal.loop-look-preserved
loop-look-preserved g c =
    let before = c.loop-look.invariant.looked in
    let calm = c.answer-answered.ensures.calm in
    let once = looks_once c.answer-answered.result c.loop-look.m c.answer-answered.new.self calm in
    record {
      waits = waits_then c.args.m.now c.loop-look.m c.answer-answered.new.self
          c.loop-look.invariant.waits
          (waits_calm _ c.loop-look.m c.answer-answered.new.self calm);
      looked = omega (arith, before, once);
    }
