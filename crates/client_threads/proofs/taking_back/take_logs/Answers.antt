use Rattle.std.proofs.Common.{◌∙◌, List, ap, arith, length, sym}
use Rattle.std.specs.Vec.Iter.{into_iter_items}
use Rattle.client_threads.specs.declared.clients.Client.{Client}
use Rattle.client_threads.proofs.TakingBack.{no_more_logs, one_log}
use Rattle.client_threads.proofs.taking_back.take_logs.Goals as goal

pub loop-client-preserved : goal.loop-client-preserved
loop-client-preserved c =
    let at = c.loop-client in
    let steps = c.in-Some.ensures.steps in
    let one = ap (λ (cs : List Client). length cs) steps.0 in
    let len = c.push_reserved.ensures.len in
    let capacity = c.push_reserved.ensures.capacity in
    record {
      left = omega (arith, one, steps.1, at.invariant.left);
      room = omega (arith, one, len, capacity, at.invariant.room);
      so = one_log c.args.clients.items (into_iter_items at.client-iterator)
          (into_iter_items c.next.new.self) c.in-Some.client at.logs.items
          c.push_reserved.new.self.items c.into_log.result at.failed at.invariant.so steps.0
          c.into_log.ensures c.push_reserved.ensures.items;
    }

pub returns : goal.returns
returns c =
    let at = c.loop-client in
    let both = no_more_logs c.args.clients.items (into_iter_items at.client-iterator)
    at.logs.items at.failed at.invariant.so (sym at.invariant.left ∙ c.in-None.ensures.steps.0) in
    record { logs = both.0; failed = both.1 }
