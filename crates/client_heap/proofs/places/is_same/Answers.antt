use Rattle.std.proofs.Common.{◌∙◌, arith}
use Rattle.client_heap.proofs.Keeping.{cut_carries}
use Rattle.client_heap.proofs.places.is_same.Goals as goal

pub returns-clause-carries : goal.returns-clause-carries
returns-clause-carries c =
    let fit = c.held_len-held.ensures.known ∙ c.held_len-held.ensures.len in
    cut_carries c.args.m.now c.is_same.new.self _ _ c.is_same.ensures.told fit (omega arith)
    c.args.minor.now c.len-records.ensures.ordered
