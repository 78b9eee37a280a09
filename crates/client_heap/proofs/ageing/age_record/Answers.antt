use Rattle.std.proofs.Common.{[], ◌∷◌, arith}
use Rattle.client_heap.proofs.Aged.{root_ages}
use Rattle.client_heap.proofs.ageing.age_record.Goals as goal

pub returns-clause-node : goal.returns-clause-node
returns-clause-node c =
    let ordered = rw c.heap.ensures.heap at c.len-ordered.ensures.ordered in
    root_ages c.args.nursery.now.heap.records c.age.new.self.heap.records (c.args.r ∷ [])
    c.age.new.roots c.age.ensures.survivors ordered 0 (omega arith)
