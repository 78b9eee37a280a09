use Rattle.std.proofs.Common.{[], ◌∷◌, arith}
use Rattle.client_heap.proofs.Aged.{root_ages}
use Rattle.client_heap.proofs.ageing.age_records.Goals as goal

pub returns-clause-first : goal.returns-clause-first
returns-clause-first c =
    let ordered = rw c.heap.ensures.heap at c.len-ordered.ensures.ordered in
    root_ages c.args.nursery.now.heap.records c.age.new.self.heap.records
    (c.args.q ∷ c.args.r ∷ []) c.age.new.roots c.age.ensures.survivors ordered 0 (omega arith)

pub returns-clause-second : goal.returns-clause-second
returns-clause-second c =
    let ordered = rw c.heap.ensures.heap at c.len-ordered.ensures.ordered in
    root_ages c.args.nursery.now.heap.records c.age.new.self.heap.records
    (c.args.q ∷ c.args.r ∷ []) c.age.new.roots c.age.ensures.survivors ordered 1 (omega arith)
