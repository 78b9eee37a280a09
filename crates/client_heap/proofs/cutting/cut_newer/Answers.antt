use Rattle.std.proofs.Common.{◌≡◌, ◌∙◌, List, ap, arith, length, subst, sym, take}
use Rattle.std.proofs.lemmas.List.{length-take}
use Rattle.minor_heap.specs.declared.fields.MinorField.{MinorField}
use Rattle.client_heap.specs.Ages.{Ages, up_to}
use Rattle.client_heap.proofs.Cuts.{cut_ages, cut_length}
use Rattle.client_heap.proofs.cutting.cut_newer.Goals as goal

-- what is left
left : (c : goal.After-cut_back) → c.cut_back.new.self.heap.records
    ≡ take (up_to c.args.node) c.args.nursery.now.heap.records
left c =
    c.cut_back.ensures.first
    ∙ ap (λ k. take k c.args.nursery.now.heap.records) c.up_to-kept.ensures.count

pub returns-clause-node : goal.returns-clause-node
returns-clause-node c =
    let old = c.args.nursery.now.heap.records in
    let ordered = rw c.heap.ensures.heap at c.len-records.ensures.ordered in
    subst (λ (rs : List (List MinorField)). Ages old rs c.args.node c.args.node) (sym (left c))
    (cut_ages old ordered c.args.node)

pub returns-clause-kept : goal.returns-clause-kept
returns-clause-kept c =
    ap length (left c) ∙ cut_length c.args.nursery.now.heap.records c.args.node c.requires.there

pub returns-clause-fewer : goal.returns-clause-fewer
returns-clause-fewer c =
    let old = c.args.nursery.now.heap.records in
    let many = ap length (left c) ∙ length-take (up_to c.args.node) old in omega (arith, many)
