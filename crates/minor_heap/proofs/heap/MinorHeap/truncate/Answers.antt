use Rattle.std.proofs.Common.{◌≡◌, ◌∙◌, List, ap, arith, length, subst, sym, take}
use Rattle.std.proofs.lemmas.List.{length-take}
use Rattle.minor_heap.specs.declared.fields.MinorField.{MinorField}
use Rattle.minor_heap.specs.Nursery.{IsOrdered, Nursery}
use Rattle.minor_heap.specs.Terms.{terms_of}
use Rattle.minor_heap.proofs.Terms.{ordered_take, terms_take}
use Rattle.minor_heap.proofs.heap.MinorHeap.truncate.Goals as goal

-- the records that are left
records : (c : goal.After-truncate) → c.truncate.new.self.items
    ≡ take c.args.kept c.args.self.now.records
records c =
    c.truncate.ensures.items
    ∙ ap (λ (n : Nursery). take c.args.kept n.records) c.self.view_is

pub invariant_of-self : goal.invariant_of-self
invariant_of-self c =
    let was =
    subst (λ (n : Nursery). IsOrdered 0 n.records) c.self.view_is c.self.invariant.ordered in
    let many = ap (λ (n : Nursery). length n.records) c.self.view_is in
    let fewer = ap length (records c) ∙ length-take c.args.kept c.args.self.now.records in
    record {
      ordered =
          subst (λ (l : List (List MinorField)). IsOrdered 0 l) (sym (records c))
          (ordered_take 0 c.args.self.now.records c.args.kept was);
      count = omega (arith, fewer, many, c.self.invariant.count);
      taken = omega (arith, c.self.invariant.taken, c.truncate.ensures.capacity);
      few = c.self.invariant.few;
    }

pub returns-clause-records : goal.returns-clause-records
returns-clause-records c = records c

pub returns-clause-terms : goal.returns-clause-terms
returns-clause-terms c shared =
    ap (terms_of shared) (records c) ∙ terms_take shared c.args.self.now.records c.args.kept
