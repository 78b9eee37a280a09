use Rattle.std.proofs.Common.{◌≡◌, refl, ap, sym, subst, ◌∙◌, ◌++◌, ◌∷◌, [], length, List, arith}
use Rattle.std.proofs.Common.{length-append}
use Rattle.minor_heap.specs.declared.fields.MinorField.{MinorField}
use Rattle.minor_heap.specs.Nursery.{IsOrdered, Nursery}
use Rattle.minor_heap.specs.Terms.{terms_of}
use Rattle.minor_heap.proofs.Terms.{ordered_snoc, terms_snoc}
use Rattle.minor_heap.proofs.heap.MinorHeap.push.Goals as goal

-- the records after the push
records : (c : goal.After-push_reserved) → c.push_reserved.new.self.items
    ≡ c.args.self.now.records ++ c.args.fields ∷ []
records c =
    let old = ap (λ (n : Nursery). n.records ++ c.args.fields ∷ []) c.self.view_is in
    c.push_reserved.ensures.items ∙ old

pub invariant_of-self : goal.invariant_of-self
invariant_of-self c =
    let was =
    subst (λ (n : Nursery). IsOrdered 0 n.records) c.self.view_is c.self.invariant.ordered in
    let room = ap (λ (n : Nursery). n.room) c.self.view_is in
    let longer = ap length (records c)
    ∙ length-append c.args.self.now.records (c.args.fields ∷ []) in
    let left = c.spare.ensures.spare in
    let some = c.if-spare-eq0.false in
    record {
      ordered =
          subst (λ (l : List (List MinorField)). IsOrdered 0 l) (sym (records c))
          (ordered_snoc _ _ was c.requires.fields);
      count = omega (arith, longer, left, some, room);
      taken = omega (arith, c.self.invariant.taken, c.push_reserved.ensures.capacity);
      few = c.self.invariant.few;
    }

pub returns-clause-term : goal.returns-clause-term
returns-clause-term c shared =
    ap (terms_of shared) (records c) ∙ terms_snoc shared [] c.args.self.now.records c.args.fields

pub returns-then-spare-eq0-clause-full : goal.returns-then-spare-eq0-clause-full
returns-then-spare-eq0-clause-full c =
    (λ _. omega (arith, c.spare.ensures.spare, c.if-spare-eq0.true), λ _. refl)

pub returns-clause-records : goal.returns-clause-records
returns-clause-records c = records c
