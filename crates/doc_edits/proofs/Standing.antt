-- What stands after a call, and after one call and another.
use Rattle.std.proofs.Common.{◌≡◌, ◌∙◌, Ok, Option, Result, Some, arith, refl, subst, sym}
use Rattle.std.specs.Option.{ForSome}
use Rattle.std.specs.Result.{ForOk}
use Rattle.cell_words.specs.Term.{IsFive}
use Rattle.doc_records.specs.declared.pool.Part.{Part}
use Rattle.doc_records.specs.declared.pool.Part.TheVariants as parts
use Rattle.doc_records.specs.Pool.{Later, Shown, Stands, part_term}
use Rattle.doc_records.specs.Trees.{IsNode, IsNodeAt}

pub later_then : {At F : Type 0} {a b c : Shown At F} → Later a b → Later b c → Later a c
later_then first second = record {
  still = λ x n s low. second.still x n (first.still x n s low) (omega arith);
  now = λ x s. second.now x (first.now x s);
  same = λ x s. second.same x (first.now x s) ∙ first.same x s;
  says = λ f n s low. second.says f n (first.says f n s low) (omega arith);
  longer = omega arith;
  room = second.room ∙ first.room;
  marks = λ before begins. second.marks before (first.marks before begins);
}

pub node_still : {At F : Type 0} (s t : Shown At F) (a : At) → Later s t → IsNodeAt s a
    → IsNodeAt t a
node_still s t a later is = record {
  stands = later.now a is.stands;
  node = subst IsNode (sym (later.same a is.stands)) is.node;
}

pub part_still : {At F : Type 0} (s t : Shown At F) (p : Part At) → Later s t → Stands s p
    → Stands t p
part_still s t parts.Null later is = tt
part_still s t (parts.Num n) later is = is
part_still s t (parts.Record a) later is =
    (later.now a is.0, subst IsFive (sym (later.same a is.0)) is.1)

pub part_same : {At F : Type 0} (s t : Shown At F) (p : Part At) → Later s t → Stands s p
    → part_term t.term p ≡ part_term s.term p
part_same s t parts.Null later is = refl
part_same s t (parts.Num n) later is = refl
part_same s t (parts.Record a) later is = later.same a is.0

-- the node that an answer is, or that there is
pub ok_node : {At F E : Type 0} (s : Shown At F) (a : At) (r : Result At E) → r ≡ Ok a
    → IsNodeAt s a → ForOk r (IsNodeAt s)
ok_node s a r is node = λ x e.
    let same : a ≡ x = cc in
    subst (IsNodeAt s) same node

pub some_node : {At F : Type 0} (s : Shown At F) (a : At) (o : Option At) → o ≡ Some a
    → IsNodeAt s a → ForSome o (IsNodeAt s)
some_node s a o is node = λ x e.
    let same : a ≡ x = cc in
    subst (IsNodeAt s) same node
