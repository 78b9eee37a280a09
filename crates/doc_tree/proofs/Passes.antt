-- An edit that is not refused, taken apart: the child that it goes on in, what that becomes, and
-- the tree with it in its place. So a fact of edits is one induction on the path.
use Rattle.std.proofs.Common.{◌≡◌, ℕ, ◌<◌, true, false, cond, List, ◌∷◌, Option, None, Some}
use Rattle.std.proofs.Common.{Result, Ok, Err, refl}
use Rattle.std.specs.Prelude.{nat_lt}
use Rattle.std.proofs.lemmas.Bool.Decides.{nat_tests}
use Rattle.std.proofs.Common.{arith}
use Rattle.doc_tree.specs.declared.edit.EditFault.{EditFault}
use Rattle.doc_tree.specs.declared.edit.EditFault.TheVariants as fault
use Rattle.doc_tree.specs.declared.tree.TheConstants.Tree.{MOST_CHILDREN}
use Rattle.doc_tree.specs.Tree.{DocTree, empty, kid_count, child}
use Rattle.doc_tree.specs.Edits.{begun, delete, edit_along, edited, found, placed, start}
use Rattle.doc_tree.specs.Edits.{with_child}

-- the child that an edit goes on in stands there, or is a new one for which there is room
pub data Begins (n : List ℕ) (t was : DocTree) : Type 0 where
  there : child n t.kids ≡ Some was → Begins n t was
  new : child n t.kids ≡ None → kid_count t.kids < MOST_CHILDREN → empty ≡ was → Begins n t was

pub record Passes (edit : DocTree → Result DocTree EditFault) (n : List ℕ) (t u : DocTree) :
    Type 0 where
  pub was : DocTree
  pub becomes : DocTree
  pub begins : Begins n t was
  pub made : edit was ≡ Ok becomes
  pub is : with_child n becomes t ≡ u

pub record Deletes (edit : DocTree → Result DocTree EditFault) (n : List ℕ) (t u : DocTree) :
    Type 0 where
  pub was : DocTree
  pub becomes : DocTree
  pub there : child n t.kids ≡ Some was
  pub made : edit was ≡ Ok becomes
  pub is : with_child n becomes t ≡ u

begins_new : (n : List ℕ) (t was : DocTree) → child n t.kids ≡ None → begun t.kids None ≡ Ok was
    → Begins n t was
begins_new n t was none h =
    elim (nat_lt (kid_count t.kids) MOST_CHILDREN)
    as (λ b. nat_lt (kid_count t.kids) MOST_CHILDREN ≡ b
    → cond b (Ok empty) (Err fault.Many) ≡ Ok was → Begins n t was) [
      | true ↦ λ room h. new none (grind (arith, nat_tests)) cc
      | false ↦ λ room h. cc
    ] refl h

pub begins : (n : List ℕ) (t was : DocTree) → start n t ≡ Ok was → Begins n t was
begins n t was h =
    elim (child n t.kids) as (λ o. child n t.kids ≡ o → begun t.kids o ≡ Ok was → Begins n t was) [
      | None ↦ λ none h. begins_new n t was none h
      | Some d ↦ λ some h. let is : d ≡ was = cc in there cc
    ] refl h

passes_from : (edit : DocTree → Result DocTree EditFault) (n : List ℕ) (t was u : DocTree)
    (r : Result DocTree EditFault) → Begins n t was → edit was ≡ r → placed n t r ≡ Ok u
    → Passes edit n t u
passes_from edit n t was u (Ok d) from made h =
    record { was = was; becomes = d; begins = from; made = made; is = cc }
passes_from edit n t was u (Err e) from made h = cc

passes_start : (edit : DocTree → Result DocTree EditFault) (n : List ℕ) (t u : DocTree)
    (r : Result DocTree EditFault) → start n t ≡ r → placed n t (edited edit r) ≡ Ok u
    → Passes edit n t u
passes_start edit n t u (Ok was) from h =
    passes_from edit n t was u (edit was) (begins n t was from) refl h
passes_start edit n t u (Err e) from h = cc

pub passes : (make : DocTree → DocTree) (n : List ℕ) (path : List (List ℕ)) (t u : DocTree)
    → edit_along make (n ∷ path) t ≡ Ok u → Passes (edit_along make path) n t u
passes make n path t u h = passes_start (edit_along make path) n t u (start n t) refl h

deletes_from : (edit : DocTree → Result DocTree EditFault) (n : List ℕ) (t was u : DocTree)
    (r : Result DocTree EditFault) → child n t.kids ≡ Some was → edit was ≡ r → placed n t r ≡ Ok u
    → Deletes edit n t u
deletes_from edit n t was u (Ok d) some made h =
    record { was = was; becomes = d; there = some; made = made; is = cc }
deletes_from edit n t was u (Err e) some made h = cc

deletes_found : (edit : DocTree → Result DocTree EditFault) (n : List ℕ) (t u : DocTree)
    (o : Option DocTree) → child n t.kids ≡ o → placed n t (edited edit (found o)) ≡ Ok u
    → Deletes edit n t u
deletes_found edit n t u (Some was) some h = deletes_from edit n t was u (edit was) some refl h
deletes_found edit n t u None none h = cc

pub deletes : (n m : List ℕ) (path : List (List ℕ)) (t u : DocTree)
    → delete (n ∷ m ∷ path) t ≡ Ok u → Deletes (delete (m ∷ path)) n t u
deletes n m path t u h = deletes_found (delete (m ∷ path)) n t u (child n t.kids) refl h
