-- Edits that carry over to another tree.
--
-- child_*    what stands at a name after a child is put there, and at the first name of a path.
-- begins_*   an edit goes on in the same child in both trees.
-- *_along    the laws: the edit and the attachment of its child make one tree.
use Rattle.std.proofs.Common.{◌≡◌, ◌∙◌, ℕ, true, cond, List, [], ◌∷◌}
use Rattle.std.proofs.Common.{Option, None, Some, Result, Ok, Err, refl, sym, ap, arith}
use Rattle.std.specs.Prelude.{nat_lt}
use Rattle.std.specs.Option.{option_and_then}
use Rattle.std.specs.declared.cmp.Ordering.TheVariants.{Less, Equal, Greater}
use Rattle.std.proofs.lemmas.Bool.Decides.{nat_tests}
use Rattle.std.proofs.lemmas.Cmp.{nat_list_cmp_total, tied_itself}
use Rattle.doc_tree.specs.declared.edit.EditFault.{EditFault}
use Rattle.doc_tree.specs.declared.edit.EditFault.TheVariants as fault
use Rattle.doc_tree.specs.declared.tree.TheConstants.Tree.{MOST_CHILDREN}
use Rattle.doc_tree.specs.Edits.{attach, begun, delete, edit_along, edited, found, placed}
use Rattle.doc_tree.specs.Edits.{start, with_child, with_text, within_limits}
use Rattle.doc_tree.specs.Grafts.{Agree, AttachIsAlong, DeleteIsAlong, NodeAgrees, SetTextIsAlong}
use Rattle.doc_tree.specs.Tree.{DocTree, Kids, no_kids, kid, empty, kid_count, name_cmp, by_order}
use Rattle.doc_tree.specs.Tree.{child, node, put_child}
use Rattle.doc_tree.proofs.Orderly.{within}
use Rattle.doc_tree.proofs.Passes.{Begins, there, new, passes, deletes}

child_first : (n : List ℕ) (d : DocTree) (rest : Kids)
    → child n (kid n d.text d.kids rest) ≡ Some d
child_first n d rest =
    ap (λ o. by_order o None (Some d) (child n rest)) (tied_itself nat_list_cmp_total n)

-- a child that is put at a name is the child of that name, whatever the order of the others
pub child_put : (n : List ℕ) (d : DocTree) (kids : Kids) → child n (put_child n d kids) ≡ Some d
child_put n d no_kids = child_first n d no_kids
child_put n d (kid m text inside rest) =
    elim (name_cmp n m) as (λ o. name_cmp n m ≡ o
    → child n (by_order o (kid n d.text d.kids (kid m text inside rest))
    (kid n d.text d.kids rest) (kid m text inside (put_child n d rest))) ≡ Some d) [
      | Less ↦ λ h. child_first n d (kid m text inside rest)
      | Equal ↦ λ h. child_first n d rest
      | Greater ↦ λ h.
          ap (λ o. by_order o None (Some (record { text = text; kids = inside }))
          (child n (put_child n d rest))) h ∙ child_put n d rest
    ] refl

itself : (o : Option DocTree) → option_and_then (node []) o ≡ o
itself None = refl
itself (Some d) = refl

-- the node at the end of one name is the child of that name
pub child_node : (n : List ℕ) (t : DocTree) → node (n ∷ []) t ≡ child n t.kids
child_node n t = itself (child n t.kids)

pub child_agrees : (n : List ℕ) (path : List (List ℕ)) (r s : DocTree) → Agree (n ∷ path) r s
    → child n s.kids ≡ child n r.kids
child_agrees n path r s agree = sym (child_node n s) ∙ agree ∙ child_node n r

-- the child that an edit made is the one that stands in the new tree
child_made : (n : List ℕ) (b r e d : DocTree) → with_child n b r ≡ e → node (n ∷ []) e ≡ Some d
    → b ≡ d
child_made n b r e d is at =
    let some : Some b ≡ Some d =
    sym (child_put n b r.kids) ∙ ap (λ (t : DocTree). child n t.kids) is ∙ sym (child_node n e)
    ∙ at in
    cc

-- the other tree has the same child, or has room for a new one as it took one in
begins_same : (n : List ℕ) (r s was other : DocTree) → Begins n r was → Begins n s other
    → child n s.kids ≡ child n r.kids → Begins n s was
begins_same n r s was other (there is) any same = there (same ∙ is)
begins_same n r s was other (new none room is) (there some) same = cc
begins_same n r s was other (new none room is) (new free more made) same = new free more is

begins_start : (n : List ℕ) (t was : DocTree) → Begins n t was → start n t ≡ Ok was
begins_start n t was (there is) = ap (begun t.kids) is
begins_start n t was (new none room is) =
    let few : nat_lt (kid_count t.kids) MOST_CHILDREN ≡ true = grind (arith, nat_tests, room) in
    ap (begun t.kids) none
    ∙ ap (λ b. cond b (Ok empty) (Err fault.Many)) few
    ∙ ap (λ (d : DocTree). Ok d) is

begins_placed : (edit : DocTree → Result DocTree EditFault) (n : List ℕ) (t was d : DocTree)
    → Begins n t was → edit was ≡ Ok d
    → placed n t (edited edit (start n t)) ≡ Ok (with_child n d t)
begins_placed edit n t was d from made =
    ap (λ r. placed n t (edited edit r)) (begins_start n t was from) ∙ ap (placed n t) made

passed : (r : Result DocTree EditFault) (u : DocTree) → edited within_limits r ≡ Ok u → r ≡ Ok u
passed (Ok t) u h = ap (λ (x : DocTree). Ok x) (within t u h).is
passed (Err e) u h = cc

edit_along_carries : (make : DocTree → DocTree) (n : List ℕ) (path : List (List ℕ))
    (r s e d t : DocTree) → edited within_limits (edit_along make (n ∷ path) r) ≡ Ok e
    → Agree (n ∷ path) r s → node (n ∷ []) e ≡ Some d → attach (n ∷ []) d s ≡ Ok t
    → edited within_limits (edit_along make (n ∷ path) s) ≡ Ok t
edit_along_carries make n path r s e d t h agree at goes =
    let p = passes make n path r e (passed (edit_along make (n ∷ path) r) e h) in
    let q = passes (λ _. d) n [] s t (passed (edit_along (λ _. d) (n ∷ []) s) t goes) in
    let made : edit_along make path p.was ≡ Ok d =
    p.made ∙ ap (λ (x : DocTree). Ok x) (child_made n p.becomes r e d p.is at) in
    let from = begins_same n r s p.was q.was p.begins q.begins (child_agrees n path r s agree) in
    ap (edited within_limits)
    (begins_placed (edit_along make path) n s p.was d from made
    ∙ sym (begins_placed (edit_along (λ _. d) []) n s p.was d from refl))
    ∙ goes

pub set_text_along : SetTextIsAlong
set_text_along [] text some = absurd (omega (arith, some))
set_text_along (n ∷ path) text some = λ r s e d t h agree at goes.
    edit_along_carries (with_text text) n path r s e d t h agree at goes

pub attach_along : AttachIsAlong
attach_along [] sub some = absurd (omega (arith, some))
attach_along (n ∷ path) sub some = λ r s e d t h agree at goes.
    edit_along_carries (λ _. sub) n path r s e d t h agree at goes

delete_carries : (n m : List ℕ) (path : List (List ℕ)) (r s e d t : DocTree)
    → delete (n ∷ m ∷ path) r ≡ Ok e → Agree (n ∷ m ∷ path) r s → node (n ∷ []) e ≡ Some d
    → attach (n ∷ []) d s ≡ Ok t → delete (n ∷ m ∷ path) s ≡ Ok t
delete_carries n m path r s e d t h agree at goes =
    let p = deletes n m path r e h in
    let q = passes (λ _. d) n [] s t (passed (edit_along (λ _. d) (n ∷ []) s) t goes) in
    let made : delete (m ∷ path) p.was ≡ Ok d =
    p.made ∙ ap (λ (x : DocTree). Ok x) (child_made n p.becomes r e d p.is at) in
    let put : Ok d ≡ Ok q.becomes = q.made in
    let same : d ≡ q.becomes = cc in
    let stands : child n s.kids ≡ Some p.was =
    child_agrees n (m ∷ path) r s agree ∙ p.there in
    ap (λ o. placed n s (edited (delete (m ∷ path)) (found o))) stands
    ∙ ap (placed n s) made
    ∙ ap (λ (x : DocTree). Ok x) (ap (λ (x : DocTree). with_child n x s) same ∙ q.is)

pub delete_along : DeleteIsAlong
delete_along [] some = absurd (omega (arith, some))
delete_along (n ∷ []) some = absurd (omega (arith, some))
delete_along (n ∷ m ∷ path) some = λ r s e d t h agree at goes.
    delete_carries n m path r s e d t h agree at goes

pub node_agrees : NodeAgrees
node_agrees [] r s some agree = absurd (omega (arith, some))
node_agrees (n ∷ path) r s some agree =
    ap (option_and_then (node path)) (child_agrees n path r s agree)
