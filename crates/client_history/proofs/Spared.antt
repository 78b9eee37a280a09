-- No definition of an edit runs out of memory.
use Rattle.std.proofs.Common.{◌≡◌, Bool, true, false, cond, ℕ, List, [], ◌∷◌, Option, Some, None}
use Rattle.std.proofs.Common.{Result, Ok, Err, nat_lt, refl}
use Rattle.doc_model.specs.Answers.{all_made, attached, edit_made}
use Rattle.doc_model.specs.declared.edits.Edit.{Edit}
use Rattle.doc_model.specs.declared.edits.Edit.TheVariants as edit
use Rattle.doc_tree.specs.Edits.{attach, begun, delete, deleted, edit_along, edited, found, placed}
use Rattle.doc_tree.specs.Edits.{set_text, start, with_text, within_limits}
use Rattle.doc_tree.specs.Tree.{DocTree, Kids, child, count, empty, height, kid_count, node}
use Rattle.doc_tree.specs.declared.edit.EditFault.{EditFault}
use Rattle.doc_tree.specs.declared.edit.EditFault.TheVariants as fault
use Rattle.client_history.specs.Progress.{runs_out}

either : (b : Bool) (x y : Result DocTree EditFault) → runs_out x ≡ false → runs_out y ≡ false
    → runs_out (cond b x y) ≡ false
either true x y one two = one
either false x y one two = two

placed_spared : (n : List ℕ) (t : DocTree) (r : Result DocTree EditFault) → runs_out r ≡ false
    → runs_out (placed n t r) ≡ false
placed_spared n t (Ok d) none = refl
placed_spared n t (Err e) none = none

edited_spared : (next : DocTree → Result DocTree EditFault)
    → ((d : DocTree) → runs_out (next d) ≡ false) → (r : Result DocTree EditFault)
    → runs_out r ≡ false → runs_out (edited next r) ≡ false
edited_spared next each (Ok d) none = each d
edited_spared next each (Err e) none = none

begun_spared : (kids : Kids) (o : Option DocTree) → runs_out (begun kids o) ≡ false
begun_spared kids (Some d) = refl
begun_spared kids None = either (nat_lt (kid_count kids) 256) (Ok empty) (Err fault.Many) refl refl

along_spared : (make : DocTree → DocTree) (path : List (List ℕ)) (t : DocTree)
    → runs_out (edit_along make path t) ≡ false
along_spared make [] t = refl
along_spared make (n ∷ path) t =
    placed_spared n t (edited (edit_along make path) (start n t))
    (edited_spared (edit_along make path) (along_spared make path) (start n t)
    (begun_spared t.kids (child n t.kids)))

within_spared : (t : DocTree) → runs_out (within_limits t) ≡ false
within_spared t =
    let big : Result DocTree EditFault =
    cond (nat_lt 1_000_000_000 (count t)) (Err fault.Big) (Ok t) in
    either (nat_lt 8 (height t)) (Err fault.Deep) big refl
    (either (nat_lt 1_000_000_000 (count t)) (Err fault.Big) (Ok t) refl refl)

pub set_text_spared : (path : List (List ℕ)) (text : List ℕ) (t : DocTree)
    → runs_out (set_text path text t) ≡ false
set_text_spared path text t =
    edited_spared within_limits within_spared (edit_along (with_text text) path t)
    (along_spared (with_text text) path t)

pub attach_spared : (path : List (List ℕ)) (sub t : DocTree)
    → runs_out (attach path sub t) ≡ false
attach_spared path sub t =
    edited_spared within_limits within_spared (edit_along (λ _. sub) path t)
    (along_spared (λ _. sub) path t)

pub attached_spared : (to : List (List ℕ)) (t : DocTree) (o : Option DocTree)
    → runs_out (attached to t o) ≡ false
attached_spared to t (Some sub) = attach_spared to sub t
attached_spared to t None = refl

found_spared : (o : Option DocTree) → runs_out (found o) ≡ false
found_spared (Some d) = refl
found_spared None = refl

deleted_spared : (n : List ℕ) (t : DocTree) (o : Option DocTree)
    → runs_out (deleted n t o) ≡ false
deleted_spared n t (Some d) = refl
deleted_spared n t None = refl

pub delete_spared : (path : List (List ℕ)) (t : DocTree) → runs_out (delete path t) ≡ false
delete_spared [] t = refl
delete_spared (n ∷ []) t = deleted_spared n t (child n t.kids)
delete_spared (n ∷ m ∷ path) t =
    placed_spared n t (edited (delete (m ∷ path)) (found (child n t.kids)))
    (edited_spared (delete (m ∷ path)) (delete_spared (m ∷ path)) (found (child n t.kids))
    (found_spared (child n t.kids)))

-- the edits of a batch
made_spared : (draft : DocTree) (e : Edit) (t : DocTree) → runs_out (edit_made draft e t) ≡ false
made_spared draft (edit.Put path text) t = set_text_spared path text t
made_spared draft (edit.Del path) t = delete_spared path t
made_spared draft (edit.Copy «from» to) t = attached_spared to t (node «from» t)
made_spared draft (edit.Publish path) t = attach_spared path draft t

pub all_spared : (draft : DocTree) (es : List Edit) (t : DocTree)
    → runs_out (all_made draft es t) ≡ false
all_spared draft [] t = refl
all_spared draft (e ∷ es) t =
    edited_spared (all_made draft es) (all_spared draft es) (edit_made draft e t)
    (made_spared draft e t)
