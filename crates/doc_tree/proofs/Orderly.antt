-- What an edit makes of lawful trees.
--
-- ordered_*  every node of the new tree is orderly: those that were there are, and a new child
--            comes only where there is room.
-- height_*   a path of so many names adds no more levels than it has names.
-- *_lawful   the laws; the limits on the whole tree are asked at the end of each edit that adds.
use Rattle.std.proofs.Common.{◌≡◌, ◌≢◌, ℕ, ◌+◌, ◌<◌, ◌≤◌, max, true, false, cond, List, [], ◌∷◌}
use Rattle.std.proofs.Common.{length, Option, None, Some, Result, Ok, Err, refl, sym, ap, subst}
use Rattle.std.proofs.Common.{arith}
use Rattle.std.specs.Prelude.{◌&&◌, nat_lt, nat_le, IsTrue}
use Rattle.std.specs.Result.{ForOk}
use Rattle.std.specs.Option.{ForSome, option_and_then}
use Rattle.std.proofs.lemmas.Bool.{and_parts}
use Rattle.std.proofs.lemmas.Bool.Decides.{nat_tests}
use Rattle.std.specs.declared.cmp.Ordering.TheVariants.{Less, Equal, Greater}
use Rattle.doc_tree.specs.declared.edit.EditFault.{EditFault}
use Rattle.doc_tree.specs.declared.edit.EditFault.TheVariants as fault
use Rattle.doc_tree.specs.declared.tree.TheConstants.Tree.{MOST_CHILDREN}
use Rattle.doc_tree.specs.Edits.{Gives, attach, begun, delete, delete_child, deleted, edit_along}
use Rattle.doc_tree.specs.Edits.{edited, placed, set_text, start, with_child, with_text}
use Rattle.doc_tree.specs.Edits.{within_limits, without_child}
use Rattle.doc_tree.specs.Lawful.{AreOrderly, IsLawful, IsOrdered, NodeIsLawful, SetTextIsLawful}
use Rattle.doc_tree.specs.Lawful.{AttachIsLawful, DeleteIsLawful, SetTextIsShallow}
use Rattle.doc_tree.specs.Rows.{as_u32, as_u64}
use Rattle.doc_tree.specs.Tree.{DocTree, Kids, no_kids, kid, empty, kid_count, child, node}
use Rattle.doc_tree.specs.Tree.{put_child, count, height, height_below, nodes_below, name_cmp}
use Rattle.doc_tree.specs.Tree.{by_order}
use Rattle.doc_tree.specs.Words.{are_names, is_path}
use Rattle.doc_tree.proofs.Passes.{Begins, there, new, passes, deletes}
use Rattle.doc_tree.proofs.Rising.{count_delete, rising_delete, rising_put, room_put}
use Rattle.doc_tree.proofs.Sizes.{child_count, child_height, put_height, put_fewer, delete_fewer}
use Rattle.doc_tree.proofs.Sizes.{delete_lower}

pub ordered_empty : IsOrdered empty
ordered_empty = record { here = record { rising = tt; few = omega arith }; below = tt }

pub ordered_child : (n : List ℕ) (kids : Kids) (d : DocTree) → AreOrderly kids
    → child n kids ≡ Some d → IsOrdered d
ordered_child n no_kids d all h = cc
ordered_child n (kid m text inside rest) d all h =
    elim (name_cmp n m) as (λ o. by_order o None (Some (record { text = text; kids = inside }))
    (child n rest) ≡ Some d → IsOrdered d) [
      | Less ↦ λ h. cc
      | Equal ↦ λ h.
          let is : record { text = text; kids = inside } ≡ d = cc in
          subst IsOrdered is (record { here = all.0; below = all.1.0 })
      | Greater ↦ λ h. ordered_child n rest d all.1.1 h
    ] h

pub ordered_put : (n : List ℕ) (d : DocTree) (kids : Kids) → AreOrderly kids → IsOrdered d
    → AreOrderly (put_child n d kids)
ordered_put n d no_kids all fresh = (fresh.here, (fresh.below, tt))
ordered_put n d (kid m text inside rest) all fresh =
    elim (name_cmp n m) as (λ o. AreOrderly
    (by_order o (kid n d.text d.kids (kid m text inside rest)) (kid n d.text d.kids rest)
    (kid m text inside (put_child n d rest)))) [
      | Less ↦ (fresh.here, (fresh.below, all))
      | Equal ↦ (fresh.here, (fresh.below, all.1.1))
      | Greater ↦ (all.0, (all.1.0, ordered_put n d rest all.1.1 fresh))
    ]

pub ordered_delete : (n : List ℕ) (kids : Kids) → AreOrderly kids → AreOrderly (delete_child n kids)
ordered_delete n no_kids all = tt
ordered_delete n (kid m text inside rest) all =
    elim (name_cmp n m) as (λ o. AreOrderly
    (by_order o (kid m text inside rest) rest (kid m text inside (delete_child n rest)))) [
      | Less ↦ all
      | Equal ↦ all.1.1
      | Greater ↦ (all.0, (all.1.0, ordered_delete n rest all.1.1))
    ]

pub ordered_with : (n : List ℕ) (d t : DocTree)
    → (child n t.kids ≡ None → kid_count t.kids < MOST_CHILDREN)
    → IsOrdered t → IsOrdered d → IsOrdered (with_child n d t)
ordered_with n d t room was fresh = record {
  here = record {
    rising = rising_put n d t.kids was.here.rising;
    few = room_put n d t.kids room was.here.few;
  };
  below = ordered_put n d t.kids was.below fresh;
}

pub ordered_without : (n : List ℕ) (t : DocTree) → IsOrdered t → IsOrdered (without_child n t)
ordered_without n t was = record {
  here = record {
    rising = rising_delete n t.kids was.here.rising;
    few = omega (arith, was.here.few, count_delete n t.kids);
  };
  below = ordered_delete n t.kids was.below;
}

-- the child in which an edit goes on
pub ordered_begins : (n : List ℕ) (t was : DocTree) → Begins n t was → IsOrdered t → IsOrdered was
ordered_begins n t was (there is) all = ordered_child n t.kids was all.below is
ordered_begins n t was (new none room is) all = subst IsOrdered is ordered_empty

pub room_begins : (n : List ℕ) (t was : DocTree) → Begins n t was → child n t.kids ≡ None
    → kid_count t.kids < MOST_CHILDREN
room_begins n t was (there is) none = cc
room_begins n t was (new is room made) none = room

pub ordered_along : (make : DocTree → DocTree) → ((t : DocTree) → IsOrdered t → IsOrdered (make t))
    → (path : List (List ℕ)) (t u : DocTree) → IsOrdered t → edit_along make path t ≡ Ok u
    → IsOrdered u
ordered_along make keeps [] t u all h =
    let is : make t ≡ u = cc in
    subst IsOrdered is (keeps t all)
ordered_along make keeps (n ∷ path) t u all h =
    let p = passes make n path t u h in
    let inside = ordered_along make keeps path p.was p.becomes
    (ordered_begins n t p.was p.begins all) p.made in
    subst IsOrdered p.is (ordered_with n p.becomes t (room_begins n t p.was p.begins) all inside)

pub ordered_deleted : (path : List (List ℕ)) (t u : DocTree) → IsOrdered t → delete path t ≡ Ok u
    → IsOrdered u
ordered_deleted [] t u all h = cc
ordered_deleted (n ∷ []) t u all h =
    elim (child n t.kids) as (λ o. deleted n t o ≡ Ok u → IsOrdered u) [
      | None ↦ λ h. cc
      | Some d ↦ λ h.
          let is : without_child n t ≡ u = cc in
          subst IsOrdered is (ordered_without n t all)
    ] h
ordered_deleted (n ∷ m ∷ path) t u all h =
    let p = deletes n m path t u h in
    let inside = ordered_deleted (m ∷ path) p.was p.becomes
    (ordered_child n t.kids p.was all.below p.there) p.made in
    let room : child n t.kids ≡ None → kid_count t.kids < MOST_CHILDREN =
    λ none. let some = p.there in cc in
    subst IsOrdered p.is (ordered_with n p.becomes t room all inside)

-- how high an edit makes a tree
pub height_begins : (n : List ℕ) (t was : DocTree) → Begins n t was → height was ≤ height t
height_begins n t was (there is) = omega (arith, child_height n t.kids was is)
height_begins n t was (new none room is) =
    omega (arith, ap (λ (x : DocTree). height_below x.kids) is)

pub high_begins : (n : List ℕ) (t was : DocTree) (k : ℕ) → Begins n t was
    → max (height was) k + 1 ≤ max (height t) (k + 1)
high_begins n t was k (there is) = omega (arith, child_height n t.kids was is)
high_begins n t was k (new none room is) =
    omega (arith, ap (λ (x : DocTree). height_below x.kids) is)

pub height_along : (make : DocTree → DocTree) (k : ℕ)
    → ((t : DocTree) → height (make t) ≤ max (height t) k) → (path : List (List ℕ)) (t u : DocTree)
    → edit_along make path t ≡ Ok u → height u ≤ max (height t) (k + length path)
height_along make k low [] t u h =
    let is : make t ≡ u = cc in
    omega (arith, low t, ap (λ (x : DocTree). height_below x.kids) is)
height_along make k low (n ∷ path) t u h =
    let p = passes make n path t u h in
    omega (
      arith,
      height_along make k low path p.was p.becomes p.made,
      high_begins n t p.was (k + length path) p.begins,
      put_height n p.becomes t.kids,
      ap (λ (x : DocTree). height_below x.kids) p.is,
    )

pub height_deleted : (path : List (List ℕ)) (t u : DocTree) → delete path t ≡ Ok u
    → height u ≤ height t
height_deleted [] t u h = cc
height_deleted (n ∷ []) t u h =
    elim (child n t.kids) as (λ o. deleted n t o ≡ Ok u → height u ≤ height t) [
      | None ↦ λ h. cc
      | Some d ↦ λ h.
          let is : without_child n t ≡ u = cc in
          omega (arith, ap (λ (x : DocTree). height_below x.kids) is, delete_lower n t.kids)
    ] h
height_deleted (n ∷ m ∷ path) t u h =
    let p = deletes n m path t u h in
    omega (
      arith,
      ap (λ (x : DocTree). height_below x.kids) p.is,
      put_height n p.becomes t.kids,
      child_height n t.kids p.was p.there,
      height_deleted (m ∷ path) p.was p.becomes p.made,
    )

pub count_deleted : (path : List (List ℕ)) (t u : DocTree) → delete path t ≡ Ok u
    → count u ≤ count t
count_deleted [] t u h = cc
count_deleted (n ∷ []) t u h =
    elim (child n t.kids) as (λ o. deleted n t o ≡ Ok u → count u ≤ count t) [
      | None ↦ λ h. cc
      | Some d ↦ λ h.
          let is : without_child n t ≡ u = cc in
          omega (arith, ap (λ (x : DocTree). nodes_below x.kids) is, delete_fewer n t.kids)
    ] h
count_deleted (n ∷ m ∷ path) t u h =
    let p = deletes n m path t u h in
    omega (
      arith,
      ap (λ (x : DocTree). nodes_below x.kids) p.is,
      put_fewer n p.becomes p.was t.kids p.there
          (count_deleted (m ∷ path) p.was p.becomes p.made),
    )

-- what the limits let pass is the tree that was asked for, and within them
pub record Within (t u : DocTree) : Type 0 where
  pub is : t ≡ u
  pub low : height u ≤ 8
  pub few : count u ≤ 1_000_000_000

pub within : (t u : DocTree) → within_limits t ≡ Ok u → Within t u
within t u h =
    elim (nat_lt 8 (height t)) as (λ b. nat_lt 8 (height t) ≡ b
    → cond b (Err fault.Deep) (cond (nat_lt 1_000_000_000 (count t)) (Err fault.Big) (Ok t))
    ≡ Ok u → Within t u) [
      | true ↦ λ high h. cc
      | false ↦ λ high h.
          elim (nat_lt 1_000_000_000 (count t)) as (λ b. nat_lt 1_000_000_000 (count t) ≡ b
          → cond b (Err fault.Big) (Ok t) ≡ Ok u → Within t u) [
            | true ↦ λ many h. cc
            | false ↦ λ many h.
                let is : t ≡ u = cc in
                let low : height t ≤ 8 = grind (arith, nat_tests) in
                let few : count t ≤ 1_000_000_000 = grind (arith, nat_tests) in
                record {
                  is = is;
                  low = subst (λ (x : DocTree). height x ≤ 8) is low;
                  few = subst (λ (x : DocTree). count x ≤ 1_000_000_000) is few;
                }
          ] refl h
    ] refl h

lawful_within : (r : Result DocTree EditFault) (u : DocTree)
    → ((t : DocTree) → r ≡ Ok t → IsOrdered t) → edited within_limits r ≡ Ok u → IsLawful u
lawful_within (Ok t) u all h =
    let w = within t u h in
    record { nodes = subst IsOrdered w.is (all t refl); low = w.low; few = w.few }
lawful_within (Err e) u all h = cc

pub lawful_empty : IsLawful empty
lawful_empty = record { nodes = ordered_empty; low = omega arith; few = omega arith }

pub node_lawful : NodeIsLawful
node_lawful [] t d was h = let is : t ≡ d = cc in subst IsLawful is was
node_lawful (n ∷ path) t d was h =
    elim (child n t.kids) as (λ o. child n t.kids ≡ o → option_and_then (node path) o ≡ Some d
    → IsLawful d) [
      | None ↦ λ e h. cc
      | Some c ↦ λ e h.
          let low = was.low in
          let few = was.few in
          node_lawful path c d (record {
            nodes = ordered_child n t.kids c was.nodes.below e;
            low = omega (arith, low, child_height n t.kids c e);
            few = omega (arith, few, child_count n t.kids c e);
          }) h
    ] refl h

pub set_text_lawful : SetTextIsLawful
set_text_lawful path text t u was h =
    lawful_within (edit_along (with_text text) path t) u
    (λ made e. ordered_along (with_text text)
    (λ x all. record { here = all.here; below = all.below }) path t made was.nodes e) h

pub attach_lawful : AttachIsLawful
attach_lawful path sub t u inside was h =
    lawful_within (edit_along (λ _. sub) path t) u
    (λ made e. ordered_along (λ _. sub) (λ x all. inside.nodes) path t made was.nodes e) h

pub delete_lawful : DeleteIsLawful
delete_lawful path t u was h =
    let low = was.low in
    let few = was.few in
    record {
      nodes = ordered_deleted path t u was.nodes h;
      low = omega (arith, low, height_deleted path t u h);
      few = omega (arith, few, count_deleted path t u h);
    }

-- a path adds no level beyond its names
low_edit : (t : DocTree) → height t ≤ 8 → within_limits t ≢ Err fault.Deep
low_edit t low deep =
    elim (nat_lt 8 (height t)) as (λ b. nat_lt 8 (height t) ≡ b
    → cond b (Err fault.Deep) (cond (nat_lt 1_000_000_000 (count t)) (Err fault.Big) (Ok t))
    ≡ Err fault.Deep → ⊥) [
      | true ↦ λ high h. let over : 8 < height t =
          grind (arith, nat_tests) in omega (arith, low, over)
      | false ↦ λ high h.
          elim (nat_lt 1_000_000_000 (count t))
          as (λ b. cond b (Err fault.Big) (Ok t) ≡ Err fault.Deep → ⊥) [
            | true ↦ λ h. cc
            | false ↦ λ h. cc
          ] h
    ] refl deep

deep_begun : (kids : Kids) (o : Option DocTree) → begun kids o ≢ Err fault.Deep
deep_begun kids (Some d) h = cc
deep_begun kids None h =
    elim (nat_lt (kid_count kids) MOST_CHILDREN)
    as (λ b. cond b (Ok empty) (Err fault.Many) ≡ Err fault.Deep → ⊥) [
      | true ↦ λ h. cc
      | false ↦ λ h. cc
    ] h

deep_placed : (n : List ℕ) (t : DocTree) (r : Result DocTree EditFault) → r ≢ Err fault.Deep
    → placed n t r ≢ Err fault.Deep
deep_placed n t (Ok d) low h = cc
deep_placed n t (Err e) low h = low h

deep_edited : (edit : DocTree → Result DocTree EditFault)
    → ((t : DocTree) → edit t ≢ Err fault.Deep) → (r : Result DocTree EditFault)
    → r ≢ Err fault.Deep → edited edit r ≢ Err fault.Deep
deep_edited edit low (Ok d) was = low d
deep_edited edit low (Err e) was = was

deep_along : (make : DocTree → DocTree) (path : List (List ℕ)) (t : DocTree)
    → edit_along make path t ≢ Err fault.Deep
deep_along make [] t h = cc
deep_along make (n ∷ path) t h =
    deep_placed n t (edited (edit_along make path) (start n t))
    (deep_edited (edit_along make path) (deep_along make path) (start n t)
    (deep_begun t.kids (child n t.kids))) h

shallow_from : (r : Result DocTree EditFault) → r ≢ Err fault.Deep
    → ((t : DocTree) → r ≡ Ok t → height t ≤ 8) → edited within_limits r ≢ Err fault.Deep
shallow_from (Ok t) early low = low_edit t (low t refl)
shallow_from (Err e) early low = early

pub set_text_shallow : SetTextIsShallow
set_text_shallow path text t short low =
    shallow_from (edit_along (with_text text) path t) (deep_along (with_text text) path t)
    (λ u e. omega (
      arith,
      short,
      low,
      height_along (with_text text) 0 (λ x. omega arith) path t u e,
    ))

pub path_short : (path : List (List ℕ)) → is_path path ≡ true → length path ≤ 8
path_short path is =
    let parts = and_parts (nat_le 1 (length path) && nat_le (length path) 8) (are_names path) is in
    let two = and_parts (nat_le 1 (length path)) (nat_le (length path) 8) parts.0 in
    let most : nat_le (length path) 8 ≡ true = two.1 in
    grind (arith, nat_tests)

-- the two numbers that a tree keeps are exact where the tree is lawful
pub exact_count : (t : DocTree) (k : ℕ) → k ≡ as_u64 (count t) → IsLawful t → k ≡ count t
exact_count t k is lawful = let few = lawful.few in omega (arith, is, few)

pub exact_height : (t : DocTree) (k : ℕ) → k ≡ as_u32 (height t) → IsLawful t → k ≡ height t
exact_height t k is lawful = let low = lawful.low in omega (arith, is, low)

-- the laws in the words of the calls
pub lawful_made : (t : DocTree) → t ≡ empty → IsLawful t
lawful_made t is = subst IsLawful (sym is) lawful_empty

pub lawful_node : (found : Option DocTree) (path : List (List ℕ)) (t : DocTree)
    → found ≡ node path t → IsLawful t → ForSome found IsLawful
lawful_node found path t is lawful = λ d e. node_lawful path t d lawful cc

lawful_given : (r wanted : Result DocTree EditFault) → Gives r wanted
    → ((u : DocTree) → wanted ≡ Ok u → IsLawful u) → ForOk r IsLawful
lawful_given (Ok t) wanted is all = λ u e. all u cc
lawful_given (Err f) wanted is all = λ u e. cc

pub lawful_set_text : (r : Result DocTree EditFault) (path : List (List ℕ)) (text : List ℕ)
    (t : DocTree) → Gives r (set_text path text t) → IsLawful t → ForOk r IsLawful
lawful_set_text r path text t is lawful =
    lawful_given r (set_text path text t) is (λ u e. set_text_lawful path text t u lawful e)

pub lawful_attach : (r : Result DocTree EditFault) (path : List (List ℕ)) (sub t : DocTree)
    → Gives r (attach path sub t) → IsLawful sub → IsLawful t → ForOk r IsLawful
lawful_attach r path sub t is inside lawful =
    lawful_given r (attach path sub t) is (λ u e. attach_lawful path sub t u inside lawful e)

pub lawful_delete : (r : Result DocTree EditFault) (path : List (List ℕ)) (t : DocTree)
    → Gives r (delete path t) → IsLawful t → ForOk r IsLawful
lawful_delete r path t is lawful =
    lawful_given r (delete path t) is (λ u e. delete_lawful path t u lawful e)

deep_given : (r wanted : Result DocTree EditFault) → Gives r wanted → r ≡ Err fault.Deep
    → wanted ≡ Err fault.Deep
deep_given (Ok t) wanted is h = cc
deep_given (Err fault.Absent) wanted is h = cc
deep_given (Err fault.Many) wanted is h = cc
deep_given (Err fault.Deep) wanted is h = is
deep_given (Err fault.Big) wanted is h = cc
deep_given (Err fault.NoMemory) wanted is h = cc

pub shallow_set_text : (r : Result DocTree EditFault) (path : List (List ℕ)) (text : List ℕ)
    (t : DocTree) → Gives r (set_text path text t) → IsTrue (is_path path) → IsLawful t
    → r ≢ Err fault.Deep
shallow_set_text r path text t is short lawful = λ h.
    set_text_shallow path text t (path_short path short) lawful.low
    (deep_given r (set_text path text t) is h)
