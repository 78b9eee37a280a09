use Rattle.std.proofs.Common.{◌≡◌, ◌∙◌, ◌-◌, ◌≤◌, List, [], ◌∷◌, ℕ, Ok, Some, ap, arith, drop}
use Rattle.std.proofs.Common.{get_or, length, refl, subst, sym, take, take_all}
use Rattle.std.specs.Option.{option_copied}
use Rattle.std.specs.declared.rc.Rc.{Rc}
use Rattle.std.specs.declared.alloc.Global.{Global}
use Rattle.std.proofs.lemmas.Bool.{eqb-false, eqb-true}
use Rattle.doc_tree.specs.declared.chunk.Chunk.{Chunk}
use Rattle.doc_tree.specs.Chunks.{kids_of}
use Rattle.doc_tree.specs.Edits.{delete, deleted, with_child, without_child}
use Rattle.doc_tree.specs.Tree.{DocTree, child as child_of_name}
use Rattle.doc_tree.proofs.tree.Tree.+delete_along.Goals as goal

rest_all : (n : List ℕ) (names : List (List ℕ)) → take (length (n ∷ names) - 1) names ≡ names
rest_all n names = take_all (length (n ∷ names) - 1) names (omega arith)

-- a path of one name, where that child is there
delete_one : (names : List (List ℕ)) (n : List ℕ) (t d u : DocTree) → 1 ≤ length names
    → n ≡ get_or names 0 n → length (take (length names - 1) (drop 1 names)) ≡ 0
    → Some d ≡ child_of_name n t.kids → u ≡ without_child n t → delete names t ≡ Ok u
delete_one [] n t d u some first none there made = absurd (omega (arith, some))
delete_one (m ∷ []) n t d u some first none there made =
    subst (λ k. deleted k t (child_of_name k t.kids) ≡ Ok u) first (rw (sym there, made) refl)
delete_one (m ∷ k ∷ path) n t d u some first none there made =
    absurd (omega (arith, none, ap length (rest_all m (k ∷ path))))

-- a longer one
delete_on : (names : List (List ℕ)) (n : List ℕ) (t d e u : DocTree) → 1 ≤ length names
    → n ≡ get_or names 0 n → (length (take (length names - 1) (drop 1 names)) ≡ 0 → ⊥)
    → Some d ≡ child_of_name n t.kids
    → delete (take (length names - 1) (drop 1 names)) d ≡ Ok e → u ≡ with_child n e t
    → delete names t ≡ Ok u
delete_on [] n t d e u some first more there below made = absurd (omega (arith, some))
delete_on (m ∷ []) n t d e u some first more there below made = absurd (more refl)
delete_on (m ∷ k ∷ path) n t d e u some first more there below made =
    let went : delete (k ∷ path) d ≡ Ok e =
    subst (λ p. delete p d ≡ Ok e) (rest_all m (k ∷ path)) below in
    subst (λ j. delete (j ∷ k ∷ path) t ≡ Ok u) first (rw (made, sym there, went) refl)

pub returns : goal.returns
returns t c =
    let n = c.name-item.result in
    let there : Some c.in-Some.tree.now ≡ child_of_name n c.args.self.now.kids =
    sym (ap option_copied c.in-Some.is) ∙ c.find_child.ensures.child
    ∙ ap (λ (cs : List (Rc Chunk Global)). child_of_name n (kids_of cs)) c.deref.ensures.value
    ∙ ap (λ (t : DocTree). child_of_name n t.kids) c.self.view_is in
    delete_on c.args.names.now n c.args.self.now c.in-Some.tree.now c.in_ok-edited.edited
    c.in_ok-put_kid.field-0 c.in-len1-up.len_at_least c.name-item.is
    (eqb-false _ _ (sym c.is_empty.ensures ∙ c.if-is_empty.false)) there c.in_ok-edited.ensures
    (c.in_ok-put_kid.ensures ∙ ap (with_child n c.in_ok-edited.edited) c.self.view_is)

pub returns-then-is_empty : goal.returns-then-is_empty
returns-then-is_empty t c =
    let n = c.name-item.result in
    let there : Some c.in-Some.tree.now ≡ child_of_name n c.args.self.now.kids =
    sym (ap option_copied c.in-Some.is) ∙ c.find_child.ensures.child
    ∙ ap (λ (cs : List (Rc Chunk Global)). child_of_name n (kids_of cs)) c.deref.ensures.value
    ∙ ap (λ (t : DocTree). child_of_name n t.kids) c.self.view_is in
    delete_one c.args.names.now n c.args.self.now c.in-Some.tree.now
    c.in_ok-without_child.field-0 c.in-len1-up.len_at_least c.name-item.is
    (eqb-true _ _ (sym c.is_empty.ensures ∙ c.if-is_empty.true)) there
    c.in_ok-without_child.ensures

pub find_child-requires-clause-chunks : goal.find_child-requires-clause-chunks
find_child-requires-clause-chunks t c = rw c.deref.ensures.value c.self.invariant.chunks

pub find_child-requires-clause-rising : goal.find_child-requires-clause-rising
find_child-requires-clause-rising t c = rw c.deref.ensures.value c.self.invariant.rising

pub put_kid-requires-clause-chunks : goal.put_kid-requires-clause-chunks
put_kid-requires-clause-chunks t c = c.self.invariant.chunks

pub put_kid-requires-clause-rising : goal.put_kid-requires-clause-rising
put_kid-requires-clause-rising t c = c.self.invariant.rising

pub put_kid-requires-clause-few : goal.put_kid-requires-clause-few
put_kid-requires-clause-few t c = c.self.invariant.few

pub put_kid-requires-clause-place : goal.put_kid-requires-clause-place
put_kid-requires-clause-place t c = rw c.deref.ensures.value at c.find_child.ensures.place

pub put_kid-requires-clause-room : goal.put_kid-requires-clause-room
put_kid-requires-clause-room t c =
    let n = c.name-item.result in
    let there : Some c.in-Some.tree.now ≡ child_of_name n (kids_of c.self.inside.kids.items) =
    sym (ap option_copied c.in-Some.is) ∙ c.find_child.ensures.child
    ∙ ap (λ (cs : List (Rc Chunk Global)). child_of_name n (kids_of cs)) c.deref.ensures.value in
    λ none. absurd (cc (there ∙ none))
