use Rattle.std.proofs.Common.{◌≡◌, ◌∙◌, ◌-◌, ◌≤◌, List, [], ◌∷◌, length, take, drop, get_or}
use Rattle.std.proofs.Common.{Err, Ok, Some, ap, arith, refl, rules, subst, sym, ℕ, tests}
use Rattle.std.proofs.lemmas.Bool.{eqb-false, eqb-true}
use Rattle.cell_words.specs.Term.{Term}
use Rattle.doc_tree.specs.declared.edit.EditFault.{EditFault}
use Rattle.doc_tree.specs.Edits.{delete, deleted, with_child, without_child}
use Rattle.doc_tree.specs.Tree.{DocTree, child as child_of_name}
use Rattle.doc_records.specs.Trees.{tree_of}
use Rattle.doc_edits.proofs.Along.{child_same, rest_all, rest_less, top_nodes, top_same, top_still}
use Rattle.doc_edits.proofs.Lawful.{deleted_few, deleted_low, tree_child}
use Rattle.doc_edits.proofs.Standing.{later_then, ok_node}
use Rattle.doc_edits.proofs.removals.+delete_along.Goals as goal

-- a path of one name, where that child is there
delete_one : (names : List (List ℕ)) (n : List ℕ) (t d : DocTree) → 1 ≤ length names
    → n ≡ get_or names 0 n → length (take (length names - 1) (drop 1 names)) ≡ 0
    → Some d ≡ child_of_name n t.kids → Ok (without_child n t) ≡ delete names t
delete_one [] n t d some first none there = absurd (omega (arith, some))
delete_one (m ∷ []) n t d some first none there =
    subst (λ k. Ok (without_child n t) ≡ deleted k t (child_of_name k t.kids)) first
    (rw (sym there) refl)
delete_one (m ∷ k ∷ path) n t d some first none there =
    absurd (omega (arith, none, rest_less (m ∷ k ∷ path) some))

-- a longer one
delete_on : (names : List (List ℕ)) (n : List ℕ) (t s d e u : DocTree) → 1 ≤ length names
    → n ≡ get_or names 0 n → (length (take (length names - 1) (drop 1 names)) ≡ 0 → ⊥)
    → Some d ≡ child_of_name n t.kids
    → Ok e ≡ delete (take (length names - 1) (drop 1 names)) d → s ≡ t → u ≡ with_child n e s
    → Ok u ≡ delete names t
delete_on [] n t s d e u some first more there below kept made = absurd (omega (arith, some))
delete_on (m ∷ []) n t s d e u some first more there below kept made = absurd (more refl)
delete_on (m ∷ k ∷ path) n t s d e u some first more there below kept made =
    let went : Ok e ≡ delete (k ∷ path) d =
    subst (λ p. Ok e ≡ delete p d) (rest_all m (k ∷ path)) below in
    subst (λ j. Ok u ≡ delete (j ∷ k ∷ path) t) first
    (rw (made, kept, sym there, sym went) refl)

delete_off : (names : List (List ℕ)) (n : List ℕ) (t d : DocTree) (f : EditFault)
    → 1 ≤ length names → n ≡ get_or names 0 n
    → (length (take (length names - 1) (drop 1 names)) ≡ 0 → ⊥) → Some d ≡ child_of_name n t.kids
    → Err f ≡ delete (take (length names - 1) (drop 1 names)) d → Err f ≡ delete names t
delete_off [] n t d f some first more there below = absurd (omega (arith, some))
delete_off (m ∷ []) n t d f some first more there below = absurd (more refl)
delete_off (m ∷ k ∷ path) n t d f some first more there below =
    let went : Err f ≡ delete (k ∷ path) d =
    subst (λ p. Err f ≡ delete p d) (rest_all m (k ∷ path)) below in
    subst (λ j. Err f ≡ delete (j ∷ k ∷ path) t) first (rw (sym there, sym went) refl)

pub delete_along-requires : goal.delete_along-requires
delete_along-requires g t c κs within =
    let s = g.R.RecordPool.shown c.find_child.new.records in
    let child = c.in-Some.child in
    let found =
    tree_child s _ _ child c.requires.root.node.lawful (c.in-Some.ensures.stands child refl)
    c.in-Some.ensures.child in
    let less = rest_less c.args.names.now c.in-len1-up.len_at_least in (
      omega (arith, less),
      (
        search rules,
        (
          search rules,
          (
            found,
            (
              omega (
                arith,
                less,
                c.requires.places,
                c.find_child.ensures.held,
                c.find_child.ensures.later.room,
              ),
              omega (arith, less, c.requires.records, c.find_child.ensures.records),
            ),
          ),
        ),
      ),
    )

pub with_child-requires : goal.with_child-requires
with_child-requires g t c =
    let s = g.R.RecordPool.shown c.find_child.new.records in
    let child = c.in-Some.child in
    let s1 = g.R.RecordPool.shown c.find_child.new.records in
    let s2 = g.R.RecordPool.shown c.delete_along.new.records in
    let found =
    tree_child s1 _ _ child c.requires.root.node.lawful (c.in-Some.ensures.stands child refl)
    c.in-Some.ensures.child in
    let s0 = g.R.RecordPool.shown c.args.records.now in
    let first = c.find_child.ensures.later in
    let second = c.delete_along.ensures.later in
    let kept = top_same s1 s2 (Some c.args.at) second
    (top_still s0 s1 (Some c.args.at) first c.requires.root)
    ∙ top_same s0 s1 (Some c.args.at) first c.requires.root in
    let there = child_same s1 s2 (Some child) second found ∙ c.in-Some.ensures.child
    ∙ ap (λ (u : DocTree). child_of_name c.name-item.result u.kids) (sym kept) in
    record {
      top = top_still s1 s2 (Some c.args.at) c.delete_along.ensures.later
          (top_still _ s1 (Some c.args.at) c.find_child.ensures.later c.requires.root);
      was = top_nodes _ (Some child)
          (top_still s1 _ (Some child) c.delete_along.ensures.later found);
      there = there;
      child = c.in_ok-edited.ensures.node c.in_ok-edited.edited refl;
      few =
          let found =
          tree_child s _ _ child c.requires.root.node.lawful (c.in-Some.ensures.stands child refl)
          c.in-Some.ensures.child in
          deleted_few _ _ _ c.in_ok-edited.ensures.tree found.node.lawful;
      low =
          let found =
          tree_child s _ _ child c.requires.root.node.lawful (c.in-Some.ensures.stands child refl)
          c.in-Some.ensures.child in
          deleted_low _ _ _ c.in_ok-edited.ensures.tree found.node.lawful;
      room = λ none. absurd (cc (there ∙ none));
      places = omega (
        arith,
        rest_less c.args.names.now c.in-len1-up.len_at_least,
        c.requires.places,
        c.find_child.ensures.held,
        c.find_child.ensures.later.room,
        c.delete_along.ensures.held,
        c.delete_along.ensures.later.room,
      );
      records = omega (
        arith,
        rest_less c.args.names.now c.in-len1-up.len_at_least,
        c.requires.records,
        c.find_child.ensures.records,
        c.delete_along.ensures.records,
      );
    }

pub returns-then-is_empty : goal.returns-then-is_empty
returns-then-is_empty g t c =
    record {
      tree =
          let at = tree_of ((g.R.RecordPool.shown c.args.records.now).term c.args.at) in
          let one = delete_one c.args.names.now c.name-item.result at _ c.in-len1-up.len_at_least
          c.name-item.is (eqb-true _ _ (sym c.is_empty.ensures ∙ c.if-is_empty.true))
          c.in-Some.ensures.child in
          cc (one, c.find_child.ensures.later.same c.args.at c.requires.root.stands);
      node = ok_node _ _ _ refl c.without_child.ensures.node;
      later = later_then c.find_child.ensures.later c.without_child.ensures.later;
      held = omega (
        arith,
        c.in-len1-up.len_at_least,
        c.find_child.ensures.held,
        c.without_child.ensures.held,
      );
      records = omega (
        arith,
        c.in-len1-up.len_at_least,
        c.find_child.ensures.records,
        c.without_child.ensures.records,
      );
    }

pub find_child-requires-clause-places : goal.find_child-requires-clause-places
find_child-requires-clause-places g t c =
    omega (arith, c.in-len1-up.len_at_least, c.requires.places)

pub without_child-requires : goal.without_child-requires
without_child-requires g t c =
    record {
      node = top_still _ _ (Some c.args.at) c.find_child.ensures.later c.requires.root;
      was = c.in-Some.ensures.stands c.in-Some.child refl;
      there = c.in-Some.ensures.child
          ∙ ap (λ (u : Term). child_of_name c.name-item.result (tree_of u).kids)
          (sym (c.find_child.ensures.later.same c.args.at c.requires.root.stands));
      places = omega (
        arith,
        c.in-len1-up.len_at_least,
        c.requires.places,
        c.find_child.ensures.held,
        c.find_child.ensures.later.room,
      );
      records =
          omega (
            arith,
            c.in-len1-up.len_at_least,
            c.requires.records,
            c.find_child.ensures.records,
          );
    }

pub returns-in_err-edited : goal.returns-in_err-edited
returns-in_err-edited g t c =
    record {
      tree =
          let s0 = g.R.RecordPool.shown c.args.records.now in
          let s1 = g.R.RecordPool.shown c.find_child.new.records in
          let fault = c.in_err-edited.field-0.0 in
          let refused : Err fault ≡ delete c.args.names.now (tree_of (s0.term c.args.at)) =
          delete_off c.args.names.now c.name-item.result (tree_of (s0.term c.args.at))
          (tree_of (s1.term c.in-Some.child)) fault c.in-len1-up.len_at_least c.name-item.is
          (eqb-false _ _ (sym c.is_empty.ensures ∙ c.if-is_empty.false)) c.in-Some.ensures.child
          c.in_err-edited.ensures.tree in
          search (rules, refused);
      node = search (arith, rules, tests);
      later = later_then c.find_child.ensures.later c.delete_along.ensures.later;
      held = omega (
        arith,
        rest_less c.args.names.now c.in-len1-up.len_at_least,
        c.find_child.ensures.held,
        c.delete_along.ensures.held,
      );
      records = omega (
        arith,
        rest_less c.args.names.now c.in-len1-up.len_at_least,
        c.find_child.ensures.records,
        c.delete_along.ensures.records,
      );
    }

pub returns : goal.returns
returns g t c =
    record {
      tree =
          let s1 = g.R.RecordPool.shown c.find_child.new.records in
          let kept =
          top_same s1 _ (Some c.args.at) c.delete_along.ensures.later
          (top_still _ s1 (Some c.args.at) c.find_child.ensures.later c.requires.root)
          ∙ top_same _ s1 (Some c.args.at) c.find_child.ensures.later c.requires.root in
          delete_on c.args.names.now c.name-item.result _ _ (tree_of (s1.term c.in-Some.child)) _ _
          c.in-len1-up.len_at_least c.name-item.is
          (eqb-false _ _ (sym c.is_empty.ensures ∙ c.if-is_empty.false)) c.in-Some.ensures.child
          c.in_ok-edited.ensures.tree kept c.with_child.ensures.tree;
      node = ok_node _ _ _ refl c.with_child.ensures.node;
      later = later_then (later_then c.find_child.ensures.later c.delete_along.ensures.later)
          c.with_child.ensures.later;
      held = omega (
        arith,
        rest_less c.args.names.now c.in-len1-up.len_at_least,
        c.find_child.ensures.held,
        c.delete_along.ensures.held,
        c.with_child.ensures.held,
      );
      records = omega (
        arith,
        rest_less c.args.names.now c.in-len1-up.len_at_least,
        c.find_child.ensures.records,
        c.delete_along.ensures.records,
        c.with_child.ensures.records,
      );
    }
