-- Edits step by step, in the words of doc_tree's definitions.
use Rattle.std.proofs.Common.{◌≡◌, ℕ, ◌+◌, ◌<◌, ◌≤◌, refl, sym, ap, subst}
use Rattle.std.proofs.Common.{List, [], ◌∷◌, length, Option, None, Some, Ok, Err, true}
use Rattle.std.proofs.Common.{arith, ◌-◌, take, drop, get_or, take_all}
use Rattle.std.specs.Option.{ForSome, option_map}
use Rattle.std.proofs.lemmas.Bool.Decides.{nat_tests}
use Rattle.cell_words.specs.Term.{Term, null, num, five}
use Rattle.doc_tree.specs.declared.tree.TheConstants.Tree.{MOST_CHILDREN}
use Rattle.doc_tree.specs.declared.edit.EditFault.{EditFault}
use Rattle.doc_tree.specs.declared.edit.EditFault.TheVariants as fault
use Rattle.doc_tree.specs.Edits.{begun, start, with_child, with_text, edit_along, within_limits}
use Rattle.doc_tree.specs.Tree.{DocTree, child, empty, kid_count, count, height}
use Rattle.doc_tree.specs.Words.{is_text}
use Rattle.doc_tree.proofs.Sizes.{put_height, nodes_put}
use Rattle.doc_records.specs.Pool.{Shown, Later}
use Rattle.doc_records.specs.Texts.{SpellsText}
use Rattle.doc_records.specs.Trees.{IsNodeAt, IsTreeNode, Spells, tree_of}
use Rattle.doc_records.proofs.Makings.{is_text_made}
use Rattle.doc_records.proofs.Spelled.{text_spelled, text_bytes}
use Rattle.doc_edits.specs.declared.edits.End.{End}
use Rattle.doc_edits.specs.declared.edits.End.TheVariants as ends
use Rattle.doc_edits.specs.Ends.{made_at, StandsAtEnd}
use Rattle.doc_edits.specs.Tops.{IsTop, IsWithin, tree_under}
use Rattle.doc_edits.proofs.Makings.{top_few, top_low}

-- a text that is put
pub text_few : (bytes : List ℕ) → is_text bytes ≡ true → length bytes ≤ 4096
text_few bytes text = grind (arith, nat_tests, text)

pub text_node : (t u : Term) (bytes text : List ℕ) → bytes ≡ text → SpellsText u bytes
    → is_text text ≡ true → t ≡ five u null (num 1) (num 0) null → Spells t (with_text text empty)
text_node t u bytes text same spelled is made =
    let spells = subst (SpellsText u) same spelled in
    rw made (record {
      node = record {
        text = is_text_made u text spells is;
        entries = tt;
        rising = tt;
        count = refl;
        height = refl;
        last = refl;
      };
      tree = rw (text_spelled u text spells (text_bytes text is)) refl;
    })

-- the child that an edit goes on in
pub begun_there : (n : List ℕ) (t d : DocTree) → Some d ≡ child n t.kids → Ok d ≡ start n t
begun_there n t d there = rw (sym there) refl

pub begun_new : (n : List ℕ) (t : DocTree) → None ≡ child n t.kids
    → kid_count t.kids < MOST_CHILDREN
    → Ok empty ≡ start n t
begun_new n t none room = rw (sym none) (grind (arith, nat_tests, room))

pub begun_many : (n : List ℕ) (t : DocTree) → None ≡ child n t.kids
    → MOST_CHILDREN ≤ kid_count t.kids
    → Err fault.Many ≡ start n t
begun_many n t none full = rw (sym none) (grind (arith, nat_tests, full))

-- one step down and back
step_done : (make again : DocTree → DocTree) (n : List ℕ) (path : List (List ℕ))
    (t s d e u : DocTree) → Ok d ≡ start n t → again ≡ make → Ok e ≡ edit_along again path d
    → s ≡ t → u ≡ with_child n e s → Ok u ≡ edit_along make (n ∷ path) t
step_done make again n path t s d e u begun same along kept made =
    let went : Ok e ≡ edit_along make path d =
    subst (λ m. Ok e ≡ edit_along m path d) same along in
    rw (made, kept, sym begun, sym went) refl

step_below : (make again : DocTree → DocTree) (n : List ℕ) (path : List (List ℕ))
    (t d : DocTree) (f : EditFault) → Ok d ≡ start n t → again ≡ make
    → Err f ≡ edit_along again path d → Err f ≡ edit_along make (n ∷ path) t
step_below make again n path t d f begun same along =
    let went : Err f ≡ edit_along make path d =
    subst (λ m. Err f ≡ edit_along m path d) same along in
    rw (sym begun, sym went) refl

-- .. where the names are a slice, of which the first was taken
pub rest_all : (n : List ℕ) (names : List (List ℕ)) → take (length (n ∷ names) - 1) names ≡ names
rest_all n names = take_all (length (n ∷ names) - 1) names (omega arith)

pub rest_less : (names : List (List ℕ)) → 1 ≤ length names
    → length names ≡ length (take (length names - 1) (drop 1 names)) + 1
rest_less [] some = absurd (omega (arith, some))
rest_less (n ∷ names) some = omega (arith, ap length (rest_all n names))

pub along_done : (make again : DocTree → DocTree) (names : List (List ℕ)) (n : List ℕ)
    (t s d e u : DocTree) → 1 ≤ length names → n ≡ get_or names 0 n → Ok d ≡ start n t
    → again ≡ make → Ok e ≡ edit_along again (take (length names - 1) (drop 1 names)) d
    → s ≡ t → u ≡ with_child n e s → Ok u ≡ edit_along make names t
along_done make again [] n t s d e u some first begun same along kept made =
    absurd (omega (arith, some))
along_done make again (m ∷ names) n t s d e u some first begun same along kept made =
    let below : Ok e ≡ edit_along again names d =
    subst (λ path. Ok e ≡ edit_along again path d) (rest_all m names) along in
    subst (λ k. Ok u ≡ edit_along make (k ∷ names) t) first
    (step_done make again n names t s d e u begun same below kept made)

pub along_below : (make again : DocTree → DocTree) (names : List (List ℕ)) (n : List ℕ)
    (t d : DocTree) (f : EditFault) → 1 ≤ length names → n ≡ get_or names 0 n → Ok d ≡ start n t
    → again ≡ make → Err f ≡ edit_along again (take (length names - 1) (drop 1 names)) d
    → Err f ≡ edit_along make names t
along_below make again [] n t d f some first begun same along = absurd (omega (arith, some))
along_below make again (m ∷ names) n t d f some first begun same along =
    let below : Err f ≡ edit_along again names d =
    subst (λ path. Err f ≡ edit_along again path d) (rest_all m names) along in
    subst (λ k. Err f ≡ edit_along make (k ∷ names) t) first
    (step_below make again n names t d f begun same below)

-- .. and a step that was refused
pub along_stop : (make : DocTree → DocTree) (names : List (List ℕ)) (n : List ℕ) (t : DocTree)
    (f : EditFault) → 1 ≤ length names → n ≡ get_or names 0 n → Err f ≡ start n t
    → Err f ≡ edit_along make names t
along_stop make [] n t f some first begun = absurd (omega (arith, some))
along_stop make (m ∷ names) n t f some first begun =
    subst (λ k. Err f ≡ edit_along make (k ∷ names) t) first (rw (sym begun) refl)

-- where an edit goes on in none there is room for a child
pub begun_room : (n : List ℕ) (t d : DocTree) → Ok d ≡ start n t → child n t.kids ≡ None
    → kid_count t.kids < MOST_CHILDREN
begun_room n t d begun none =
    let full : MOST_CHILDREN ≤ kid_count t.kids → ⊥ =
    λ many. cc (begun_many n t (sym none) many, begun) in
    omega (arith, full)

-- what a call leaves of an end and of a node, or none
pub made_same : {At F : Type 0} (s t : Shown At F) (end : End At) → Later s t → StandsAtEnd s end
    → made_at t end ≡ made_at s end
made_same s t (ends.Text text) later stands = refl
made_same s t (ends.Node a) later stands =
    let make : Term → DocTree → DocTree = λ u d. tree_of u in ap make (later.same a stands.stands)

pub top_still : {At F : Type 0} (s t : Shown At F) (o : Option At) → Later s t → IsTop s o
    → IsTop t o
top_still s t None later top = tt
top_still s t (Some a) later top = record {
  stands = later.now a top.stands;
  node = subst IsTreeNode (sym (later.same a top.stands)) top.node;
}

pub end_still : {At F : Type 0} (s t : Shown At F) (end : End At) → Later s t → StandsAtEnd s end
    → StandsAtEnd t end
end_still s t (ends.Text text) later stands = tt
end_still s t (ends.Node a) later stands = top_still s t (Some a) later stands

pub top_same : {At F : Type 0} (s t : Shown At F) (o : Option At) → Later s t → IsTop s o
    → tree_under t o ≡ tree_under s o
top_same s t None later top = refl
top_same s t (Some a) later top = ap tree_of (later.same a top.stands)

-- .. and of the child in which the edit goes on
pub top_nodes : {At F : Type 0} (s : Shown At F) (o : Option At) → IsTop s o
    → ForSome o (IsNodeAt s)
top_nodes s None top = λ a e. cc
top_nodes s (Some b) top = λ a e.
    let same : b ≡ a = cc in
    subst (IsNodeAt s) same (record { stands = top.stands; node = top.node.node })

pub child_same : {At F : Type 0} (s t : Shown At F) (o : Option At) → Later s t → IsTop s o
    → option_map (λ a. tree_of (t.term a)) o ≡ option_map (λ a. tree_of (s.term a)) o
child_same s t None later top = refl
child_same s t (Some a) later top = ap (λ u. Some (tree_of u)) (later.same a top.stands)

-- how large the tree is then
pub within_step : {At F : Type 0} (s : Shown At F) (o : Option At) (n : List ℕ) (d : DocTree)
    (k m : ℕ)
    → IsTop s o → IsWithin k d → m ≡ k + 1 → IsWithin m (with_child n d (tree_under s o))
within_step s o n d k m top is more =
    let few = top_few s o top in
    let low = top_low s o top in
    let kids = (tree_under s o).kids in
    record {
      few = omega (arith, few, is.few, more, nodes_put n d kids);
      low = omega (arith, low, is.low, more, put_height n d kids);
    }

pub within_made : {At F : Type 0} (s : Shown At F) (o : Option At) (end : End At) (k : ℕ)
    → IsTop s o → StandsAtEnd s end → IsWithin k (made_at s end (tree_under s o))
within_made s o (ends.Text text) k top stands = record {
  few = omega (arith, top_few s o top);
  low = omega (arith, top_low s o top);
}
within_made s o (ends.Node a) k top stands = record {
  few = omega (arith, stands.node.lawful.few);
  low = omega (arith, stands.node.lawful.low);
}

-- the limits, one after the other
pub limit_deep : (t : DocTree) → 8 < height t → Err fault.Deep ≡ within_limits t
limit_deep t high = grind (arith, nat_tests, high)

pub limit_big : (t : DocTree) → height t ≤ 8 → 1_000_000_000 < count t
    → Err fault.Big ≡ within_limits t
limit_big t low many = grind (arith, nat_tests, low, many)

pub limit_none : (t : DocTree) → height t ≤ 8 → count t ≤ 1_000_000_000 → Ok t ≡ within_limits t
limit_none t low few = grind (arith, nat_tests, low, few)

pub ruleset limits = (limit_deep, limit_big, limit_none)
