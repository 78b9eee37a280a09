-- Nodes that are made from a text and children, and how large they can be.
use Rattle.std.proofs.Common.{◌≡◌, ℕ, ◌+◌, ◌≤◌, refl, sym, ap, subst, ◌∙◌, arith}
use Rattle.std.proofs.Common.{List, Option, None, Some}
use Rattle.cell_words.specs.Term.{Term, null, num, five, part}
use Rattle.doc_tree.specs.declared.tree.TheConstants.Tree.{MOST_CHILDREN}
use Rattle.doc_tree.specs.Edits.{delete_child, with_child, without_child}
use Rattle.doc_tree.specs.Tree.{DocTree, Kids, count, height_below, put_child}
use Rattle.doc_tree.specs.Tree.{nodes_below, IsRising, kid_count}
use Rattle.doc_tree.proofs.Sizes.{put_height}
use Rattle.kids_avl.specs.Entries.{kids_of}
use Rattle.doc_records.specs.declared.pool.Part.{Part}
use Rattle.doc_records.specs.declared.pool.Part.TheVariants as parts
use Rattle.doc_records.specs.Pool.{Shown, Stands, part_term}
use Rattle.doc_records.specs.Texts.{IsText, text_of}
use Rattle.doc_records.specs.Trees.{IsNode, IsTreeNode, AreEntries, entries_of, tree_of}
use Rattle.doc_records.proofs.Rows.{node_entries, node_kids, node_few, node_rising}
use Rattle.doc_records.proofs.Spellings.{node_text}
use Rattle.doc_edits.specs.Tops.{IsRowAt, IsTop, tree_under}

-- no text
pub no_text : (t : Term) → t ≡ null → IsText t
no_text t is = rw is (record { spells = refl; text = refl })

-- the children of a node as a row
pub row_opened : {At F : Type 0} (s : Shown At F) (p : Part At) (t : Term) → IsTreeNode t
    → part_term s.term p ≡ part 1 t → Stands s p → IsRowAt s p
row_opened s p t is same stands = record {
  stands = stands;
  entries = subst AreEntries (sym same) (node_entries t is.node);
  rising = subst (λ u. IsRising (kids_of (entries_of u))) (sym same) (node_rising t is);
  few = subst (λ u. kid_count (kids_of (entries_of u)) ≤ MOST_CHILDREN) (sym same) (node_few t is);
}

pub row_none : {At F : Type 0} (s : Shown At F) → IsRowAt s parts.Null
row_none s = record { stands = tt; entries = tt; rising = tt; few = omega arith }

pub kids_opened : (u t : Term) → IsTreeNode t → u ≡ part 1 t
    → kids_of (entries_of u) ≡ (tree_of t).kids
kids_opened u t is same =
    ap (λ x. kids_of (entries_of x)) same ∙ sym (node_kids t is.node)

pub text_opened : (u t : Term) → IsTreeNode t → u ≡ part 0 t → IsText u
text_opened u t is same = subst IsText (sym same) (node_text t is.node)

pub ruleset opened = (no_text, row_opened, row_none, kids_opened, text_opened)

-- a new node
pub node_made : (t a b : Term) (k h : ℕ) → t ≡ five a b (num k) (num h) null → IsText a
    → AreEntries b → IsRising (kids_of (entries_of b))
    → k ≡ nodes_below (kids_of (entries_of b)) + 1 → h ≡ height_below (kids_of (entries_of b))
    → IsNode t
node_made t a b k h made text entries rising nodes levels =
    rw made (record {
      text = text;
      entries = entries;
      rising = rising;
      count = ap num nodes;
      height = ap num levels;
      last = refl;
    })

pub node_tree : (t a b c d : Term) → t ≡ five a b c d null
    → tree_of t ≡ record { text = text_of a; kids = kids_of (entries_of b) }
node_tree t a b c d made = rw made refl

pub ruleset made = (node_made, node_tree)

-- how large a node is, and how high with one more child
pub top_few : {At F : Type 0} (s : Shown At F) (o : Option At) → IsTop s o
    → count (tree_under s o) ≤ 1_000_000_000
top_few s None is = omega arith
top_few s (Some a) is = is.node.lawful.few

pub top_low : {At F : Type 0} (s : Shown At F) (o : Option At) → IsTop s o
    → height_below (tree_under s o).kids ≤ 8
top_low s None is = omega arith
top_low s (Some a) is = is.node.lawful.low

pub ruleset with_low = (put_height, top_low)

-- the node with a child that was put, and without one
pub put_made : (u t d : DocTree) (n text : List ℕ) (row : Kids)
    → u ≡ record { text = text; kids = row } → text ≡ t.text → row ≡ put_child n d t.kids
    → u ≡ with_child n d t
put_made u t d n text row made own kids = rw (made, own, kids) refl

pub delete_made : (u t : DocTree) (n text : List ℕ) (row : Kids)
    → u ≡ record { text = text; kids = row } → text ≡ t.text → row ≡ delete_child n t.kids
    → u ≡ without_child n t
delete_made u t n text row made own kids = rw (made, own, kids) refl
