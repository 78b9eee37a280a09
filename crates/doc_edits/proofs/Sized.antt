-- The children of a node, entry by entry, and the sizes that they have.
use Rattle.std.proofs.Common.{◌≡◌, ℕ, ◌+◌, ◌≤◌, max, ap, ◌∙◌, arith}
use Rattle.cell_words.specs.Term.{Term, null, num, five, part, number, IsFive}
use Rattle.doc_tree.specs.Tree.{kid, kid_count, count, height, height_below}
use Rattle.doc_tree.proofs.Joined.{height_join}
use Rattle.kids_avl.specs.Entries.{kids_of}
use Rattle.doc_records.specs.declared.pool.Part.{Part}
use Rattle.doc_records.specs.declared.pool.Part.TheVariants as parts
use Rattle.doc_records.specs.Pool.{places_of}
use Rattle.doc_records.specs.Shapes.{IsNum}
use Rattle.doc_records.specs.Texts.{text_of}
use Rattle.doc_records.specs.Trees.{IsNode, entries_of, tree_of}
use Rattle.doc_records.proofs.Rows.{entry_count, entry_left, entry_right}
use Rattle.doc_records.proofs.Spellings.{node_count, node_height}

-- the numbers of a node
pub num_nodes : (t : Term) → IsNode t → IsNum (part 2 t)
num_nodes t is = rw (node_count t is) tt

pub num_levels : (t : Term) → IsNode t → IsNum (part 3 t)
num_levels t is = rw (node_height t is) tt

pub own_nodes : (t : Term) → IsNode t → number (part 2 t) ≡ count (tree_of t)
own_nodes t is = ap number (node_count t is)

pub own_levels : (t : Term) → IsNode t → number (part 3 t) ≡ height (tree_of t)
own_levels t is = ap number (node_height t is)

pub ruleset child_fields = (num_nodes, num_levels, own_nodes, own_levels)

-- the levels of entries
pub entry_high : (t : Term) → IsFive t
    → height_below (kids_of (entries_of t)) ≡ max (height_below (kids_of (entries_of (part 2 t))))
    (max (height (tree_of (part 1 t)) + 1) (height_below (kids_of (entries_of (part 3 t)))))
entry_high null this = absurd this
entry_high (num n) this = absurd this
entry_high (five a b c d e) this =
    height_join (kids_of (entries_of c)) (kid (text_of a) (tree_of b).text (tree_of b).kids
    (kids_of (entries_of d)))

pub ruleset sized = (entry_count, entry_left, entry_right, entry_high)

pub place_one : {A : Type 0} (p : Part A) → places_of p ≤ 1
place_one parts.Null = omega arith
place_one (parts.Num n) = omega arith
place_one (parts.Record a) = omega arith

-- the levels and the number of the entries on a side that was read
pub side_high : (r u t : Term) (i : ℕ) → r ≡ part i u → u ≡ t
    → height_below (kids_of (entries_of r)) ≡ height_below (kids_of (entries_of (part i t)))
side_high r u t i right same =
    ap (λ (x : Term). height_below (kids_of (entries_of x))) (right ∙ ap (part i) same)

pub side_count : (r u t : Term) (i : ℕ) → r ≡ part i u → u ≡ t
    → kid_count (kids_of (entries_of r)) ≡ kid_count (kids_of (entries_of (part i t)))
side_count r u t i right same =
    ap (λ (x : Term). kid_count (kids_of (entries_of x))) (right ∙ ap (part i) same)
