-- Entries of few levels are few, and a node of few nodes has few children; and children that stand
-- still stand after a call.
use Rattle.std.proofs.Common.{◌≡◌, ℕ, zero, suc, ◌+◌, ◌<◌, ◌≤◌, refl, sym, ap, subst, arith}
use Rattle.cell_words.specs.Term.{Term, part, number, IsFive}
use Rattle.doc_tree.specs.declared.tree.TheConstants.Tree.{MOST_CHILDREN}
use Rattle.doc_tree.specs.Tree.{Kids, IsRising, no_kids, kid, kid_count, nodes_below}
use Rattle.doc_tree.proofs.Joined.{count_join}
use Rattle.kids_avl.specs.Entries.{Entries, no_entries, entry, height_of, kids_of}
use Rattle.doc_records.specs.declared.pool.Part.{Part}
use Rattle.doc_records.specs.declared.pool.Part.TheVariants as parts
use Rattle.doc_records.specs.Pool.{Later, Shown}
use Rattle.doc_records.specs.Trees.{AreEntries, IsNode, entries_of, tree_of}
use Rattle.doc_edits.specs.declared.bounds.TheConstants.{FEW_LEVELS, FEW_NODES}
use Rattle.doc_edits.specs.Tops.{IsRowAt, row_of}
use Rattle.doc_edits.proofs.Sized.{own_nodes}

-- as many entries as so many levels have room for, and one
abbrev most : ℕ → ℕ
most zero = 1
most (suc n) = most n + most n

few_under : (n : ℕ) (t : Entries) → height_of t ≤ n → kid_count (kids_of t) + 1 ≤ most n
few_under zero no_entries low = omega arith
few_under zero (entry m d l r) low = absurd (omega (arith, low))
few_under (suc n) no_entries low = omega (arith, few_under n no_entries (omega arith))
few_under (suc n) (entry m d l r) low =
    omega (
      arith,
      few_under n l (omega (arith, low)),
      few_under n r (omega (arith, low)),
      count_join (kids_of l) (kid m d.text d.kids (kids_of r)),
    )

pub few_low : (t : Entries) → height_of t ≤ FEW_LEVELS → kid_count (kids_of t) < MOST_CHILDREN
few_low t low = grind (arith, few_under 8 t low)

-- each child counts itself, so a node of few nodes has few children
kids_below : (kids : Kids) → kid_count kids ≤ nodes_below kids
kids_below no_kids = omega arith
kids_below (kid name text inside rest) = omega (arith, kids_below rest)

pub kids_few : (t : Term) → IsNode t → number (part 2 t) ≤ FEW_NODES
    → kid_count (tree_of t).kids < MOST_CHILDREN
kids_few t is few = omega (arith, few, own_nodes t is, kids_below (tree_of t).kids)

pub row_still : {At F : Type 0} (s t : Shown At F) (p : Part At) → Later s t → IsRowAt s p
    → IsRowAt t p
row_still s t parts.Null later row = record {
  stands = tt;
  entries = tt;
  rising = row.rising;
  few = row.few;
}
row_still s t (parts.Num n) later row = absurd row.entries
row_still s t (parts.Record a) later row =
    let same = sym (later.same a row.stands.0) in
    record {
      stands = (later.now a row.stands.0, subst IsFive same row.stands.1);
      entries = subst AreEntries same row.entries;
      rising = subst (λ u. IsRising (kids_of (entries_of u))) same row.rising;
      few = subst (λ u. kid_count (kids_of (entries_of u)) ≤ MOST_CHILDREN) same row.few;
    }

pub row_same : {At F : Type 0} (s t : Shown At F) (p : Part At) → Later s t → IsRowAt s p
    → row_of t p ≡ row_of s p
row_same s t parts.Null later row = refl
row_same s t (parts.Num n) later row = refl
row_same s t (parts.Record a) later row =
    ap (λ u. kids_of (entries_of u)) (later.same a row.stands.0)

pub ruleset rooms = (few_low, row_still, row_same)
