-- A pool of entries at its start, and what it keeps of the records.
use Rattle.std.proofs.Common.{◌≡◌, ℕ, ◌+◌, ◌<◌, ◌≤◌, ◌∙◌, Option, None, Some, ap, arith, refl}
use Rattle.std.proofs.Common.{subst, sym}
use Rattle.cell_words.specs.Term.{IsFive}
use Rattle.doc_tree.specs.declared.tree.TheConstants.Tree.{MOST_CHILDREN}
use Rattle.doc_tree.specs.Tree.{IsRising, kid_count}
use Rattle.kids_avl.specs.declared.bounds.TheConstants.{MOST_LEVELS}
use Rattle.kids_avl.specs.Entries.{IsBalanced, IsEntry, height_of, kids_of}
use Rattle.kids_avl.specs.Pool.{under, Later as LaterEntries, Stand}
use Rattle.kids_avl.proofs.Heights.{at_most_levels}
use Rattle.doc_records.specs.declared.pool.Part.{Part}
use Rattle.doc_records.specs.declared.pool.Part.TheVariants as parts
use Rattle.doc_records.specs.Pool.{Shown, Later, part_term}
use Rattle.doc_records.specs.Trees.{AreEntries, entries_of, tree_of}
use Rattle.doc_records.proofs.Rows.{balanced}
use Rattle.doc_edits.specs.declared.entries.EntryPool.{EntryPool}
use Rattle.doc_edits.specs.Entries.{IsEntryAt, IsKept, IsSideAt, part_of, top_of}
use Rattle.doc_edits.specs.Pools.{entries_in, is_child_in, kept_in, stands_in, tree_in}
use Rattle.doc_edits.specs.Tops.{IsRowAt, row_of}
use Rattle.doc_edits.proofs.Fields.{five_entry}
use Rattle.doc_edits.proofs.Makings.{row_none}
use Rattle.doc_edits.proofs.Standing.{later_then, node_still}

-- the children of a node, as the top of a pool that made none yet
pub row_balanced : {R At F : Type 0} (shown : R → Shown At F) (s : EntryPool R) (p : Part At)
    (o : Option At) → o ≡ top_of p → IsRowAt (shown s.records.now) p
    → IsBalanced (under (entries_in shown) s o)
row_balanced shown s parts.Null o is row = rw is tt
row_balanced shown s (parts.Num n) o is row = rw is tt
row_balanced shown s (parts.Record a) o is row =
    rw is (balanced ((shown s.records.now).term a) row.entries)

pub row_stands : {R At F : Type 0} (shown : R → Shown At F) (s : EntryPool R) (p : Part At)
    (o : Option At) → o ≡ top_of p → IsRowAt (shown s.records.now) p
    → (shown s.records.now).held < (shown s.records.now).room → Stand (stands_in shown) s o
row_stands shown s parts.Null o is row place = rw is tt
row_stands shown s (parts.Num n) o is row place = rw is tt
row_stands shown s (parts.Record a) o is row place =
    let t = (shown s.records.now).term a in
    let high = at_most_levels (entries_of t) (balanced t row.entries) row.few in
    rw is (record {
      stands = row.stands.0;
      five = row.stands.1;
      entries = row.entries;
      entry = five_entry t row.stands.1;
      low = omega (arith, high);
      place = place;
    })

-- what a pool keeps at its start
pub later_self : {At F : Type 0} (s : Shown At F) → Later s s
later_self s = record {
  still = λ x n stands low. stands;
  now = λ x stands. stands;
  same = λ x stands. refl;
  says = λ f n says low. says;
  longer = omega arith;
  room = refl;
  marks = λ before begins. begins;
}

pub kept_self : {At F : Type 0} (s : Shown At F) (lent : ℕ) → IsKept s s lent lent
kept_self s lent = record { later = later_self s; lent = refl }

-- what a call on the records leaves of a pool of entries
entry_still : {At F : Type 0} (s t : Shown At F) (made now : ℕ) (a : At) → Later s t
    → t.held < t.room → made ≤ now → IsEntryAt s made a → IsEntryAt t now a
entry_still s t made now a later place more is =
    let same = sym (later.same a is.stands) in
    record {
      stands = later.now a is.stands;
      five = subst IsFive same is.five;
      entries = subst AreEntries same is.entries;
      entry = subst (λ u. IsEntry (entries_of u)) same is.entry;
      low = subst (λ u. height_of (entries_of u) ≤ MOST_LEVELS + now) same (omega (arith, is.low));
      place = place;
    }

under_still : {R At F : Type 0} (shown : R → Shown At F) (s t : EntryPool R) (o : Option At)
    → Later (shown s.records.now) (shown t.records.now)
    → (shown t.records.now).held < (shown t.records.now).room → s.made ≤ t.made
    → Stand (stands_in shown) s o → Stand (stands_in shown) t o
under_still shown s t None later place more is = tt
under_still shown s t (Some a) later place more is =
    entry_still (shown s.records.now) (shown t.records.now) s.made t.made a later place more is

under_same : {R At F : Type 0} (shown : R → Shown At F) (s t : EntryPool R) (o : Option At)
    → Later (shown s.records.now) (shown t.records.now) → Stand (stands_in shown) s o
    → under (entries_in shown) t o ≡ under (entries_in shown) s o
under_same shown s t None later is = refl
under_same shown s t (Some a) later is = ap entries_of (later.same a is.stands)

pub entries_later : {R At F : Type 0} (shown : R → Shown At F) (s t : EntryPool R)
    → Later (shown s.records.now) (shown t.records.now)
    → (shown t.records.now).held < (shown t.records.now).room → s.made ≤ t.made
    → t.records.ghost_name ≡ s.records.ghost_name
    → LaterEntries (stands_in shown) (entries_in shown) (is_child_in shown) (tree_in shown)
    (kept_in shown) s t
entries_later shown s t later place more lent = record {
  still = λ a is.
      entry_still (shown s.records.now) (shown t.records.now) s.made t.made a later place more is;
  same = λ a is. ap entries_of (later.same a is.stands);
  still_under = λ o is. under_still shown s t o later place more is;
  same_under = λ o is. under_same shown s t o later is;
  child_still = λ c is. record { node = node_still _ _ c later is.node; place = place };
  child_same = λ c is. ap tree_of (later.same c is.node.stands);
  still_kept = λ start kept.
      record { later = later_then kept.later later; lent = lent ∙ kept.lent };
}

-- .. and of the entries that are one side of a new one
pub side_still : {R At F : Type 0} (shown : R → Shown At F) (s : EntryPool R) (t : Shown At F)
    (p : Part At) (o : Option At) → Later (shown s.records.now) t → t.held < t.room
    → p ≡ part_of o → Stand (stands_in shown) s o → IsSideAt t s.made p
side_still shown s t p None later place is stand = rw is tt
side_still shown s t p (Some a) later place is stand =
    rw is (entry_still (shown s.records.now) t s.made s.made a later place (omega arith) stand)

pub side_same : {R At F : Type 0} (shown : R → Shown At F) (s : EntryPool R) (t : Shown At F)
    (p : Part At) (o : Option At) → Later (shown s.records.now) t → p ≡ part_of o
    → Stand (stands_in shown) s o
    → entries_of (part_term t.term p) ≡ under (entries_in shown) s o
side_same shown s t p None later is stand = rw is refl
side_same shown s t p (Some a) later is stand = rw is (ap entries_of (later.same a stand.stands))

-- the children of a node, before a call on such a pool and after it
pub row_kids : {R At F : Type 0} (shown : R → Shown At F) (s : EntryPool R) (p : Part At)
    (o : Option At) → o ≡ top_of p
    → kids_of (under (entries_in shown) s o) ≡ row_of (shown s.records.now) p
row_kids shown s parts.Null o is = rw is refl
row_kids shown s (parts.Num n) o is = rw is refl
row_kids shown s (parts.Record a) o is = rw is refl

pub kids_row : {R At F : Type 0} (shown : R → Shown At F) (s : EntryPool R) (p : Part At)
    (o : Option At) → p ≡ part_of o
    → row_of (shown s.records.now) p ≡ kids_of (under (entries_in shown) s o)
kids_row shown s p None is = rw is refl
kids_row shown s p (Some a) is = rw is refl

pub row_made : {R At F : Type 0} (shown : R → Shown At F) (s : EntryPool R) (p : Part At)
    (o : Option At) → p ≡ part_of o → Stand (stands_in shown) s o
    → IsRising (kids_of (under (entries_in shown) s o))
    → kid_count (kids_of (under (entries_in shown) s o)) ≤ MOST_CHILDREN
    → IsRowAt (shown s.records.now) p
row_made shown s p None is stand rising few = rw is (row_none (shown s.records.now))
row_made shown s p (Some a) is stand rising few =
    rw is (record {
      stands = (stand.stands, stand.five);
      entries = stand.entries;
      rising = rising;
      few = few;
    })
