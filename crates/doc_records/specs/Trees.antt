-- Trees as records. A node has its text, its children, and how many nodes and levels there are; an
-- entry has a name, a child, the entries on both sides, and the height of this tree of entries.
--
-- What a term says is a total function of it; whether it is in order is a fact of its own. So no
-- statement asks for a tree that a term spells: `tree_of` is the one. Nodes and entries lead to
-- each other; `Role`, as a second argument, makes one recursion of both.
-- Source: this project's layout of a tree.
use Rattle.std.specs.Prelude.{◌≡◌, ◌+◌, ◌≤◌, max}
use Rattle.cell_words.specs.Term.{Term, null, num, five, part}
use Rattle.doc_tree.specs.Tree.{DocTree, count, height, IsRising}
use Rattle.doc_tree.specs.Lawful.{IsLawful}
use Rattle.kids_avl.specs.Entries.{Entries, no_entries, entry, kids_of, height_of}
use Rattle.doc_records.specs.Pool.{Shown}
use Rattle.doc_records.specs.Texts.{text_of, IsText, IsName}

-- what a record is looked at as: a node, or an entry with those on both sides of it
pub data Role : Type 0 where
  as_node : Role
  as_entry : Role

-- the entries of a node, or those under an entry
abbrev pub entries_in : Term → Role → Entries
entries_in null role = no_entries
entries_in (num n) role = no_entries
entries_in (five a b c d e) as_node = entries_in b as_entry
entries_in (five a b c d e) as_entry =
    entry (text_of a) (record { text = text_of (part 0 b); kids = kids_of (entries_in b as_node) })
    (entries_in c as_entry) (entries_in d as_entry)

abbrev pub entries_of : Term → Entries
entries_of t = entries_in t as_entry

-- the tree that a node spells
abbrev pub tree_of : Term → DocTree
tree_of t = record { text = text_of (part 0 t); kids = kids_of (entries_in t as_node) }

-- the five fields of a node: its text, the entry at the top of its children, count and height
pub record IsNodeRecord (AreEntriesBelow : Type 0) (a b c d e : Term) : Type 0 where
  pub text : IsText a
  pub entries : AreEntriesBelow
  pub rising : IsRising (kids_of (entries_of b))
  pub count : c ≡ num (count (tree_of (five a b c d e)))
  pub height : d ≡ num (height (tree_of (five a b c d e)))
  pub last : e ≡ null

-- the five fields of an entry: its name, its child, the entries left and right of it, whose heights
-- differ by at most 1, and the height of all of them
pub record IsEntryRecord (IsNodeBelow AreLeft AreRight : Type 0) (a b c d e : Term) : Type 0 where
  pub name : IsName a
  pub child : IsNodeBelow
  pub left : AreLeft
  pub right : AreRight
  pub left_near : height_of (entries_of c) ≤ height_of (entries_of d) + 1
  pub right_near : height_of (entries_of d) ≤ height_of (entries_of c) + 1
  pub height : e ≡ num (max (height_of (entries_of c)) (height_of (entries_of d)) + 1)

-- the term is that of a node, or of entries, with all that it leads to
abbrev pub IsSpelling : Term → Role → Type 0
IsSpelling null as_node = ⊥
IsSpelling null as_entry = Unit {0}
IsSpelling (num n) role = ⊥
IsSpelling (five a b c d e) as_node = IsNodeRecord (IsSpelling b as_entry) a b c d e
IsSpelling (five a b c d e) as_entry =
    IsEntryRecord (IsSpelling b as_node) (IsSpelling c as_entry) (IsSpelling d as_entry) a b c d e

abbrev pub IsNode : Term → Type 0
IsNode t = IsSpelling t as_node

abbrev pub AreEntries : Term → Type 0
AreEntries t = IsSpelling t as_entry

-- the term spells the tree
pub record Spells (t : Term) (d : DocTree) : Type 0 where
  pub node : IsNode t
  pub tree : tree_of t ≡ d

-- the node of a lawful tree
pub record IsTreeNode (t : Term) : Type 0 where
  pub node : IsNode t
  pub lawful : IsLawful (tree_of t)

-- a node stands at this record
pub record IsNodeAt {At F : Type 0} (s : Shown At F) (a : At) : Type 0 where
  pub stands : s.stands s.held a
  pub node : IsNode (s.term a)
