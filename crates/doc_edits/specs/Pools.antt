-- What a pool of entries shows, by what the pool of records that it borrowed shows.
-- Source: this project's.
use Rattle.std.specs.Prelude.{ℕ}
use Rattle.doc_tree.specs.Tree.{DocTree}
use Rattle.kids_avl.specs.Entries.{Entries}
use Rattle.doc_records.specs.Pool.{Shown}
use Rattle.doc_records.specs.Trees.{entries_of, tree_of}
use Rattle.doc_edits.specs.declared.entries.EntryPool.{EntryPool}
use Rattle.doc_edits.specs.Entries.{IsChildAt, IsEntryAt, IsKept, places_left, records_left}

abbrev pub entries_in : {R At F : Type 0} → (R → Shown At F) → EntryPool R → At → Entries
entries_in shown s a = entries_of ((shown s.records.now).term a)

abbrev pub tree_in : {R At F : Type 0} → (R → Shown At F) → EntryPool R → At → DocTree
tree_in shown s c = tree_of ((shown s.records.now).term c)

abbrev pub stands_in : {R At F : Type 0} → (R → Shown At F) → EntryPool R → At → Type 0
stands_in shown s a = IsEntryAt (shown s.records.now) s.made a

abbrev pub is_child_in : {R At F : Type 0} → (R → Shown At F) → EntryPool R → At → Type 0
is_child_in shown s c = IsChildAt (shown s.records.now) c

abbrev pub kept_in : {R At F : Type 0} → (R → Shown At F) → EntryPool R → EntryPool R → Type 0
kept_in shown start now =
    IsKept (shown start.records.now) (shown now.records.now) start.records.ghost_name
    now.records.ghost_name

abbrev pub places_in : {R At F : Type 0} → (R → Shown At F) → EntryPool R → ℕ
places_in shown s = places_left (shown s.records.now)

abbrev pub records_in : {R At F : Type 0} → (R → Shown At F) → EntryPool R → ℕ
records_in shown s = records_left (shown s.records.now) s.made

abbrev pub made_in : {R : Type 0} → EntryPool R → ℕ
made_in s = s.made
