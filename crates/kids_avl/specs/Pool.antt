-- What a pool of entries shows: an entry or none as a tree, and that what stood before still
-- stands.
-- Source: this project's.
use Rattle.std.specs.Prelude.{◌≡◌, Option, Some, None}
use Rattle.doc_tree.specs.Tree.{DocTree}
use Rattle.kids_avl.specs.Entries.{Entries, no_entries}

-- the entries under one, or none
abbrev pub under : {S A : Type 0} → (S → A → Entries) → S → Option A → Entries
under entries s None = no_entries
under entries s (Some a) = entries s a

-- one that stands, or none
abbrev pub Stand : {S A : Type 0} → (S → A → Type 0) → S → Option A → Type 0
Stand stands s None = Unit {0}
Stand stands s (Some a) = stands s a

-- Whatever stood still stands and says what it said, and what was kept of an earlier state still
-- is. This is one clause of each call, so facts carry over chains of calls without a lemma. Places
-- are only counted: whoever holds them gives them back after a call.
pub record Later {S A C : Type 0} (stands : S → A → Type 0) (entries : S → A → Entries)
    (is_child : S → C → Type 0) (tree : S → C → DocTree) (kept : S → S → Type 0) (old new : S)
    : Type 0 where
  pub still : (a : A) → stands old a → stands new a
  pub same : (a : A) → stands old a → entries new a ≡ entries old a
  pub still_under : (o : Option A) → Stand stands old o → Stand stands new o
  pub same_under : (o : Option A) → Stand stands old o → under entries new o ≡ under entries old o
  pub child_still : (c : C) → is_child old c → is_child new c
  pub child_same : (c : C) → is_child old c → tree new c ≡ tree old c
  pub still_kept : (start : S) → kept start old → kept start new
