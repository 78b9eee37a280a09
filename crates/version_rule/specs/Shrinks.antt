-- The rule of versions on maps: what its parts say, and that it stands on every smaller map.
-- Source: this project's.
use Rattle.std.proofs.Common.{refl, ◌≡◌, ℕ, ◌-◌, ◌<◌, ◌⊎◌, List, length, Some}
use Rattle.std.proofs.Common.{inl, inr, sym, ◌∙◌, arith}
use Rattle.std.proofs.lemmas.List.Elements.{All-weaker}
use Rattle.cell_words.specs.Term.{Term, null, num}
use Rattle.doc_model.specs.Store.{tree_at}
use Rattle.doc_tree.specs.Tree.{DocTree}
use Rattle.heap_rule.specs.Boxes.{Map, Payload, Smaller}
use Rattle.heap_rule.specs.Lore.{Entry, Plain}
use Rattle.heap_rule.specs.Numbered.{HasNumber}
use Rattle.heap_rule.proofs.Numbered.{apart_still, names_still, number_still}
use Rattle.version_rule.specs.Pass.{Pass}
use Rattle.version_rule.specs.Versions.{HoldsVersions, IsCut, IsInStep, IsLinked, IsVersion}

-- What is said of one map may be said of another.

pub link_on : (old new : Map) (number : ℕ) (link : Entry) (is : IsLinked old number link)
    → HasNumber new is.cell is.older → IsLinked new number link
link_on old new number link is version = record {
  cell = is.cell;
  names = is.names;
  older = is.older;
  before = is.before;
  version = version;
}

pub in_step_on : (keep : ℕ) (old new : Map) (p : Pass) → IsInStep keep old p
    → ((cell : ℕ) (box : Payload) → new cell ≡ Some box → box 0 ≡ Plain (num p.cut)
    → box 2 ≡ Plain null)
    → IsInStep keep new p
in_step_on keep old new p is cut = record {
  keeps = is.keeps;
  few = is.few;
  reads_seen = is.reads_seen;
  commits_seen = is.commits_seen;
  cut_seen = is.cut_seen;
  cut_is = cut;
}

pub version_on : (is_tree : Term → Type 0) (tree_of : Term → DocTree) (keep : ℕ)
    (trees further : List DocTree) (old new : Map) (p : Payload)
    (v : IsVersion is_tree tree_of keep trees old p)
    → v.number < length further → tree_at further v.number ≡ tree_at trees v.number
    → IsCut keep (length further) v.number (p 2) ⊎ IsLinked new v.number (p 2)
    → IsVersion is_tree tree_of keep further new p
version_on is_tree tree_of keep trees further old new p v made tree link = record {
  number = v.number;
  number_is = v.number_is;
  made = made;
  root = v.root;
  root_is = v.root_is;
  spells = v.spells;
  tree = v.tree ∙ sym tree;
  link = link;
  fourth = v.fourth;
  fifth = v.fifth;
}

module _ (old new : Map) (smaller : Smaller old new) where
  in_step_still : (keep : ℕ) (p : Pass) → IsInStep keep old p → IsInStep keep new p
  in_step_still keep p is = in_step_on keep old new p is
      (λ x q at. is.cut_is x q (smaller.within x q at))

  module _ (is_tree : Term → Type 0) (tree_of : Term → DocTree) where
    link_still : (keep count number x : ℕ) (p : Payload) → new x ≡ Some p
        → IsCut keep count number (p 2) ⊎ IsLinked old number (p 2)
        → IsCut keep count number (p 2) ⊎ IsLinked new number (p 2)
    link_still keep count number x p at (inl cut) = inl cut
    link_still keep count number x p at (inr link) = inr (link_on old new number (p 2) link
        (number_still old new smaller x link.cell 2 link.older p at (omega arith) link.names
        link.version))

    version_still : (keep : ℕ) (trees : List DocTree) (x : ℕ) (p : Payload) → new x ≡ Some p
        → IsVersion is_tree tree_of keep trees old p
        → IsVersion is_tree tree_of keep trees new p
    version_still keep trees x p at is =
        version_on is_tree tree_of keep trees trees old new p is is.made refl
        (link_still keep (length trees) is.number x p at is.link)

    stands_still : (passes : List Pass) → HoldsVersions is_tree tree_of old passes
        → HoldsVersions is_tree tree_of new passes
    stands_still passes h = record {
      keep = h.keep;
      trees = h.trees;
      keeps_some = h.keeps_some;
      keeps_few = h.keeps_few;
      few = h.few;
      versions = h.versions;
      in_step = All-weaker (IsInStep h.keep old) (IsInStep h.keep new) (in_step_still h.keep)
          passes h.in_step;
      latest = names_still old new smaller (length h.trees - 1) h.latest;
      boxes = λ x p other at.
          version_still h.keep h.trees x p at (h.boxes x p other (smaller.within x p at));
      apart = apart_still old new smaller h.apart;
    }

-- the law of the rule
pub shrinks : (is_tree : Term → Type 0) (tree_of : Term → DocTree) (old new : Map)
    (passes : List Pass) → Smaller old new → HoldsVersions is_tree tree_of old passes
    → HoldsVersions is_tree tree_of new passes
shrinks is_tree tree_of old new passes smaller kept =
    stands_still old new smaller is_tree tree_of passes kept
