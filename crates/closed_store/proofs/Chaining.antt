-- From the versions in the map of boxes to those in the words: each box of the chain has its
-- number, its root and its link in its fields, and the root's cell denotes the version's term.
use Rattle.std.proofs.Common.{◌≡◌, ◌≤◌, ◌+◌, ◌-◌, ◌∙◌, ℕ, List}
use Rattle.std.proofs.Common.{◌∷◌, length, min, Some, sym, ap, arith}
use mathlib.Core.Option.{some}
use lib.ListN.{get_elem?}
use Rattle.cell_words.specs.declared.fields.Field.{Field}
use Rattle.cell_words.specs.declared.fields.Field.TheVariants as field
use Rattle.cell_words.specs.Term.{num}
use Rattle.closed_store.specs.Chain.{IsChain, IsVersionAt, ShowsVersions, last as ends}
use Rattle.closed_store.specs.Chain.{more as links}
use Rattle.client_history.specs.Closing.{EndedStore}
use Rattle.core_machine.specs.InRange.{IsShaped}
use Rattle.core_machine.specs.State.{State, field_of}
use Rattle.dlg_core.specs.Collects.{AreOut}
use Rattle.dlg_core.specs.Consistent.{IsConsistent}
use Rattle.dlg_core.specs.Reachable.{named}
use Rattle.doc_model.specs.Store.{tree_at}
use Rattle.doc_records.specs.Trees.{IsTreeNode, tree_of}
use Rattle.client_history.specs.Spelled.{node_is_record}
use Rattle.heap_rule.specs.Boxes.{Payload, boxes_of, payload_of}
use Rattle.heap_rule.specs.Facts.{Facts}
use Rattle.heap_rule.specs.Lore.{Lore, Plain, named_or}
use Rattle.heap_rule.specs.Shape.{Shape}
use Rattle.heap_rule.specs.declared.view.View.{View}
use Rattle.heap_rule.proofs.BoxWords.{box_there, entry_there, named_there, null_there}
use Rattle.heap_rule.proofs.BoxWords.{number_there}
use Rattle.heap_rule.proofs.Entries.{num_inj}
use Rattle.heap_rule.proofs.Maps.{in_map}
use Rattle.version_rule.specs.Chains.{Chain, Stays, last, more}
use Rattle.version_rule.specs.Pass.{Pass}
use Rattle.version_rule.specs.Versions.{HoldsVersions, IsVersion, is_fixed}
use Rattle.version_rule.proofs.Passing.{version_of}
use Rattle.version_rule.proofs.Reached.{only_these}
use Rattle.heap_rule.proofs.EntryWords.{record_word}
use Rattle.version_rule.proofs.Staying.{chain_stays}
use Rattle.closed_store.proofs.Anchored.{box_in, from_anchor}
use Rattle.closed_store.proofs.Denoting.{box_kind, denotes}

module _ (s : State) (l : Lore) (facts : Facts is_fixed s l) (passes : List Pass)
    (h : HoldsVersions IsTreeNode tree_of (boxes_of s l) passes) where
  module _ (cell : ℕ) (box : Payload) (at : boxes_of s l cell ≡ Some box) where
    version_at : (number : ℕ) (link : Field) → box 0 ≡ Plain (num number)
        → field_of s cell 2 ≡ link → IsVersionAt s cell number (tree_at h.trees number) link
    version_at number link is link_is =
        let version : IsVersion IsTreeNode tree_of h.keep h.trees (boxes_of s l) box =
        version_of IsTreeNode tree_of (boxes_of s l) passes h cell box number at is in
        let same : version.number ≡ number =
        num_inj version.number number (sym version.number_is ∙ is) in
        let there = box_there s l cell box at in
        let root = record_word is_fixed s l facts cell 1 version.root
        (node_is_record version.root version.spells)
        (entry_there s l cell box at 1 ∙ version.root_is) in
        record {
          kind = box_kind (field_of s cell 5) there.box;
          number_is = number_there s l cell box at is_fixed facts 0 number is;
          root = root.0;
          names = root.1.0;
          term = version.root;
          denotes = denotes is_fixed s l facts version.root (field.Cell root.0)
              (λ c e. named 1 there.reached (root.1.0 ∙ e)) (ap (named_or root.0) root.1.1);
          spells = version.spells;
          tree_is = version.tree ∙ ap (tree_at h.trees) same;
          link_is = link_is;
          fourth = null_there s l cell box at is_fixed facts 3 version.fourth;
          fifth = null_there s l cell box at is_fixed facts 4 version.fifth;
        }

  chain_there : (cells : List ℕ) (number : ℕ) → Chain (boxes_of s l) cells number
      → IsChain s h.trees number cells
  chain_there _ _ (last {cell} {number} box at is none) =
      ends (version_at cell box at number field.Null is
      (null_there s l cell box at is_fixed facts 2 none))
  chain_there _ _ (more {cell} {older} {number} {cells} box at is names rest) =
      links (version_at cell box at (number + 1) (field.Cell older) is
      (named_there s l cell box at 2 older names))
      (chain_there (older ∷ cells) number rest)

  module _ (shape : IsShaped s) (consistent : IsConsistent s) (out : AreOut s) (i : ℕ) (p : Pass)
      (at : get_elem? passes i ≡ some p) (trimmed : length h.trees ≤ p.cut + h.keep) where
    stay : Stays (boxes_of s l) h.latest.cell (length h.trees - 1) (min (length h.trees) h.keep)
    stay = chain_stays IsTreeNode tree_of (boxes_of s l) passes h i p at trimmed

    pub shown : ShowsVersions s h.keep h.trees
    shown = record {
      latest = h.latest.cell;
      names = named_there s l 0 h.latest.anchor h.latest.there 0 h.latest.cell h.latest.names;
      older = stay.cells;
      chain = chain_there (h.latest.cell ∷ stay.cells) (length h.trees - 1) stay.chain;
      many = let many = stay.many in omega (arith, many);
      only = λ c from kind.
          let there = box_in is_fixed s l consistent facts out c (from_anchor s c from) kind in
          only_these IsTreeNode tree_of node_is_record s l shape facts passes h stay.cells
          (length h.trees - 1) stay.chain out c (payload_of s l c) (in_map s l c there);
    }

pub versions_shown : (h : Shape) (words : List ℕ) (v : View Pass) (ended : EndedStore h words v)
    (i : ℕ) (p : Pass) → get_elem? ended.shows.passes i ≡ some p
    → length ended.shows.kept.trees ≤ p.cut + ended.shows.kept.keep → AreOut ended.shows.core
    → ShowsVersions ended.shows.core ended.shows.kept.keep ended.shows.kept.trees
versions_shown h words v ended i p at trimmed out =
    let e = ended.shows in
    shown e.core e.lore e.facts e.passes e.kept e.shaped e.consistent out i p at trimmed
