-- The rule where the link of a version is cut.
use Rattle.std.proofs.Common.{◌≡◌, ℕ, ◌+◌, ◌-◌, ◌≤◌, ◌⊎◌, List, length, Some}
use Rattle.std.proofs.Common.{inl, inr, refl, sym, ◌∙◌, ap, subst, arith}
use Rattle.std.proofs.lemmas.Bool.{cases_eq}
use Rattle.std.proofs.lemmas.List.Elements.{All-weaker}
use Rattle.cell_words.specs.Term.{Term, null, num}
use Rattle.doc_tree.specs.Tree.{DocTree}
use Rattle.heap_rule.specs.Boxes.{Map, Payload, written_map}
use Rattle.heap_rule.specs.Lore.{Entry, Plain, put}
use Rattle.heap_rule.proofs.Entries.{num_inj, some_is, written_else, written_here}
use Rattle.heap_rule.proofs.Numbered.{names_written, not_anchor, number_unwritten, number_written}
use Rattle.version_rule.specs.Pass.{Pass}
use Rattle.version_rule.specs.Versions.{HoldsVersions, IsCut, IsInStep, IsLinked, IsVersion}
use Rattle.version_rule.proofs.Passing.{version_of}
use Rattle.version_rule.specs.Shrinks.{in_step_on, link_on, version_on}

-- The link of a version's box becomes null.
module _ (map : Map) (x n : ℕ) (box : Payload) (there : map x ≡ Some box)
    (is : box 0 ≡ Plain (num n)) where
  abbrev new : Map
  new = written_map map x 2 (Plain null)

  in_step_still : (keep : ℕ) (p : Pass) → IsInStep keep map p → IsInStep keep new p
  in_step_still keep p step = in_step_on keep map new p step
      (λ y q at says. elim (cases_eq y x) [
        | inl same ↦
            let here : new x ≡ Some q = subst (λ (c : ℕ). new c ≡ Some q) same at in
            ap (λ (p : Payload). p 2) (sym (some_is (put box 2 (Plain null)) q
            (sym (written_here map x 2 (Plain null) box there) ∙ here)))
        | inr other ↦ step.cut_is y q
            (sym (written_else map x 2 (Plain null) box there y other) ∙ at) says
      ])

  module _ (is_tree : Term → Type 0) (tree_of : Term → DocTree) where
    link_still : (keep count number : ℕ) (link : Entry)
        → IsCut keep count number link ⊎ IsLinked map number link
        → IsCut keep count number link ⊎ IsLinked new number link
    link_still keep count number link (inl cut) = inl cut
    link_still keep count number link (inr linked) = inr (link_on map new number link linked
        (number_written map x 2 (Plain null) box there (omega arith) linked.cell linked.older
        linked.version))

    version_still : (keep : ℕ) (trees : List DocTree) (p : Payload)
        → IsVersion is_tree tree_of keep trees map p
        → IsVersion is_tree tree_of keep trees new p
    version_still keep trees p v = version_on is_tree tree_of keep trees trees map new p v v.made
        refl (link_still keep (length trees) v.number (p 2) v.link)

    version_cut : (keep : ℕ) (trees : List DocTree) → n + keep ≤ length trees
        → IsVersion is_tree tree_of keep trees map box
        → IsVersion is_tree tree_of keep trees new (put box 2 (Plain null))
    version_cut keep trees due v = record {
      number = v.number;
      number_is = v.number_is;
      made = v.made;
      root = v.root;
      root_is = v.root_is;
      spells = v.spells;
      tree = v.tree;
      link =
          let same : v.number ≡ n = num_inj v.number n (sym v.number_is ∙ is) in
          inl record { none = refl; due = inr (omega (arith, same, due)) };
      fourth = v.fourth;
      fifth = v.fifth;
    }

    pub cuts : (passes : List Pass) (h : HoldsVersions is_tree tree_of map passes)
        → n + h.keep ≤ length h.trees
        → HoldsVersions is_tree tree_of new passes
    cuts passes h due = record {
      keep = h.keep;
      trees = h.trees;
      keeps_some = h.keeps_some;
      keeps_few = h.keeps_few;
      few = h.few;
      versions = h.versions;
      in_step = All-weaker (IsInStep h.keep map) (IsInStep h.keep new) (in_step_still h.keep)
          passes h.in_step;
      latest = names_written map x 2 (Plain null) box there (omega arith)
          (λ e. not_anchor map (length h.trees - 1) x n h.latest
          record { box = box; there = there; number_is = is } (sym e)) (length h.trees - 1)
          h.latest;
      boxes = λ y q apart at. elim (cases_eq y x) [
        | inl same ↦
            let here : new x ≡ Some q = subst (λ (c : ℕ). new c ≡ Some q) same at in
            subst (λ (p : Payload). IsVersion is_tree tree_of h.keep h.trees new p)
            (some_is (put box 2 (Plain null)) q
            (sym (written_here map x 2 (Plain null) box there) ∙ here))
            (version_cut h.keep h.trees due
            (version_of is_tree tree_of map passes h x box n there is))
        | inr other ↦
            let before : map y ≡ Some q =
            sym (written_else map x 2 (Plain null) box there y other) ∙ at in
            version_still h.keep h.trees q (h.boxes y q apart before)
      ];
      apart = λ y z u a b. h.apart y z u
          (number_unwritten map x 2 (Plain null) box there (omega arith) y u a)
          (number_unwritten map x 2 (Plain null) box there (omega arith) z u b);
    }
