-- How many versions stay: as many as the setting says, once the links before them are cut.
--
-- Above the floor, the lowest number that stays, no link is due, so each leads to the version one
-- below. At the floor it is cut: there is none below version 0, or a trim has cut it.
use Rattle.std.proofs.Common.{refl, [], ◌∷◌, ◌≡◌, ◌≢◌, ◌<◌, ◌≤◌, ◌+◌, ◌-◌, ℕ, zero, suc, List}
use Rattle.std.proofs.Common.{length, min}
use Rattle.std.proofs.Common.{inl, inr, sym, ◌∙◌, ap, subst, arith}
use Rattle.std.proofs.lemmas.Bool.{cases_eq}
use mathlib.Core.Option.{some}
use lib.ListN.{get_elem?}
use Rattle.cell_words.specs.Term.{Term, null, num}
use Rattle.doc_tree.specs.Tree.{DocTree}
use Rattle.heap_rule.specs.Boxes.{Map}
use Rattle.heap_rule.specs.Lore.{Named, Plain}
use Rattle.heap_rule.specs.Numbered.{HasNumber}
use Rattle.version_rule.specs.Chains.{Chain, Stays, last, more}
use Rattle.version_rule.specs.Pass.{Pass}
use Rattle.heap_rule.proofs.Entries.{num_inj}
use Rattle.version_rule.specs.Versions.{HoldsVersions, IsLinked, IsVersion}
use Rattle.version_rule.proofs.Passing.{fits_at, in_step_at, version_of}

module _ (is_tree : Term → Type 0) (tree_of : Term → DocTree) (map : Map) (passes : List Pass)
    (h : HoldsVersions is_tree tree_of map passes) (i : ℕ) (p : Pass)
    (at : get_elem? passes i ≡ some p) (trimmed : length h.trees ≤ p.cut + h.keep) where
  -- the lowest number that stays
  floor : ℕ
  floor = length h.trees - h.keep

  -- no link above it is cut, and no pass has cut one
  module _ (cell number : ℕ) (has : HasNumber map cell number) where
    abbrev version : IsVersion is_tree tree_of h.keep h.trees map has.box
    version = version_of is_tree tree_of map passes h cell has.box number has.there has.number_is

    same_number : version.number ≡ number
    same_number = num_inj version.number number (sym version.number_is ∙ has.number_is)

    linked : floor < number → IsLinked map number (has.box 2)
    unfolding floor
    linked above = elim version.link [
      | inl cut ↦ elim cut.due [
        | inl first ↦ absurd (let same = same_number in omega (arith, above, same, first))
        | inr le ↦ absurd (let same = same_number in omega (arith, above, same, le))
      ]
      | inr link ↦ subst (λ (n : ℕ). IsLinked map n (has.box 2)) same_number link
    ]

    not_cut_here : floor < number → p.cut ≢ number
    not_cut_here above is =
        let link = linked above in
        let step = in_step_at is_tree tree_of map passes h i p at in
        let none = step.cut_is cell has.box has.there
        (has.number_is ∙ ap (λ (n : ℕ). Plain (num n)) (sym is)) in
        let clash : Named link.cell ≡ Plain null = sym link.names ∙ none in cc

    -- at the floor it is cut
    cut_at_floor : number ≡ floor → p.cut ≤ number → has.box 2 ≡ Plain null
    unfolding floor
    cut_at_floor is low = elim (cases_eq number 0) [
      | inl zero_is ↦ elim version.link [
        | inl cut ↦ cut.none
        | inr link ↦ absurd (let before = link.before in let same = same_number in
            omega (arith, before, same, zero_is))
      ]
      | inr later ↦
          let step = in_step_at is_tree tree_of map passes h i p at in
          let same : p.cut ≡ number = omega (arith, is, low, later, trimmed) in
          step.cut_is cell has.box has.there
          (has.number_is ∙ ap (λ (n : ℕ). Plain (num n)) (sym same))
    ]

  chain_from : (d cell number : ℕ) → HasNumber map cell number → number ≡ floor + d
      → p.cut ≤ number → Stays map cell number (d + 1)
  chain_from zero cell number has is low = record {
    cells = [];
    chain = last has.box has.there has.number_is
        (cut_at_floor cell number has (let e : number ≡ floor = omega (arith, is) in e) low);
    many = refl;
  }
  chain_from (suc d) cell number has is low =
      let above : floor < number = omega (arith, is) in
      let link = linked cell number has above in
      let apart = not_cut_here cell number has above in
      let before = link.before in
      let rest : Stays map link.cell link.older (d + 1) =
      chain_from d link.cell link.older link.version (omega (arith, is, before))
      (omega (arith, low, apart, before)) in
      record {
        cells = link.cell ∷ rest.cells;
        chain = subst (λ (n : ℕ). Chain map (cell ∷ link.cell ∷ rest.cells) n) (sym before)
            (more {cells = rest.cells} has.box has.there
            (has.number_is ∙ ap (λ (n : ℕ). Plain (num n)) before) link.names rest.chain);
        many = let tail = rest.many in omega (arith, tail);
      }

  pub chain_stays : Stays map h.latest.cell (length h.trees - 1) (min (length h.trees) h.keep)
  unfolding floor
  chain_stays =
      let made = h.versions.made in
      let least = h.keeps_some in
      let fits = fits_at is_tree tree_of map passes h i p at in
      let step = in_step_at is_tree tree_of map passes h i p at in
      let seen = fits.seen in
      let cut = step.cut_seen in
      let many : (length h.trees - 1 - floor) + 1 ≡ min (length h.trees) h.keep =
      omega (arith, made, least) in
      subst (λ (k : ℕ). Stays map h.latest.cell (length h.trees - 1) k) many
      (chain_from (length h.trees - 1 - floor) h.latest.cell (length h.trees - 1)
      h.latest.numbered (omega (arith, made, least)) (omega (arith, seen, cut)))
