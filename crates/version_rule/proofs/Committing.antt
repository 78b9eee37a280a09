-- The rule where the next version is made: the anchor's field goes from the box of the latest
-- version to a box that was in no map before.
use Rattle.std.proofs.Common.{◌≡◌, ◌≢◌, ℕ, ◌+◌, ◌-◌, ◌<◌, ◌≤◌, ◌⊎◌, List, [], ◌∷◌, ◌++◌, length}
use Rattle.std.proofs.Common.{Some, None, set, length-set}
use Rattle.std.proofs.Common.{inl, inr, sym, ◌∙◌, ap, subst, arith}
use Rattle.std.proofs.lemmas.Bool.{cases_eq}
use Rattle.std.proofs.lemmas.List.{length_push}
use Rattle.std.proofs.lemmas.List.Elements.{All-push, All-set, All-weaker}
use mathlib.Core.Option.{some}
use lib.ListN.{get_elem?}
use Rattle.cell_words.specs.Term.{Term, null, num}
use Rattle.run_limits.specs.declared.TheConstants.{MOST_CLIENTS, MOST_COMMANDS}
use Rattle.doc_model.specs.Store.{tree_at}
use Rattle.doc_tree.specs.Tree.{DocTree}
use Rattle.heap_rule.specs.Boxes.{Map, Payload, written_map}
use Rattle.heap_rule.specs.Lore.{Entry, Named, Plain, put}
use Rattle.heap_rule.specs.Numbered.{HasNumber}
use Rattle.heap_rule.proofs.Claiming.{put_here, put_other}
use Rattle.heap_rule.proofs.Entries.{some_is}
use Rattle.heap_rule.proofs.Numbered.{added_or_before, apart_with, moved_else, named_number}
use Rattle.heap_rule.proofs.Numbered.{names_beside, names_moved, not_added, not_anchor}
use Rattle.heap_rule.proofs.Numbered.{number_added, number_beside, number_moved, number_unmoved}
use Rattle.version_rule.specs.Fits.{Fits}
use Rattle.version_rule.specs.Pass.{Commit, Pass, Reading, committed}
use Rattle.version_rule.specs.Versions.{HasLatest, HoldsVersions, IsCut, IsInStep, IsLinked}
use Rattle.version_rule.specs.Versions.{IsNext, IsVersion}
use Rattle.version_rule.proofs.Made.{versions_more}
use Rattle.version_rule.proofs.Passing.{fits_at, in_step_at, made_of}
use Rattle.version_rule.specs.Shrinks.{in_step_on, link_on, version_on}
use Rattle.version_rule.proofs.Trees.{tree_last, tree_still}

module _ (is_tree : Term → Type 0) (tree_of : Term → DocTree) (map : Map) (passes : List Pass)
    (h : HoldsVersions is_tree tree_of map passes) (z c n u : ℕ) (root : Term) (box : Payload)
    (absent : map z ≡ None) (next : IsNext is_tree n root c box) (follows : n ≡ u + 1)
    (old : HasNumber map c u) (named : h.latest.anchor 0 ≡ Named c) where
  abbrev shown : Map
  shown = put map z (Some box)

  abbrev new : Map
  new = written_map shown 0 0 (Named z)

  trees : List DocTree
  trees = h.trees ++ tree_of root ∷ []

  grown : length trees ≡ length h.trees + 1
  unfolding trees
  grown = length_push h.trees (tree_of root)

  -- the latest version is the one that the anchor named
  latest_is : length h.trees - 1 ≡ u
  latest_is = named_number map (length h.trees - 1) c u h.latest named old

  pub count_is : length h.trees ≡ n
  count_is =
      let made = made_of is_tree tree_of map passes h c old.box u old.there old.number_is in
      let latest = latest_is in omega (arith, made, latest, follows)

  -- the anchor, where the new box is added
  latest_beside : HasLatest shown (length h.trees - 1)
  latest_beside = names_beside map z box absent (length h.trees - 1) h.latest

  -- a cell that is neither the anchor nor the new box is as it was
  else_same : (y : ℕ) → y ≢ 0 → y ≢ z → new y ≡ map y
  else_same y one other = moved_else shown (length h.trees - 1) latest_beside z y one
      ∙ put_other map z (Some box) y other

  next_beside : HasNumber shown z n
  next_beside = number_added map z box absent n next.number_is

  box_here : new z ≡ Some box
  box_here = moved_else shown (length h.trees - 1) latest_beside z z
      (not_anchor shown (length h.trees - 1) z n latest_beside next_beside)
      ∙ put_here map z (Some box)

  number_still : (y v : ℕ) → HasNumber map y v → HasNumber new y v
  number_still y v has = number_moved shown (length h.trees - 1) latest_beside z y v
      (number_beside map z box absent y v has)

  -- a box with a number is the new one, or was there before
  number_before : (y v : ℕ) → HasNumber new y v
      → ((y ≡ z) × (v ≡ n)) ⊎ HasNumber map y v
  number_before y v has = added_or_before map z box absent n next.number_is y v
      (number_unmoved shown (length h.trees - 1) latest_beside z y v has)

  number_below : (y v : ℕ) → HasNumber map y v → v < n
  number_below y v has =
      let lt = made_of is_tree tree_of map passes h y has.box v has.there has.number_is in
      let count = count_is in omega (arith, lt, count)

  latest_new : HasLatest new (length trees - 1)
  latest_new = subst (λ (m : ℕ). HasLatest new m)
      (let more = grown in let count = count_is in
      let e : n ≡ length trees - 1 = omega (arith, more, count) in e)
      (names_moved shown (length h.trees - 1) latest_beside z n next_beside)

  link_still : (number : ℕ) (link : Entry)
      → IsCut h.keep (length h.trees) number link ⊎ IsLinked map number link
      → IsCut h.keep (length trees) number link ⊎ IsLinked new number link
  link_still number link (inl cut) = inl record {
    none = cut.none;
    due = elim cut.due [
      | inl first ↦ inl first
      | inr le ↦ inr (let more = grown in omega (arith, le, more))
    ];
  }
  link_still number link (inr linked) = inr (link_on map new number link linked
      (number_still linked.cell linked.older linked.version))

  version_still : (p : Payload) → IsVersion is_tree tree_of h.keep h.trees map p
      → IsVersion is_tree tree_of h.keep trees new p
  unfolding trees
  version_still p v = version_on is_tree tree_of h.keep h.trees trees map new p v
      (let lt = v.made in let more = grown in omega (arith, lt, more))
      (tree_still h.trees (tree_of root) v.number v.made) (link_still v.number (p 2) v.link)

  version_new : IsVersion is_tree tree_of h.keep trees new box
  unfolding trees
  version_new = record {
    number = n;
    number_is = next.number_is;
    made = let count = count_is in let more = grown in omega (arith, count, more);
    root = root;
    root_is = next.root_is;
    spells = next.spells;
    tree = sym (ap (tree_at trees) (sym count_is) ∙ tree_last h.trees (tree_of root));
    link = inr record {
      cell = c;
      names = next.link_is;
      older = u;
      before = follows;
      version = number_still c u old;
    };
    fourth = next.fourth;
    fifth = next.fifth;
  }

  -- what is so of another pass, or of this one with the commit
  cut_still : (p : Pass) → Fits h.trees p → IsInStep h.keep map p → (x : ℕ) (q : Payload)
      → new x ≡ Some q → q 0 ≡ Plain (num p.cut) → q 2 ≡ Plain null
  cut_still p fits step x q at is = elim (number_before x p.cut
      record { box = q; there = at; number_is = is }) [
        | inl here ↦ absurd (
            let cut = step.cut_seen in let lt = fits.seen in let count = count_is in
            let same = here.1 in omega (arith, cut, lt, count, same))
        | inr before ↦
            let there : map x ≡ Some q =
            sym (else_same x (not_anchor map (length h.trees - 1) x p.cut h.latest before)
            (not_added map z box absent x before.box before.there)) ∙ at in
            step.cut_is x q there is
      ]

  in_step_still : (p : Pass) → Fits h.trees p → IsInStep h.keep map p → IsInStep h.keep new p
  in_step_still p fits step = in_step_on h.keep map new p step (cut_still p fits step)

  module _ (i : ℕ) (p : Pass) (at : get_elem? passes i ≡ some p)
      (few : length p.commits < MOST_COMMANDS) (before : DocTree)
      (was : tree_at h.trees u ≡ before) where
    in_step_new : IsInStep h.keep new (committed n before (tree_of root) p)
    in_step_new =
        let step = in_step_at is_tree tree_of map passes h i p at in
        let fits = fits_at is_tree tree_of map passes h i p at in
        let low : p.seen ≤ n = (let lt = fits.seen in let count = count_is in
        omega (arith, lt, count)) in
        record {
          keeps = step.keeps;
          few = let more = length_push p.commits
              (record { number = n; before = before; made = tree_of root }) in
              omega (arith, few, more);
          reads_seen = All-weaker (λ (r : Reading). r.number ≤ p.seen)
              (λ (r : Reading). r.number ≤ n) (λ r le. omega (arith, le, low)) p.reads
              step.reads_seen;
          commits_seen = All-push (λ (d : Commit). d.number ≤ n) p.commits
              record { number = n; before = before; made = tree_of root }
              (All-weaker (λ (d : Commit). d.number ≤ p.seen) (λ (d : Commit). d.number ≤ n)
              (λ d le. omega (arith, le, low)) p.commits step.commits_seen) (omega arith);
          cut_seen = let cut = step.cut_seen in omega (arith, cut, low);
          cut_is = cut_still p fits step;
        }

    pub commits : HoldsVersions is_tree tree_of new
        (set passes i (committed n before (tree_of root) p))
    unfolding trees
    commits = record {
      keep = h.keep;
      trees = trees;
      keeps_some = h.keeps_some;
      keeps_few = h.keeps_few;
      few = subst (λ (k : ℕ). k ≤ MOST_CLIENTS)
          (sym (length-set passes i (committed n before (tree_of root) p))) h.few;
      versions = versions_more passes h.trees i n p before (tree_of root) at
          (fits_at is_tree tree_of map passes h i p at) (sym count_is)
          record {
            there = let count = count_is in omega (arith, count, follows);
            is = ap (tree_at h.trees) (let e : n - 1 ≡ u = omega (arith, follows) in e) ∙ was;
          }
          (omega (arith, follows)) h.versions;
      in_step = All-set (IsInStep h.keep new) passes i (committed n before (tree_of root) p)
          in_step_new
          (λ k d lt. in_step_still _ (h.versions.fits k d lt) (h.in_step k d lt));
      latest = latest_new;
      boxes = λ x q one there. elim (cases_eq x z) [
        | inl same ↦
            subst (λ (b : Payload). IsVersion is_tree tree_of h.keep trees new b)
            (some_is box q (sym box_here
            ∙ subst (λ (y : ℕ). new y ≡ Some q) same there)) version_new
        | inr other ↦
            version_still q (h.boxes x q one (sym (else_same x one other) ∙ there))
      ];
      apart = apart_with map new z n number_before
          (λ y v has is. let lt = number_below y v has in omega (arith, lt, is)) h.apart;
    }
