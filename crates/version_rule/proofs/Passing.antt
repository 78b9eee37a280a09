-- The rule where one pass changes and no box does.
use Rattle.std.proofs.Common.{◌≡◌, ℕ, zero, suc, ◌-◌, ◌*◌, ◌<◌, ◌≤◌, List, [], ◌∷◌}
use Rattle.std.proofs.Common.{flat_map, length, All, Some, max, set, length-set}
use Rattle.std.proofs.Common.{inl, inr, refl, sym, ◌∙◌, subst, arith}
use Rattle.std.proofs.lemmas.Bool.{cases_lt}
use Rattle.std.proofs.lemmas.List.{length-append, length-map}
use Rattle.std.proofs.lemmas.List.Elements.{All-head, All-push, All-set, All-tail, All-weaker}
use mathlib.Core.Option.{some, some-injective, some-ne-none}
use lib.ListN.{get_elem?}
use Rattle.cell_words.specs.Term.{Term, null, num}
use Rattle.run_limits.specs.declared.TheConstants.{MOST_CLIENTS, MOST_COMMANDS}
use Rattle.doc_tree.specs.Tree.{DocTree}
use Rattle.heap_rule.specs.Boxes.{Map, Payload}
use Rattle.heap_rule.specs.Lore.{Plain}
use Rattle.version_rule.specs.Fits.{Fits, HasTree}
use Rattle.version_rule.specs.Pass.{Commit, Pass, Reading, commit_numbers, cutting, reading, seeing}
use Rattle.version_rule.specs.Versions.{HoldsVersions, IsInStep, IsVersion}
use Rattle.version_rule.proofs.Made.{versions_kept}
use Rattle.heap_rule.proofs.Entries.{num_inj, same_entry}
use Rattle.heap_rule.proofs.Numbered.{not_anchor}
use Rattle.version_rule.proofs.Trees.{fits_cutting, fits_reading, fits_seeing}

-- what is so of all is so of the one at a place
pub all_at : {A : Type 0} (P : A → Type 0) (xs : List A) (i : ℕ) (x : A) → get_elem? xs i ≡ some x
    → All P xs → P x
all_at P [] i x at all = absurd (some-ne-none x (sym at))
all_at P (a ∷ xs) zero x at all = subst P (some-injective a x at) (All-head P a xs all)
all_at P (a ∷ xs) (suc i) x at all = all_at P xs i x at (All-tail P a xs all)

max_above : (a b n : ℕ) → n ≤ a → n ≤ max a b
max_above a b n le = omega (arith, le)

max_other : (a b : ℕ) → b ≤ max a b
max_other a b = omega arith

max_both : (a b c d : ℕ) → a ≤ c → max a b ≤ max c b
max_both a b c d le = omega (arith, le)

-- it is one of the two
max_is : (P : ℕ → Type 0) (a b : ℕ) → P a → P b → P (max a b)
max_is P a b one other = elim (cases_lt a b) [
  | inl lt ↦ subst P (let e : b ≡ max a b = omega (arith, lt) in e) other
  | inr le ↦ subst P (let e : a ≡ max a b = omega (arith, le) in e) one
]

-- no more than so many commits in each of all passes
pub numbers_few : (keep : ℕ) (map : Map) (passes : List Pass) → All (IsInStep keep map) passes
    → length (flat_map commit_numbers passes) ≤ MOST_COMMANDS * length passes
numbers_few keep map [] all = omega arith
numbers_few keep map (p ∷ passes) all =
    let few = (All-head (IsInStep keep map) p passes all).few in
    let rest = numbers_few keep map passes (All-tail (IsInStep keep map) p passes all) in
    let both = length-append (commit_numbers p) (flat_map commit_numbers passes) in
    let many = length-map p.commits (λ (c : Commit). c.number) in
    omega (arith, few, rest, both, many)

module _ (keep : ℕ) (map : Map) (p : Pass) (is : IsInStep keep map p) where
  reads_on : (n : ℕ) → All (λ (r : Reading). r.number ≤ max p.seen n) p.reads
  reads_on n = All-weaker (λ (r : Reading). r.number ≤ p.seen)
      (λ (r : Reading). r.number ≤ max p.seen n) (λ r. max_above p.seen n r.number) p.reads
      is.reads_seen

  commits_on : (n : ℕ) → All (λ (c : Commit). c.number ≤ max p.seen n) p.commits
  commits_on n = All-weaker (λ (c : Commit). c.number ≤ p.seen)
      (λ (c : Commit). c.number ≤ max p.seen n) (λ c. max_above p.seen n c.number) p.commits
      is.commits_seen

  in_step_seeing : (n : ℕ) → IsInStep keep map (seeing n p)
  in_step_seeing n = record {
    keeps = is.keeps;
    few = is.few;
    reads_seen = reads_on n;
    commits_seen = commits_on n;
    cut_seen = max_above p.seen n p.cut is.cut_seen;
    cut_is = is.cut_is;
  }

  in_step_reading : (n : ℕ) (t : DocTree) → IsInStep keep map (reading n t p)
  in_step_reading n t = record {
    keeps = is.keeps;
    few = is.few;
    reads_seen = All-push (λ (r : Reading). r.number ≤ max p.seen n) p.reads
        record { number = n; tree = t } (reads_on n) (max_other p.seen n);
    commits_seen = commits_on n;
    cut_seen = max_above p.seen n p.cut is.cut_seen;
    cut_is = is.cut_is;
  }

  in_step_cutting : (n : ℕ)
      → ((x : ℕ) (q : Payload) → map x ≡ Some q → q 0 ≡ Plain (num n) → q 2 ≡ Plain null)
      → IsInStep keep map (cutting n p)
  in_step_cutting n cut = record {
    keeps = is.keeps;
    few = is.few;
    reads_seen = reads_on n;
    commits_seen = commits_on n;
    cut_seen = max_both p.cut n p.seen n is.cut_seen;
    cut_is = max_is (λ (c : ℕ). (x : ℕ) (q : Payload) → map x ≡ Some q → q 0 ≡ Plain (num c)
        → q 2 ≡ Plain null) p.cut n is.cut_is cut;
  }

module _ (is_tree : Term → Type 0) (tree_of : Term → DocTree) (map : Map) (passes : List Pass)
    (h : HoldsVersions is_tree tree_of map passes) where
  -- the box of a version
  pub version_of : (x : ℕ) (q : Payload) (u : ℕ) → map x ≡ Some q → q 0 ≡ Plain (num u)
      → IsVersion is_tree tree_of h.keep h.trees map q
  version_of x q u at is =
      h.boxes x q
      (not_anchor map (length h.trees - 1) x u h.latest
      record { box = q; there = at; number_is = is }) at

  pub made_of : (x : ℕ) (q : Payload) (u : ℕ) → map x ≡ Some q → q 0 ≡ Plain (num u)
      → u < length h.trees
  made_of x q u at is =
      let version = version_of x q u at is in
      let same : version.number ≡ u = num_inj version.number u (sym version.number_is ∙ is) in
      subst (λ (n : ℕ). n < length h.trees) same version.made

  module _ (i : ℕ) (p : Pass) (at : get_elem? passes i ≡ some p) where
    pub fits_at : Fits h.trees p
    fits_at = all_at (Fits h.trees) passes i p at h.versions.fits

    pub in_step_at : IsInStep h.keep map p
    in_step_at = all_at (IsInStep h.keep map) passes i p at h.in_step

    pub repassed : (q : Pass) → commit_numbers q ≡ commit_numbers p → Fits h.trees q
        → IsInStep h.keep map q
        → HoldsVersions is_tree tree_of map (set passes i q)
    repassed q same fits step = record {
      keep = h.keep;
      trees = h.trees;
      keeps_some = h.keeps_some;
      keeps_few = h.keeps_few;
      few = subst (λ (n : ℕ). n ≤ MOST_CLIENTS) (sym (length-set passes i q)) h.few;
      versions = versions_kept passes h.trees i p q at same fits h.versions;
      in_step = All-set (IsInStep h.keep map) passes i q step h.in_step;
      latest = h.latest;
      boxes = h.boxes;
      apart = h.apart;
    }

    -- it knows of a version that there is
    pub seen_stands : (n : ℕ) → n < length h.trees
        → HoldsVersions is_tree tree_of map (set passes i (seeing n p))
    seen_stands n lt = repassed (seeing n p) refl (fits_seeing h.trees n p fits_at lt)
        (in_step_seeing h.keep map p in_step_at n)

    -- it read the tree of one
    pub read_stands : (n : ℕ) (t : DocTree) → HasTree h.trees n t
        → HoldsVersions is_tree tree_of map (set passes i (reading n t p))
    read_stands n t has = repassed (reading n t p) refl (fits_reading h.trees n t p fits_at has)
        (in_step_reading h.keep map p in_step_at n t)

    -- it knows that the link of one is cut
    pub cut_stands : (x : ℕ) (q : Payload) (n : ℕ) → map x ≡ Some q → q 0 ≡ Plain (num n)
        → q 2 ≡ Plain null
        → HoldsVersions is_tree tree_of map (set passes i (cutting n p))
    cut_stands x q n there is none = repassed (cutting n p) refl
        (fits_cutting h.trees n p fits_at (made_of x q n there is))
        (in_step_cutting h.keep map p in_step_at n
        (λ y r other says.
        let same : x ≡ y = h.apart x y n record { box = q; there = there; number_is = is }
        record { box = r; there = other; number_is = says } in
        sym (same_entry map x 2 q r there
        (subst (λ (c : ℕ). map c ≡ Some r) (sym same) other)) ∙ none))
