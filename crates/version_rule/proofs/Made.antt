-- The numbers of the commits of all passes, as one pass makes the next version.
use Rattle.std.proofs.Common.{◌≡◌, ℕ, zero, suc, ◌+◌, ◌-◌, ◌≤◌, List, [], ◌∷◌}
use Rattle.std.proofs.Common.{◌++◌, length, flat_map, set, IsPermutation, refl, sym, ◌∙◌, ap, subst}
use Rattle.std.proofs.Common.{arith}
use Rattle.std.proofs.lemmas.List.{append_assoc, length_push, map-append}
use Rattle.std.proofs.lemmas.List.Elements.{All-set, All-weaker}
use Rattle.std.proofs.lemmas.List.Sorted.{IsPermutation-append_comm, IsPermutation-append_left}
use Rattle.std.proofs.lemmas.List.Sorted.{IsPermutation-append_right}
use Rattle.std.proofs.lemmas.List.Sorted.{IsPermutation-trans, length_permutation}
use mathlib.Core.Option.{some, some-injective, some-ne-none}
use lib.ListN.{get_elem?}
use Rattle.doc_tree.specs.Tree.{DocTree}
use Rattle.doc_model.specs.Agreement.{EachOnce, rising}
use Rattle.version_rule.specs.Fits.{Fits, HasTree, HasVersions}
use Rattle.version_rule.specs.Pass.{Pass, commit_numbers, committed}
use Rattle.version_rule.proofs.Trees.{fits_committed, fits_more, has_last, has_still, tree_still}

-- Lists of numbers, one of which is longer by one.

module _ {A : Type 0} (f : A → List ℕ) where
  pub numbers_kept : (xs : List A) (i : ℕ) (x y : A) → get_elem? xs i ≡ some x → f y ≡ f x
      → flat_map f (set xs i y) ≡ flat_map f xs
  numbers_kept [] i x y at same = refl
  numbers_kept (a ∷ xs) zero x y at same =
      ap (λ (ns : List ℕ). ns ++ flat_map f xs) (same ∙ ap f (sym (some-injective a x at)))
  numbers_kept (a ∷ xs) (suc i) x y at same =
      ap (λ (ns : List ℕ). f a ++ ns) (numbers_kept xs i x y at same)

  pub numbers_more : (xs : List A) (i n : ℕ) (x y : A) → get_elem? xs i ≡ some x
      → f y ≡ f x ++ n ∷ []
      → IsPermutation (flat_map f xs ++ n ∷ []) (flat_map f (set xs i y))
  numbers_more [] i n x y at more = absurd (some-ne-none x (sym at))
  numbers_more (a ∷ xs) zero n x y at more =
      let is : f y ≡ f a ++ n ∷ [] = more ∙ ap (λ (z : A). f z ++ n ∷ [])
      (sym (some-injective a x at)) in
      let moved = IsPermutation-append_right (f a) (flat_map f xs ++ n ∷ [])
      ((n ∷ []) ++ flat_map f xs) (IsPermutation-append_comm (flat_map f xs) (n ∷ [])) in
      subst (λ (ms : List ℕ). IsPermutation ((f a ++ flat_map f xs) ++ n ∷ [])
      (ms ++ flat_map f xs)) (sym is)
      (subst (λ (ms : List ℕ). IsPermutation ((f a ++ flat_map f xs) ++ n ∷ []) ms)
      (sym (append_assoc (f a) (n ∷ []) (flat_map f xs)))
      (subst (λ (ms : List ℕ). IsPermutation ms (f a ++ ((n ∷ []) ++ flat_map f xs)))
      (sym (append_assoc (f a) (flat_map f xs) (n ∷ []))) moved))
  numbers_more (a ∷ xs) (suc i) n x y at more =
      subst (λ (ms : List ℕ). IsPermutation ms (f a ++ flat_map f (set xs i y)))
      (sym (append_assoc (f a) (flat_map f xs) (n ∷ [])))
      (IsPermutation-append_right (f a) (flat_map f xs ++ n ∷ []) (flat_map f (set xs i y))
      (numbers_more xs i n x y at more))

-- Numbers from 1 on, each once, stay so with the next one.

rising_more : (i k n : ℕ) → n ≡ (i + k) + 1 → rising i (suc k) ≡ rising i k ++ n ∷ []
rising_more i zero n is = ap (λ (m : ℕ). m ∷ []) (let e : i + 1 ≡ n = omega (arith, is) in e)
rising_more i (suc k) n is =
    ap (λ (ns : List ℕ). (i + 1) ∷ ns) (rising_more (i + 1) k n (omega (arith, is)))

pub once_more : (ms ns : List ℕ) (n : ℕ) → n ≡ length ms + 1 → EachOnce ms
    → IsPermutation (ms ++ n ∷ []) ns → EachOnce ns
once_more ms ns n is once moved =
    let long : length ns ≡ suc (length ms) =
    length_permutation (ms ++ n ∷ []) ns moved ∙ length_push ms n ∙ omega arith in
    let up : rising 0 (length ns) ≡ rising 0 (length ms) ++ n ∷ [] =
    ap (rising 0) long ∙ rising_more 0 (length ms) n (omega (arith, is)) in
    subst (λ (rs : List ℕ). IsPermutation rs ns) (sym up)
    (IsPermutation-trans (rising 0 (length ms) ++ n ∷ []) (ms ++ n ∷ []) ns
    (IsPermutation-append_left (n ∷ []) (rising 0 (length ms)) ms once) moved)

-- The versions of all passes.

-- one pass changes, and not what it made
pub versions_kept : (passes : List Pass) (trees : List DocTree) (i : ℕ) (p q : Pass)
    → get_elem? passes i ≡ some p → commit_numbers q ≡ commit_numbers p → Fits trees q
    → HasVersions passes trees → HasVersions (set passes i q) trees
versions_kept passes trees i p q at same fits has =
    let numbers = numbers_kept commit_numbers passes i p q at same in
    record {
      opens = has.opens;
      fits = All-set (Fits trees) passes i q fits has.fits;
      made = has.made ∙ ap (λ (ns : List ℕ). length ns + 1) (sym numbers);
      once = subst (λ (ns : List ℕ). EachOnce ns) (sym numbers) has.once;
    }

-- one pass makes the next version
pub versions_more : (passes : List Pass) (trees : List DocTree) (i n : ℕ) (p : Pass)
    (before made : DocTree) → get_elem? passes i ≡ some p → Fits trees p
    → n ≡ length trees → HasTree trees (n - 1) before → 1 ≤ n
    → HasVersions passes trees
    → HasVersions (set passes i (committed n before made p)) (trees ++ made ∷ [])
versions_more passes trees i n p before made at fits is was least has =
    let q = committed n before made p in
    let numbers : IsPermutation (flat_map commit_numbers passes ++ n ∷ [])
    (flat_map commit_numbers (set passes i q)) =
    numbers_more commit_numbers passes i n p q at
    (map-append (λ c. c.number) p.commits
    (record { number = n; before = before; made = made } ∷ [])) in
    let count = has.made in
    record {
      opens = tree_still trees made 0 (omega (arith, is, least)) ∙ has.opens;
      fits = All-set (Fits (trees ++ made ∷ [])) passes i q
          (fits_committed (trees ++ made ∷ []) n before made p (fits_more trees made p fits) least
          (has_still trees made (n - 1) before was) (has_last trees made n is))
          (All-weaker (Fits trees) (Fits (trees ++ made ∷ [])) (fits_more trees made) passes
          has.fits);
      made =
          let long = length_permutation (flat_map commit_numbers passes ++ n ∷ [])
          (flat_map commit_numbers (set passes i q)) numbers in
          let pushed = length_push (flat_map commit_numbers passes) n in
          let more = length_push trees made in omega (arith, long, pushed, more, count);
      once = once_more (flat_map commit_numbers passes)
          (flat_map commit_numbers (set passes i q)) n (is ∙ count) has.once numbers;
    }
