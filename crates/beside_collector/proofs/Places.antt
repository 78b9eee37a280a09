-- Workers by their places: the last one apart, and together with all others.
use Rattle.std.proofs.Common.{◌≡◌, ◌+◌, ℕ, suc, List, [], ◌∷◌, ◌++◌, length}
use Rattle.std.proofs.Common.{sym, ◌∙◌, ap, arith, subst}
use Rattle.beside_collector.specs.Places.{AllFrom}

module _ {W : Type 0} (F : ℕ → W → Type 0) where
  later : (place : ℕ) (xs ys : List W) → AllFrom F (place + 1 + length xs) ys
      → AllFrom F (place + suc (length xs)) ys
  later place xs ys all =
      let same : place + 1 + length xs ≡ place + suc (length xs) = omega arith in
      subst (λ (k : ℕ). AllFrom F k ys) same all

  sooner : (place : ℕ) (xs ys : List W) → AllFrom F (place + suc (length xs)) ys
      → AllFrom F (place + 1 + length xs) ys
  sooner place xs ys all =
      let same : place + suc (length xs) ≡ place + 1 + length xs = omega arith in
      subst (λ (k : ℕ). AllFrom F k ys) same all

  pub all_front : (place : ℕ) (xs ys : List W) → AllFrom F place (xs ++ ys) → AllFrom F place xs
  all_front place [] ys all = tt
  all_front place (x ∷ xs) ys all = (all.0, all_front (place + 1) xs ys all.1)

  pub all_back : (place : ℕ) (xs ys : List W) → AllFrom F place (xs ++ ys)
      → AllFrom F (place + length xs) ys
  all_back place [] ys all =
      let same : place ≡ place + 0 = omega arith in
      subst (λ (k : ℕ). AllFrom F k ys) same all
  all_back place (x ∷ xs) ys all = later place xs ys (all_back (place + 1) xs ys all.1)

  pub all_both : (place : ℕ) (xs ys : List W) → AllFrom F place xs
      → AllFrom F (place + length xs) ys → AllFrom F place (xs ++ ys)
  all_both place [] ys front back =
      let same : place + 0 ≡ place = omega arith in
      subst (λ (k : ℕ). AllFrom F k ys) same back
  all_both place (x ∷ xs) ys front back =
      (front.0, all_both (place + 1) xs ys front.1 (sooner place xs ys back))

  -- one more, at the next place
  pub all_push : (place : ℕ) (xs : List W) (one : W) → AllFrom F 0 xs → length xs ≡ place
      → F place one → AllFrom F 0 (xs ++ one ∷ [])
  all_push place xs one all many is =
      let here : place ≡ 0 + length xs = omega (arith, many) in
      all_both 0 xs (one ∷ []) all (subst (λ (k : ℕ). F k one) here is, tt)

-- a worker that is ready knows its place
module _ {W : Type 0} (place_of : W → ℕ) (Ready Done : ℕ → W → Type 0)
    (placed : (place : ℕ) (one : W) → Ready place one → place_of one ≡ place) where
  -- the last one is ready at the place that it has
  pub last_ready : (front : List W) (last : W) → AllFrom Ready 0 (front ++ last ∷ [])
      → Ready (place_of last) last
  last_ready front last all =
      let at = (all_back Ready 0 front (last ∷ []) all).0 in
      subst (λ (k : ℕ). Ready k last) (sym (placed (0 + length front) last at)) at

  -- and done there, after all others
  pub last_done : (front : List W) (last : W) (left : List W) (now : W)
      → AllFrom Ready 0 (front ++ last ∷ []) → length left ≡ length front
      → AllFrom Done 0 left → Done (place_of last) now → AllFrom Done 0 (left ++ now ∷ [])
  last_done front last left now all many others done =
      let at = (all_back Ready 0 front (last ∷ []) all).0 in
      all_both Done 0 left (now ∷ []) others (
        subst (λ (k : ℕ). Done k now)
            (placed (0 + length front) last at ∙ ap (λ (k : ℕ). 0 + k) (sym many)) done,
        tt,
      )

  -- all are ready: those but the last one, and that
  pub last_apart : (all front : List W) (last : W) → all ≡ front ++ last ∷ [] → AllFrom Ready 0 all
      → AllFrom Ready 0 front × Ready (place_of last) last
  last_apart all front last is ready =
      let each = subst (λ (xs : List W). AllFrom Ready 0 xs) is ready in
      (all_front Ready 0 front (last ∷ []) each, last_ready front last each)

  -- all are done, where those but the last one are, and that
  pub last_behind : (all front : List W) (last : W) (left : List W) (now : W) (done : List W)
      → all ≡ front ++ last ∷ [] → AllFrom Ready 0 all → length left ≡ length front
      → AllFrom Done 0 left → Done (place_of last) now → done ≡ left ++ now ∷ []
      → AllFrom Done 0 done
  last_behind all front last left now done is ready many others one are =
      let each = subst (λ (xs : List W). AllFrom Ready 0 xs) is ready in
      subst (λ (xs : List W). AllFrom Done 0 xs) (sym are)
      (last_done front last left now each many others one)
