-- Paths join at an inner point, and what passes along each edge passes along each path.
use Rattle.std.proofs.Common.{◌≡◌, ℕ, zero, suc, Bool, true, ◌<◌, ◌==◌, refl, inl, inr, subst}
use Rattle.std.proofs.Common.{arith, eq-eqb}
use Rattle.std.proofs.lemmas.Bool.{cases_lt, eqb-true}
use Rattle.dlg_core.specs.Paths.{path}
use Rattle.dlg_core.proofs.Truths.{or_left, or_right, or_split, both, both_split}

-- from each point a path leads to itself
pub path_self : (edge : ℕ → ℕ → Bool) (k x : ℕ) → path edge k x x ≡ true
path_self edge zero x = or_left (x == x) (edge x x) (eq-eqb x x refl)
path_self edge (suc k) x = or_left (path edge k x x) _ (path_self edge k x)

-- an edge is a path
pub path_edge : (edge : ℕ → ℕ → Bool) (k x y : ℕ) → edge x y ≡ true → path edge k x y ≡ true
path_edge edge zero x y h = or_right (x == y) (edge x y) h
path_edge edge (suc k) x y h = or_left (path edge k x y) _ (path_edge edge k x y h)

-- a path to the last point that may be inside needs it not inside
to_last : (edge : ℕ → ℕ → Bool) (k x : ℕ) → path edge (suc k) x k ≡ true → path edge k x k ≡ true
to_last edge k x p = elim (or_split (path edge k x k) _ p) [
  | inl a ↦ a
  | inr a ↦ (both_split (path edge k x k) (path edge k k k) a).0
]

-- and so does a path from it
from_last : (edge : ℕ → ℕ → Bool) (k y : ℕ) → path edge (suc k) k y ≡ true → path edge k k y ≡ true
from_last edge k y q = elim (or_split (path edge k k y) _ q) [
  | inl a ↦ a
  | inr a ↦ (both_split (path edge k k k) (path edge k k y) a).1
]

-- two paths join at a point below k
pub joins : (edge : ℕ → ℕ → Bool) (k x m y : ℕ) → m < k
    → path edge k x m ≡ true → path edge k m y ≡ true → path edge k x y ≡ true
joins edge zero x m y lt p q = absurd (omega arith)
joins edge (suc k) x m y lt p q =
    let through : path edge k x k ≡ true → path edge k k y ≡ true → path edge (suc k) x y ≡ true
    = (λ s t. or_right (path edge k x y) _ (both (path edge k x k) (path edge k k y) s t)) in
    elim (cases_lt m k) [
      | inl below ↦ elim (or_split (path edge k x m) _ p) [
        | inl a ↦ elim (or_split (path edge k m y) _ q) [
          | inl b ↦ or_left (path edge k x y) _ (joins edge k x m y below a b)
          | inr b ↦ let r = both_split (path edge k m k) (path edge k k y) b in
              through (joins edge k x m k below a r.0) r.1
        ]
        | inr a ↦ let r = both_split (path edge k x k) (path edge k k m) a in
            elim (or_split (path edge k m y) _ q) [
              | inl b ↦ through r.0 (joins edge k k m y below r.1 b)
              | inr b ↦ through r.0 (both_split (path edge k m k) (path edge k k y) b).1
            ]
      ]
      | inr above ↦
          let same : m ≡ k = omega arith in
          let first : path edge (suc k) x k
          ≡ true = subst (λ n. path edge (suc k) x n ≡ true) same p in
          let second : path edge (suc k) k y
          ≡ true = subst (λ n. path edge (suc k) n y ≡ true) same q in
          through (to_last edge k x first) (from_last edge k y second)
    ]

-- what passes along each edge passes along each path
pub along : (P : ℕ → Type 0) (edge : ℕ → ℕ → Bool) → ((x y : ℕ) → P x → edge x y ≡ true → P y)
    → (k x y : ℕ) → path edge k x y ≡ true → P x → P y
along P edge step zero x y p here = elim (or_split (x == y) (edge x y) p) [
  | inl e ↦ let same : x ≡ y = eqb-true x y e in subst P same here
  | inr e ↦ step x y here e
]
along P edge step (suc k) x y p here = elim (or_split (path edge k x y) _ p) [
  | inl a ↦ along P edge step k x y a here
  | inr a ↦ let r = both_split (path edge k x k) (path edge k k y) a in
      along P edge step k k y r.1 (along P edge step k x k r.0 here)
]
