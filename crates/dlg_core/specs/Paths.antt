-- Paths of a graph whose points are numbers, computed by Warshall's recursion.
-- Source: S. Warshall, "A theorem on Boolean matrices", JACM 1962 (the recursion on the inner
-- points of a path).
use Rattle.std.specs.Prelude.{ℕ, zero, suc, Bool, true, false, ◌==◌, if◌then◌else◌}

-- a path of edges leads from x to y, and all of its inner points are below k
abbrev pub path : (ℕ → ℕ → Bool) → ℕ → ℕ → ℕ → Bool
path edge zero x y = (if x == y then true else edge x y)
path edge (suc k) x y =
    (if path edge k x y then true else (if path edge k x k then path edge k k y else false))
