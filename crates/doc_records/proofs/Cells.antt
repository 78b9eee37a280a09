-- A chain that is read cell by cell: how many cells are left, and the places that they take.
use Rattle.std.proofs.Common.{◌≡◌, ◌+◌, ◌-◌, ◌<◌, ◌≤◌, ℕ, arith}
use Rattle.cell_words.specs.Term.{Term, part, IsFive}
use Rattle.doc_records.specs.declared.pool.Part.{Part}
use Rattle.doc_records.specs.declared.pool.Part.TheVariants as parts
use Rattle.doc_records.specs.Pool.{Shown, Stands, part_term, places_of}
use Rattle.doc_records.specs.Shapes.{cells_of}
use Rattle.doc_records.proofs.Chains.{cells_next}

pub cells_then : (t u : Term) → IsFive t → u ≡ part 4 t → cells_of t ≡ cells_of u + 1
cells_then t u is next = rw next (cells_next t is)

-- the places: one for each cell but the first
pub cell_place : (n k h m : ℕ) → n ≡ k + 1 → h + n ≤ m → h < m
cell_place n k h m whole fits = omega (arith, whole, fits)

pub next_place : (n k h0 h1 m0 m1 : ℕ) → n ≡ k + 1 → h0 + n ≤ m0 → h1 ≡ h0 → m1 ≡ m0 → h1 < m1
next_place n k h0 h1 m0 m1 whole fits a1 b1 = omega (arith, whole, fits, a1, b1)

pub next_fits : (n k h0 h1 h2 m0 m1 m2 : ℕ) → n ≡ k + 1 → h0 + n ≤ m0 → h1 ≡ h0 → m1 ≡ m0
    → h2 ≤ h1 + 1 → m2 ≡ m1 → h2 + k ≤ m2
next_fits n k h0 h1 h2 m0 m1 m2 whole fits a1 b1 a2 b2 =
    omega (arith, whole, fits, a1, b1, a2, b2)

pub next_less : (n k t : ℕ) → n ≡ k + 1 → n ≡ t → k < t
next_less n k t whole all = omega (arith, whole, all)

pub cell_held : (n h0 h1 : ℕ) → h1 ≡ h0 → h1 ≤ h0 + n
cell_held n h0 h1 a1 = omega (arith, a1)

pub next_held : (n k p h0 h1 h2 h3 : ℕ) → n ≡ k + 1 → h1 ≡ h0 → h2 ≤ h1 + p → h2 ≤ h1 + 1 → p ≤ k
    → h3 ≤ h2 + (k - 1) → h3 ≤ h0 + (n - 1)
next_held n k p h0 h1 h2 h3 whole a1 a2 one some a3 = omega (arith, whole, a1, a2, one, some, a3)

pub place_cell : {A F : Type 0} (s : Shown A F) (p : Part A) → Stands s p
    → places_of p ≤ cells_of (part_term s.term p)
place_cell s parts.Null is = omega arith
place_cell s (parts.Num n) is = omega arith
place_cell s (parts.Record a) is = omega (arith, cells_next (s.term a) is.1)
