-- What the numbers of places from before a move name after it.
use Rattle.std.proofs.Common.{ℕ, ◌<◌, ◌≤◌, inl, inr, arith}
use Rattle.heap_c.specs.Turns.{NamesNone, NamesPlace, Renumbers}
use Rattle.heap_c.specs.declared.turns.Turns.{Turns}

module _ (t later : Turns) (le : later.steady ≤ t.steady) (next : t.turn < later.turn) where
  kept : (n place : ℕ) → place < later.steady → NamesPlace t n place → NamesPlace later n place
  kept n place lt (inl at) = inl (lt, at.1)
  kept n place lt (inr at) = let more = at.0 in absurd (omega (arith, le, lt, more))

  stale : (n place : ℕ) → later.steady ≤ place → place < 4294967296 → NamesPlace t n place
      → NamesNone later n
  stale n place more lt (inl at) other (inl too) =
      let is = at.1 in
      let less = too.0 in
      let same = too.1 in
      omega (arith, more, is, less, same)
  stale n place more lt (inl at) other (inr too) =
      let is = at.1 in let same = too.1 in omega (arith, lt, next, is, same)
  stale n place more lt (inr at) other (inl too) =
      let is = at.1 in
      let less = too.0 in
      let same = too.1 in
      omega (arith, more, is, less, same)
  stale n place more lt (inr at) other (inr too) =
      let is = at.1 in let same = too.1 in omega (arith, lt, next, is, same)

  pub renumbered : Renumbers t later
  renumbered = record {
    kept = kept;
    stale = stale;
    records = λ number other lt same. omega (arith, lt, next, same);
  }
