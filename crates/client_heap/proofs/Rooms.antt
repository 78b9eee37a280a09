-- Whether there is room for an edit, as it is looked up and in the words of the session.
use Rattle.std.proofs.Common.{◌≡◌, ◌<◌, ◌≤◌, ◌+◌, ◌⊎◌, ◌&&◌, ℕ, length, nat_le, inl, inr}
use Rattle.std.proofs.Common.{Bool, ap, sym, ◌∙◌, arith}
use Rattle.std.proofs.lemmas.Bool.{cases_lt, le-leb, lt-leb}
use Rattle.client_trees.specs.declared.at.NodeAt.{NodeAt}
use Rattle.minor_heap.specs.Nursery.{Nursery}
use Rattle.mutator_seat.specs.Bound.{Bound}
use Rattle.version_rule.specs.Pass.{Pass}
use Rattle.client_heap.specs.Shows.{state_of}
use Rattle.client_heap.specs.Sound.{is_cleared}

le_same : (a b c d : ℕ) → (a ≤ b → c ≤ d) → (b < a → d < c) → nat_le a b ≡ nat_le c d
le_same a b c d more less = by_size (cases_lt b a)
  where
    by_size : (b < a) ⊎ (a ≤ b) → nat_le a b ≡ nat_le c d
    by_size (inl lt) = lt-leb a b lt ∙ sym (lt-leb c d (less lt))
    by_size (inr le) = le-leb a b le ∙ sym (le-leb c d (more le))

module _ (m : Bound Pass) (minor : Nursery) where
  -- by the free places, and if these are enough by the free records
  module _ (records left : ℕ) (many : records ≡ length minor.records)
      (room : length m.seat.me.own.held + left ≡ m.seat.me.room) where
    pub cleared_places : left < 20_480 + records
        → nat_le (20_480 + records) left ≡ is_cleared m minor
    cleared_places lt =
        lt-leb _ _ lt
        ∙ sym (ap (λ (b : Bool). b && nat_le (length minor.records + 2_285) minor.room)
        (lt-leb _ _ (omega (arith, lt, many, room))))

    pub cleared_records : (spare : ℕ) → spare + length minor.records ≡ minor.room
        → 20_480 + records ≤ left → nat_le 2_285 spare ≡ is_cleared m minor
    cleared_records spare rest le =
        le_same _ _ _ _ (λ more. omega (arith, more, rest)) (λ less. omega (arith, less, rest))
        ∙ sym (ap (λ (b : Bool). b && nat_le (length minor.records + 2_285) minor.room)
        (le-leb _ _ (omega (arith, le, many, room))))

  pub cleared_shows : (d : NodeAt) (b : ℕ) → is_cleared m minor
      ≡ (nat_le 20_480 (state_of m minor d b).room && nat_le 2_285 (state_of m minor d b).spare)
  cleared_shows d b =
      let places : nat_le (length m.seat.me.own.held + length minor.records + 20_480) m.seat.me.room
      ≡ nat_le 20_480 (state_of m minor d b).room =
      le_same _ _ _ _ (λ le. omega (arith, le)) (λ lt. omega (arith, lt)) in
      let records : nat_le (length minor.records + 2_285) minor.room
      ≡ nat_le 2_285 (state_of m minor d b).spare =
      le_same _ _ _ _ (λ le. omega (arith, le)) (λ lt. omega (arith, lt)) in
      λ j. places j && records j
