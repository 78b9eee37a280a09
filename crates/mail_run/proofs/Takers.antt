-- Where only one mutator takes, it took the items from the first one on.
use Rattle.std.proofs.Common.{◌≡◌, ◌≢◌, ℕ, suc, ◌+◌, ◌<◌, Bool, List, [], ◌∷◌, length, All}
use Rattle.std.proofs.Common.{inl, inr, refl, sym, ◌∙◌, ap, arith, if◌then◌else◌}
use Rattle.std.specs.List.{range_with_len}
use Rattle.std.proofs.lemmas.Bool.{cases_eq, eq-eqb, ne_eqb}
use Rattle.std.proofs.lemmas.List.Elements.{All-head, All-tail}
use Rattle.mail_rule.specs.Items.{positions_of}

module _ (who one first : ℕ) (others : List ℕ) where
  at_first : one ≡ who
      → positions_of who first (one ∷ others) ≡ first ∷ positions_of who (first + 1) others
  at_first same =
      ap (λ (here : Bool). if here then first ∷ positions_of who (first + 1) others
      else positions_of who (first + 1) others) (eq-eqb one who same)

  not_first : one ≢ who
      → positions_of who first (one ∷ others) ≡ positions_of who (first + 1) others
  not_first other =
      ap (λ (here : Bool). if here then first ∷ positions_of who (first + 1) others
      else positions_of who (first + 1) others) (ne_eqb one who other)

-- A mutator without positions among these items has none after the first either.
none_after : (who one first : ℕ) (others : List ℕ)
    → positions_of who first (one ∷ others) ≡ [] → positions_of who (first + 1) others ≡ []
none_after who one first others none = elim (cases_eq one who) [
  | inl same ↦ absurd (
      let is : first ∷ positions_of who (first + 1) others ≡ [] =
      sym (at_first who one first others same) ∙ none in
      let many : suc (length (positions_of who (first + 1) others)) ≡ 0 =
      ap (λ (ns : List ℕ). length ns) is in omega (arith, many))
  | inr other ↦ sym (not_first who one first others other) ∙ none
]

-- the last of the mutators took all, where no other took any
pub one_took : (last first : ℕ) (takers : List ℕ)
    → All (λ (number : ℕ). number < last + 1) takers
    → ((i : ℕ) → i < last → positions_of i first takers ≡ [])
    → positions_of last first takers ≡ range_with_len first (length takers)
one_took last first [] few none = refl
one_took last first (one ∷ takers) few none = elim (cases_eq one last) [
  | inl same ↦
      at_first last one first takers same
      ∙ ap (λ (ns : List ℕ). first ∷ ns)
      (one_took last (first + 1) takers
      (All-tail (λ (number : ℕ). number < last + 1) one takers few)
      (λ i lt. none_after i one first takers (none i lt)))
  | inr other ↦ absurd (
      let low = All-head (λ (number : ℕ). number < last + 1) one takers few in
      let lt : one < last = omega (arith, low, other) in
      let is : first ∷ positions_of one (first + 1) takers ≡ [] =
      sym (at_first one one first takers refl) ∙ none one lt in
      let many : suc (length (positions_of one (first + 1) takers)) ≡ 0 =
      ap (λ (ns : List ℕ). length ns) is in omega (arith, many))
]
