-- Where an element of joined lists stands, and the last of rising numbers.
use Rattle.std.proofs.Common.{◌≡◌, ℕ, zero, suc, ◌+◌, ◌<◌, List, [], ◌∷◌}
use Rattle.std.proofs.Common.{◌++◌, flat_map}
use Rattle.std.proofs.Common.{inl, inr, refl, ◌∙◌, ap, subst, arith}
use Rattle.std.specs.List.{Contains}
use Rattle.std.proofs.lemmas.List.Elements.{Contains-append_cases, Contains-append_right}
use mathlib.Core.Option.{some}
use lib.ListN.{get_elem?}
use Rattle.version_rule.proofs.Tying.{oks_append}
use Rattle.doc_model.specs.Agreement.{ok_places, rising}
use Rattle.doc_model.specs.ClientLog.{ClientLog}
use Rattle.doc_model.specs.Merge.{all_entries}

-- the list of one of these has it
pub record IsFoundIn {A B : Type 0} (f : A → List B) (xs : List A) (b : B) : Type 0 where
  pub index : ℕ
  pub item : A
  pub item_at : get_elem? xs index ≡ some item
  pub has : Contains (f item) b

module _ {A B : Type 0} (f : A → List B) where
  found_later : (x : A) (xs : List A) (b : B) → IsFoundIn f xs b → IsFoundIn f (x ∷ xs) b
  found_later x xs b found = record {
    index = suc found.index;
    item = found.item;
    item_at = found.item_at;
    has = found.has;
  }

  pub found_in : (xs : List A) (b : B) → Contains (flat_map f xs) b → IsFoundIn f xs b
  found_in [] b there = absurd (let below : there.0 < 0 = there.1 in omega (arith, below))
  found_in (x ∷ xs) b there = elim (Contains-append_cases (f x) (flat_map f xs) b there) [
    | inl here ↦ record { index = zero; item = x; item_at = refl; has = here }
    | inr later ↦ found_later x xs b (found_in xs b later)
  ]

pub last_risen : (n k m : ℕ) → m ≡ (n + k) + 1 → Contains (rising n (suc k)) m
last_risen n zero m is =
    subst (λ (x : ℕ). Contains (x ∷ []) m) (let e : m ≡ n + 1 = omega (arith, is) in e)
    (zero, omega arith, refl)
last_risen n (suc k) m is =
    Contains-append_right ((n + 1) ∷ []) (rising (n + 1) (suc k)) m
    (last_risen (n + 1) k m (omega (arith, is)))

-- The numbers of the versions that the logs made are those of each log, one log after another.

abbrev pub oks_of : ClientLog → List ℕ
oks_of g = ok_places g.entries

pub oks_joined : (logs : List ClientLog) → ok_places (all_entries logs) ≡ flat_map oks_of logs
oks_joined [] = refl
oks_joined (g ∷ logs) =
    oks_append g.entries (all_entries logs)
    ∙ ap (λ (ns : List ℕ). oks_of g ++ ns) (oks_joined logs)
