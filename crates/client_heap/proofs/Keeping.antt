-- Choosing what stays held.
use Rattle.std.proofs.Common.{◌≡◌, ◌<◌, ◌≤◌, ◌+◌, ℕ, zero, suc, List, [], ◌∷◌, ◌++◌, length, take}
use Rattle.std.proofs.Common.{drop, refl, sym}
use Rattle.std.proofs.Common.{◌∙◌, ap, subst, arith}
use Rattle.std.specs.Prelude.{slice_index_or}
use Rattle.client_trees.proofs.Places.{at_copy, at_kept, copied_many, cut_many}
use Rattle.core_machine.specs.Places.{no_place}
use Rattle.core_machine.specs.declared.events.Event.TheVariants as event
use Rattle.core_machine.specs.declared.events.Found.{Found}
use Rattle.heap_rule.specs.Asks.{known_of}
use Rattle.heap_rule.specs.Lore.{known_at, nothing_learned}
use Rattle.heap_rule.specs.declared.known.Known.{Known}
use Rattle.heap_rule.specs.declared.known.Known.TheVariants as knows
use Rattle.minor_heap.specs.Nursery.{IsOrdered, Nursery}
use Rattle.mutator_seat.specs.Bound.{Bound, takes}
use Rattle.trails.specs.Asks.{nothing}
use Rattle.version_rule.specs.Fits.{Grows}
use Rattle.version_rule.specs.Pass.{Pass}
use Rattle.version_rule.proofs.Trees.{grows_still}
use Rattle.held_places.specs.Calls.{Goes}
use Rattle.version_store.specs.Calls.{StaysKnown, StillKnown}
use Rattle.version_store.specs.Lasts.{LastsAcross}
use Rattle.held_places.proofs.Going.{goes_told, still_same}
use Rattle.version_store.proofs.Lasting.{goes_same, lasts_by}
use Rattle.client_heap.specs.Carries.{Carries}
use Rattle.client_heap.proofs.Carrying.{carries_known}
use Rattle.version_rule.specs.Versions.{is_fixed}

-- the first places, and so many cells after them from a place on
module _ (m n : Bound Pass) (many from copies : ℕ) (p : Found)
    (told : n ≡ takes m (event.Keep m.seat.me.number many from copies) p)
    (fit : length m.seat.me.known ≡ length m.seat.me.own.held)
    (few : many ≤ length m.seat.me.own.held) where
  keep_goes : Goes [] m n
  keep_goes = goes_told m n [] (event.Keep m.seat.me.number many from copies) p nothing_learned
      m.seat.me.pass (ap (λ (b : Bound Pass). b.heap) told)
      (ap (λ (b : Bound Pass). b.seat.table) told) (ap (λ (b : Bound Pass). b.seat.me) told) refl
      nothing

  pub keep_pass : n.seat.me.pass ≡ m.seat.me.pass
  keep_pass = ap (λ (b : Bound Pass). b.seat.me.pass) told

  pub keep_claims : n.seat.me.own.claims ≡ m.seat.me.own.claims
  keep_claims = ap (λ (b : Bound Pass). b.seat.me.own.claims) told

  keep_lasts : LastsAcross m n
  keep_lasts = lasts_by m n keep_goes
      (subst (λ (q : Pass). Grows m.seat.me.pass q) (sym keep_pass) (grows_still m.seat.me.pass))
      (let same = keep_claims in omega (arith, same))

  keep_known : StaysKnown many m n
  keep_known place lt =
      subst (λ (k : _). StillKnown (known_of m.seat.me place) k)
      (sym (ap (λ (b : Bound Pass). known_of b.seat.me place) told
      ∙ at_kept knows.Nothing m.seat.me.known (take copies (drop from m.seat.me.known)) many place
      lt (omega (arith, few, fit))))
      (still_same is_fixed (known_of m.seat.me place))

  pub keep_carries : (minor : Nursery) → IsOrdered 0 minor.records
      → many ≤ length n.seat.me.own.held → Carries many m n minor minor
  keep_carries minor ordered longer =
      carries_known many m n minor ordered (goes_same m n keep_goes) keep_lasts keep_known longer

-- only the first places
module _ (m n : Bound Pass) (many : ℕ) (p : Found)
    (told : n ≡ takes m (event.Keep m.seat.me.number many 0 0) p)
    (fit : length m.seat.me.known ≡ length m.seat.me.own.held)
    (few : many ≤ length m.seat.me.own.held) where
  pub cut_held : length n.seat.me.own.held ≡ many
  cut_held = ap (λ (b : Bound Pass). length b.seat.me.own.held) told
      ∙ cut_many no_place m.seat.me.own.held many few

  pub cut_carries : (minor : Nursery) → IsOrdered 0 minor.records → Carries many m n minor minor
  cut_carries minor ordered =
      keep_carries m n many 0 0 p told fit few minor ordered
      (let is = cut_held in omega (arith, is))

-- the first place and one more
module _ (m n : Bound Pass) (place : ℕ) (p : Found)
    (told : n ≡ takes m (event.Keep m.seat.me.number 1 place 1) p)
    (fit : length m.seat.me.known ≡ length m.seat.me.own.held)
    (there : place < length m.seat.me.own.held) where
  some : 1 ≤ length m.seat.me.own.held
  some = omega (arith, there)

  pub alone_held : length n.seat.me.own.held ≡ 2
  alone_held = ap (λ (b : Bound Pass). length b.seat.me.own.held) told
      ∙ copied_many no_place m.seat.me.own.held 1 place some there

  pub alone_known : known_of n.seat.me 1 ≡ known_of m.seat.me place
  alone_known = ap (λ (b : Bound Pass). known_of b.seat.me 1) told
      ∙ at_copy knows.Nothing m.seat.me.known 1 place
      (let one = some in omega (arith, one, fit)) (omega (arith, there, fit))

  pub alone_carries : (minor : Nursery) → IsOrdered 0 minor.records → Carries 1 m n minor minor
  alone_carries minor ordered =
      keep_carries m n 1 place 1 p told fit some minor ordered
      (let is = alone_held in omega (arith, is))

-- Two elements from a place on, after the first one.

module _ {A : Type 0} (d : A) where
  two_after : (xs : List A) (from : ℕ) → suc from < length xs
      → take 2 (drop from xs) ≡ slice_index_or xs from d ∷ slice_index_or xs (suc from) d ∷ []
  two_after [] from lt = absurd (omega (arith, lt))
  two_after (x ∷ []) zero lt = absurd (omega (arith, lt))
  two_after (x ∷ y ∷ xs) zero lt = refl
  two_after (x ∷ xs) (suc from) lt = two_after xs from (omega (arith, lt))

  two_from : (xs : List A) (from : ℕ) → from + 1 < length xs
      → take 2 (drop from xs) ≡ slice_index_or xs from d ∷ slice_index_or xs (from + 1) d ∷ []
  two_from xs from lt =
      let next : suc from ≡ from + 1 = omega arith in
      two_after xs from (omega (arith, lt))
      ∙ ap (λ (k : ℕ). slice_index_or xs from d ∷ slice_index_or xs k d ∷ []) next

  first_behind : (xs : List A) (a b : A) → 1 ≤ length xs
      → slice_index_or (take 1 xs ++ a ∷ b ∷ []) 1 d ≡ a
  first_behind [] a b some = absurd (omega (arith, some))
  first_behind (x ∷ xs) a b some = refl

  second_behind : (xs : List A) (a b : A) → 1 ≤ length xs
      → slice_index_or (take 1 xs ++ a ∷ b ∷ []) 2 d ≡ b
  second_behind [] a b some = absurd (omega (arith, some))
  second_behind (x ∷ xs) a b some = refl

  three_many : (xs : List A) (a b : A) → 1 ≤ length xs
      → length (take 1 xs ++ a ∷ b ∷ []) ≡ 3
  three_many [] a b some = absurd (omega (arith, some))
  three_many (x ∷ xs) a b some = refl

-- all places, and one cell once more after them
module _ (m n : Bound Pass) (many place : ℕ) (p : Found)
    (told : n ≡ takes m (event.Keep m.seat.me.number many place 1) p)
    (fit : length m.seat.me.known ≡ length m.seat.me.own.held)
    (is : many ≡ length m.seat.me.own.held) (there : place < length m.seat.me.own.held) where
  pub again_held : length n.seat.me.own.held ≡ length m.seat.me.own.held + 1
  again_held =
      let more : length n.seat.me.own.held ≡ many + 1 =
      ap (λ (b : Bound Pass). length b.seat.me.own.held) told
      ∙ copied_many no_place m.seat.me.own.held many place (omega (arith, is)) there in
      omega (arith, more, is)

  pub again_known : known_of n.seat.me (length m.seat.me.own.held) ≡ known_of m.seat.me place
  again_known = ap (λ (k : ℕ). known_of n.seat.me k) (sym is)
      ∙ ap (λ (b : Bound Pass). known_of b.seat.me many) told
      ∙ at_copy knows.Nothing m.seat.me.known many place (omega (arith, is, fit))
      (omega (arith, there, fit))

  pub again_still : (k : ℕ) → k < length m.seat.me.own.held
      → known_of n.seat.me k ≡ known_of m.seat.me k
  again_still k lt = ap (λ (b : Bound Pass). known_of b.seat.me k) told
      ∙ at_kept knows.Nothing m.seat.me.known (take 1 (drop place m.seat.me.known)) many k
      (omega (arith, lt, is)) (omega (arith, is, fit))

  pub again_carries : (minor : Nursery) → IsOrdered 0 minor.records
      → Carries (length m.seat.me.own.held) m n minor minor
  again_carries minor ordered =
      subst (λ (k : ℕ). Carries k m n minor minor) is
      (keep_carries m n many place 1 p told fit (omega (arith, is)) minor ordered
      (let more = again_held in omega (arith, more, is)))

-- the first place and two more
module _ (m n : Bound Pass) (place : ℕ) (p : Found)
    (told : n ≡ takes m (event.Keep m.seat.me.number 1 place 2) p)
    (fit : length m.seat.me.known ≡ length m.seat.me.own.held)
    (there : place + 1 < length m.seat.me.own.held) where
  pub two_held : length n.seat.me.own.held ≡ 3
  two_held =
      let xs = m.seat.me.own.held in
      ap (λ (b : Bound Pass). length b.seat.me.own.held) told
      ∙ ap (λ (ys : List _). length (take 1 xs ++ ys)) (two_from no_place xs place there)
      ∙ three_many no_place xs (slice_index_or xs place no_place)
      (slice_index_or xs (place + 1) no_place) (omega (arith, there))

  two_known : n.seat.me.known ≡ take 1 m.seat.me.known
      ++ known_of m.seat.me place ∷ known_of m.seat.me (place + 1) ∷ []
  two_known =
      let xs = m.seat.me.known in
      ap (λ (b : Bound Pass). b.seat.me.known) told
      ∙ ap (λ (ys : List Known). take 1 xs ++ ys)
      (two_from knows.Nothing xs place (omega (arith, there, fit)))

  pub two_first : known_of n.seat.me 1 ≡ known_of m.seat.me place
  two_first = ap (λ (ks : List Known). known_at ks 1) two_known
      ∙ first_behind knows.Nothing m.seat.me.known (known_of m.seat.me place)
      (known_of m.seat.me (place + 1)) (omega (arith, there, fit))

  pub two_second : known_of n.seat.me 2 ≡ known_of m.seat.me (place + 1)
  two_second = ap (λ (ks : List Known). known_at ks 2) two_known
      ∙ second_behind knows.Nothing m.seat.me.known (known_of m.seat.me place)
      (known_of m.seat.me (place + 1)) (omega (arith, there, fit))

  pub two_carries : (minor : Nursery) → IsOrdered 0 minor.records → Carries 1 m n minor minor
  two_carries minor ordered =
      keep_carries m n 1 place 2 p told fit (omega (arith, there)) minor ordered
      (let is = two_held in omega (arith, is))
