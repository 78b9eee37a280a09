-- Mutators whose seats were all joined, one after the other, and then the heap was closed: the
-- passes at the close are those that the seats had.
use Rattle.std.proofs.Common.{◌≡◌, ◌<◌, ◌+◌, ◌++◌, ℕ, Bool, zero, suc, List, [], ◌∷◌, length, map}
use Rattle.std.proofs.Common.{refl, sym, ◌∙◌, ap, subst, arith, slice_set}
use Rattle.std.proofs.lemmas.List.{append_assoc, length-map, length_push}
use Rattle.atomic_table.proofs.Lists.{at_map}
use mathlib.Core.Option.{some, some-injective}
use lib.ListN.{get_elem?}
use Rattle.beside_collector.specs.Places.{AllFrom}
use Rattle.heap_rule.specs.Boxes.{Map}
use Rattle.heap_rule.specs.Laws.{Ended}
use Rattle.heap_rule.specs.Moves.{joined_view}
use Rattle.heap_rule.specs.Rule.{share_of}
use Rattle.heap_rule.specs.Shape.{Shape}
use Rattle.heap_rule.specs.declared.view.Place.{Place}
use Rattle.heap_rule.specs.declared.view.Place.TheVariants as places
use Rattle.heap_rule.specs.declared.view.View.{View}

module _ {A : Type 0} where
  set_behind : (front : List A) (x y : A) (rest : List A)
      → slice_set (front ++ x ∷ rest) (length front) y ≡ front ++ y ∷ rest
  set_behind [] x y rest = refl
  set_behind (f ∷ front) x y rest = ap (λ (l : List A). f ∷ l) (set_behind front x y rest)

  there : (xs : List A) (i : ℕ) → i < length xs → (x : A) × (get_elem? xs i ≡ some x)
  there [] i lt = absurd (omega (arith, lt))
  there (x ∷ xs) zero lt = (x, refl)
  there (x ∷ xs) (suc i) lt = there xs i (omega (arith, lt))

  -- two lists of one length are the same where they have the same at each index
  same_list : (xs ys : List A) → length xs ≡ length ys
      → ((i : ℕ) → i < length ys → get_elem? xs i ≡ get_elem? ys i) → xs ≡ ys
  same_list [] [] many same = refl
  same_list [] (y ∷ ys) many same = absurd (omega (arith, many))
  same_list (x ∷ xs) [] many same = absurd (omega (arith, many))
  same_list (x ∷ xs) (y ∷ ys) many same =
      let first : x ≡ y = some-injective x y (same 0 (omega arith)) in
      let more : xs ≡ ys = same_list xs ys (omega (arith, many))
      (λ i lt. same (suc i) (omega (arith, lt))) in
      (λ k. first k ∷ more k)

module _ {P : Type 0} where
  -- the collector's view, to which these are joined in turn
  abbrev pub joined_with : View P → List (View P) → View P
  joined_with v [] = v
  joined_with v (t ∷ ts) = joined_with (joined_view v t) ts

  abbrev pub Joined : View P → Place P
  Joined t = places.Joined (share_of t)

  -- each has the mutator with the number of its place
  abbrev pub Numbered : ℕ → View P → Type 0
  Numbered place t = t.number ≡ place

  joined_behind : (ts : List (View P)) (v : View P) (front rest : List (Place P))
      → v.places ≡ front ++ rest → length rest ≡ length ts
      → AllFrom Numbered (length front) ts
      → (joined_with v ts).places ≡ front ++ map Joined ts
  joined_behind [] v front [] is many all = is
  joined_behind [] v front (r ∷ rest) is many all = absurd (omega (arith, many))
  joined_behind (t ∷ ts) v front [] is many all = absurd (omega (arith, many))
  joined_behind (t ∷ ts) v front (r ∷ rest) is many all =
      let next = front ++ Joined t ∷ [] in
      let at : (joined_view v t).places ≡ next ++ rest =
      (λ k. slice_set (is k) (all.0 k) (Joined t)) ∙ set_behind front r (Joined t) rest
      ∙ sym (append_assoc front (Joined t ∷ []) rest) in
      let one : length next ≡ length front + 1 = length_push front (Joined t) in
      joined_behind ts (joined_view v t) next rest at (omega (arith, many))
      (subst (λ (n : ℕ). AllFrom Numbered n ts) (sym one) all.1)
      ∙ append_assoc front (Joined t ∷ []) (map Joined ts)

  pub all_joined : (ts : List (View P)) (v : View P) → length v.places ≡ length ts
      → AllFrom Numbered 0 ts → (joined_with v ts).places ≡ map Joined ts
  all_joined ts v many all = joined_behind ts v [] v.places refl many all

module _ {P : Type 0} {opens : ℕ → ℕ → P} {holding : Map → List P → Type 0} {fixed : ℕ → Bool}
    {S : Type 0} (h : Shape) (words : List ℕ) (v w : View P) (ts : List (View P))
    (many : length v.places ≡ length ts) (mutators : h.mutators ≡ length ts)
    (numbered : AllFrom Numbered 0 ts) (all : w ≡ joined_with v ts)
    (ended : Ended opens holding fixed h S words w) where
  pub pass_at : (i : ℕ) (t : View P) → get_elem? ts i ≡ some t
      → get_elem? ended.shows.passes i ≡ some t.pass
  pass_at i t is = (ended.collector.joined i (share_of t)
      (ap (λ (x : View P). get_elem? x.places i) all
      ∙ ap (λ (ps : List (Place P)). get_elem? ps i) (all_joined ts v many numbered)
      ∙ at_map Joined ts i t is)).pass

  pub passes_are : ended.shows.passes ≡ map (λ (t : View P). t.pass) ts
  passes_are =
      let pass = λ (t : View P). t.pass in
      let fit = length-map ts pass in
      same_list ended.shows.passes (map pass ts) (ended.passes_fit ∙ mutators ∙ sym fit)
      (λ i lt. let one = there ts i (omega (arith, lt, fit)) in
      pass_at i one.0 one.1 ∙ sym (at_map pass ts i one.0 one.1))
