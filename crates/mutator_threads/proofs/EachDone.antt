-- Workers by their places: the last one apart, and after all others again.
use Rattle.std.proofs.Common.{◌≡◌, ◌<◌, ◌+◌, ℕ, zero, suc, List, [], ◌∷◌, ◌++◌, length}
use Rattle.std.proofs.Common.{All, refl, sym, ◌∙◌, ap, arith, subst}
use Rattle.std.proofs.lemmas.List.Elements.{All-cons, All-nil}
use Rattle.atomic_table.proofs.Lists.{at_map}
use mathlib.Core.Option.{some}
use lib.ListN.{get_elem?}
use Rattle.beside_collector.specs.Places.{AllFrom}
use Rattle.beside_collector.proofs.Places.{all_back, all_front}
use Rattle.heap_rule.specs.Rule.{share_of}
use Rattle.heap_rule.specs.declared.view.Place.{Place}
use Rattle.heap_rule.specs.declared.view.Place.TheVariants as places
use Rattle.heap_rule.specs.declared.view.View.{View}
use Rattle.mutator_threads.specs.Closing.{joined_parts}
use Rattle.mutator_threads.specs.Each.{EachFrom}
use Rattle.mutator_threads.specs.Mutators.{own_of, views_of}
use Rattle.mutator_threads.specs.declared.worker.Worker.{Worker}

module _ {W : Type 0} (Ready : ℕ → W → Type 0) (all front : List W) (last : W)
    (is : all ≡ front ++ last ∷ []) (ready : AllFrom Ready 0 all) where
  parted : AllFrom Ready 0 (front ++ last ∷ [])
  parted = subst (λ (xs : List W). AllFrom Ready 0 xs) is ready

  pub front_ready : AllFrom Ready 0 front
  front_ready = all_front Ready 0 front (last ∷ []) parted

  pub last_ready : (place : ℕ) → place ≡ length front → Ready place last
  last_ready place at =
      let here : 0 + length front ≡ place = omega (arith, at) in
      subst (λ (k : ℕ). Ready k last) here (all_back Ready 0 front (last ∷ []) parted).0

module _ {W : Type 0} (Done : ℕ → W → W → Type 0) where
  each_both : (place : ℕ) (olds news : List W) (old new : W) → EachFrom Done place olds news
      → Done (place + length olds) old new
      → EachFrom Done place (olds ++ old ∷ []) (news ++ new ∷ [])
  each_both place [] [] old new all one =
      let same : place + 0 ≡ place = omega arith in
      (subst (λ (k : ℕ). Done k old new) same one, tt)
  each_both place [] (b ∷ news) old new all one = absurd all
  each_both place (a ∷ olds) [] old new all one = absurd all
  each_both place (a ∷ olds) (b ∷ news) old new all one =
      let same : place + suc (length olds) ≡ place + 1 + length olds = omega arith in (
        all.0,
        each_both (place + 1) olds news old new all.1
            (subst (λ (k : ℕ). Done k old new) same one),
      )

  -- one more at the end, before and after
  pub each_push : (all front left done : List W) (last now : W) (place : ℕ)
      → all ≡ front ++ last ∷ [] → EachFrom Done 0 front left → place ≡ length front
      → Done place last now → done ≡ left ++ now ∷ [] → EachFrom Done 0 all done
  each_push all front left done last now place is each at one are =
      let here : place ≡ 0 + length front = omega (arith, at) in
      subst (λ (xs : List W). EachFrom Done 0 xs done) (sym is)
      (subst (λ (ys : List W). EachFrom Done 0 (front ++ last ∷ []) ys) (sym are)
      (each_both 0 front left last now each (subst (λ (k : ℕ). Done k last now) here one)))

-- What follows for the workers after their calls.

pub all_done : {W : Type 0} (Post : ℕ → W → W → Type 0) (Done : ℕ → W → Type 0)
    → ((place : ℕ) (old new : W) → Post place old new → Done place new)
    → (place : ℕ) (olds news : List W) → EachFrom Post place olds news → AllFrom Done place news
all_done Post Done so place [] [] each = tt
all_done Post Done so place [] (new ∷ news) each = absurd each
all_done Post Done so place (old ∷ olds) [] each = absurd each
all_done Post Done so place (old ∷ olds) (new ∷ news) each =
    (so place old new each.0, all_done Post Done so (place + 1) olds news each.1)

-- each has of its own what this says
pub all_own : {P T : Type 0} (Done : ℕ → Worker P T → Type 0) (Own : T → Type 0)
    → ((place : ℕ) (one : Worker P T) → Done place one → Own one.own)
    → (place : ℕ) (ws : List (Worker P T)) → AllFrom Done place ws → All Own (own_of ws)
all_own Done Own so place [] all = All-nil Own
all_own Done Own so place (w ∷ ws) all =
    All-cons Own w.own (own_of ws) (so place w all.0) (all_own Done Own so (place + 1) ws all.1)

-- What holds of each.

pub all_so : {W : Type 0} (F G : ℕ → W → Type 0)
    → ((place : ℕ) (one : W) → F place one → G place one) → (place : ℕ) (ws : List W)
    → AllFrom F place ws → AllFrom G place ws
all_so F G so place [] all = tt
all_so F G so place (w ∷ ws) all = (so place w all.0, all_so F G so (place + 1) ws all.1)

-- the one with this index, and what holds of it
pub record StandsAt {W : Type 0} (F : ℕ → W → Type 0) (ws : List W) (i : ℕ) : Type 0 where
  pub one : W
  pub at : get_elem? ws i ≡ some one
  pub holds : F i one

found : {W : Type 0} (F : ℕ → W → Type 0) (place : ℕ) (ws : List W) (i : ℕ) → i < length ws
    → AllFrom F place ws → (one : W) × ((get_elem? ws i ≡ some one) × F (place + i) one)
found F place [] i lt all = absurd (omega (arith, lt))
found F place (w ∷ ws) zero lt all =
    let same : place ≡ place + 0 = omega arith in
    (w, (refl, subst (λ (k : ℕ). F k w) same all.0))
found F place (w ∷ ws) (suc i) lt all =
    let rest = found F (place + 1) ws i (omega (arith, lt)) all.1 in
    let same : place + 1 + i ≡ place + suc i = omega arith in
    (rest.0, (rest.1.0, subst (λ (k : ℕ). F k rest.0) same rest.1.1))

pub stands_at : {W : Type 0} (F : ℕ → W → Type 0) (ws : List W) (i : ℕ) → i < length ws
    → AllFrom F 0 ws → StandsAt F ws i
stands_at {W} F ws i lt all =
    let there = found F 0 ws i lt all in
    let same : 0 + i ≡ i = omega arith in
    record {
      one = there.0;
      at = there.1.0;
      holds = subst (λ (k : ℕ). F k there.0) same there.1.1;
    }

-- where the seats of all were joined in their order, each has its part at its place
pub part_at : {P T : Type 0} (ws : List (Worker P T)) (joined : List (Place P))
    → joined ≡ joined_parts (views_of ws) → (i : ℕ) (w : Worker P T) → get_elem? ws i ≡ some w
    → get_elem? joined i ≡ some (places.Joined (share_of w.seat.me))
part_at {P} {T} ws joined is i w at =
    ap (λ (ps : List (Place P)). get_elem? ps i) is
    ∙ at_map (λ (view : View P). places.Joined (share_of view)) (views_of ws) i w.seat.me
    (at_map (λ (one : Worker P T). one.seat.me) ws i w at)
