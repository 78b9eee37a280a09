-- Workers that are taken back, one after the other: the seat of each is joined, and what it gives
-- is put after what the others gave.
use Rattle.std.proofs.Common.{◌≡◌, ◌≤◌, ◌<◌, ◌+◌, ◌++◌, ℕ, suc, List, [], ◌∷◌, length}
use Rattle.std.proofs.Common.{inl, inr, refl, sym, ◌∙◌, ap, subst, arith, slice_set}
use Rattle.std.proofs.lemmas.Bool.{cases_lt}
use Rattle.std.proofs.lemmas.List.{length-set, length_push}
use Rattle.atomic_table.proofs.Lists.{at_last, at_longer, set_else, set_here}
use mathlib.Core.Option.{some}
use lib.ListN.{get_elem?}
use Rattle.beside_collector.specs.Places.{AllFrom}
use Rattle.beside_collector.specs.Serving.{IsStill}
use Rattle.heap_rule.specs.Moves.{joined_view}
use Rattle.heap_rule.specs.Rule.{share_of}
use Rattle.heap_rule.specs.declared.view.Place.{Place}
use Rattle.heap_rule.specs.declared.view.Place.TheVariants as places
use Rattle.heap_table.specs.Seats.{SeatView}

-- `Done` is what holds of a worker that is through, at its place; it has a seat, and gives
-- something.
module _ {P : Type 0} {W : Type 0} {G : Type 0} (Done : ℕ → W → Type 0) (seat_of : W → SeatView P)
    (gives : W → G) where
  -- The worker of this place was through. What it gives has the place's index, and its seat was
  -- joined there.
  pub record IsTaken (given : List G) (joined : List (Place P)) (place : ℕ) : Type 0 where
    pub worker : W
    pub done : Done place worker
    pub given_at : get_elem? given place ≡ some (gives worker)
    pub joined_at : get_elem? joined place
        ≡ some (places.Joined (share_of (seat_of worker).me))

  -- Of so many workers the first are taken back, and these are left. The collector's seat is as it
  -- was, except for where the parts of its mutators are.
  pub record TakenSoFar (workers : ℕ) (rest : List W) (given : List G) (old new : SeatView P)
      : Type 0 where
    pub still : IsStill old new
    pub places : length new.me.places ≡ length old.me.places
    pub fit : workers ≤ length old.me.places
    pub many : length given + length rest ≡ workers
    pub done : AllFrom Done (length given) rest
    pub taken : (place : ℕ) → place < length given → IsTaken given new.me.places place

  pub none_taken : (workers : ℕ) (rest : List W) (seat : SeatView P) → length rest ≡ workers
      → workers ≤ length seat.me.places → AllFrom Done 0 rest
      → TakenSoFar workers rest [] seat seat
  none_taken workers rest seat many fit done = record {
    still = record { table = refl; shape = refl; control = refl; trail = refl };
    places = refl;
    fit = fit;
    many = omega (arith, many);
    done = done;
    taken = λ place lt. absurd (omega (arith, lt));
  }

  -- a worker that is through has the mutator with the number of its place
  module _ (numbered : (place : ℕ) (one : W) → Done place one
      → (seat_of one).me.number ≡ place) where
    pub one_taken : (workers : ℕ) (one : W) (rest : List W) (given : List G) (gift : G)
        (old mid new : SeatView P) → TakenSoFar workers (one ∷ rest) given old mid
        → gift ≡ gives one → new ≡ record mid { me = joined_view mid.me (seat_of one).me }
        → TakenSoFar workers rest (given ++ gift ∷ []) old new
    one_taken workers one rest given gift old mid new t gift_is is =
        let here = length given in
        let done = t.done.0 in
        let longer = length_push given gift in
        let more : length (given ++ gift ∷ []) ≡ here + 1 = omega (arith, longer) in
        let count : here + suc (length rest) ≡ workers = t.many in
        let there : here < length mid.me.places = omega (arith, count, t.places, t.fit) in
        let share = places.Joined (share_of (seat_of one).me) in
        let placed : new.me.places ≡ slice_set mid.me.places here share =
        ap (λ (s : SeatView P). s.me.places) is
        ∙ ap (λ (n : ℕ). slice_set mid.me.places n share) (numbered here one done) in
        record {
          still = record {
            table = ap (λ (s : SeatView P). s.table) is ∙ t.still.table;
            shape = ap (λ (s : SeatView P). s.me.shape) is ∙ t.still.shape;
            control = ap (λ (s : SeatView P). s.me.control) is ∙ t.still.control;
            trail = ap (λ (s : SeatView P). s.me.trail) is ∙ t.still.trail;
          };
          places = ap (λ (ps : List (Place P)). length ps) placed
              ∙ length-set mid.me.places here share ∙ t.places;
          fit = t.fit;
          many = omega (arith, more, count);
          done = subst (λ (n : ℕ). AllFrom Done n rest) (sym more) t.done.1;
          taken = λ place below.
              subst (λ (ps : List (Place P)). IsTaken (given ++ gift ∷ []) ps place) (sym placed)
              (elim (cases_lt place here) [
                | inl before ↦ let was = t.taken place before in record {
                  worker = was.worker;
                  done = was.done;
                  given_at = at_longer given (gift ∷ []) place (gives was.worker) was.given_at;
                  joined_at = set_else mid.me.places here place share
                      (λ e. omega (arith, before, e)) ∙ was.joined_at;
                }
                | inr behind ↦ let same : place ≡ here = omega (arith, below, behind, more) in
                    subst (λ (n : ℕ). IsTaken (given ++ gift ∷ [])
                    (slice_set mid.me.places here share) n) (sym same) record {
                      worker = one;
                      done = done;
                      given_at = at_last given gift here refl ∙ ap some gift_is;
                      joined_at = set_here mid.me.places here share there;
                    }
              ]);
        }

  -- none is left
  pub all_taken : (workers : ℕ) (rest : List W) (given : List G) (old new : SeatView P)
      → TakenSoFar workers rest given old new → length rest ≡ 0 → length given ≡ workers
  all_taken workers rest given old new t none =
      let count = t.many in omega (arith, count, none)
