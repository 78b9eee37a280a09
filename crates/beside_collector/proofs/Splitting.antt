-- One more seat that is split off.
use Rattle.std.proofs.Common.{◌≡◌, ◌<◌, ◌+◌, ℕ, zero, suc, List, length}
use Rattle.std.proofs.Common.{refl, sym, ◌∙◌, ap, subst, arith, replicate, slice_set}
use Rattle.std.proofs.lemmas.List.{length-replicate, length-set}
use Rattle.atomic_table.proofs.Lists.{set_else}
use mathlib.Core.Option.{some}
use lib.ListN.{get_elem?}
use Rattle.beside_collector.specs.Splitting.{HasSplit}
use Rattle.heap_rule.specs.Moves.{split_view}
use Rattle.heap_rule.specs.declared.view.Place.{Place}
use Rattle.heap_rule.specs.declared.view.Place.TheVariants as places
use Rattle.heap_table.specs.Seats.{SeatView}

all_alike : {A : Type 0} (a : A) (n i : ℕ) → i < n → get_elem? (replicate n a) i ≡ some a
all_alike a zero i lt = absurd (omega (arith, lt))
all_alike a (suc n) zero lt = refl
all_alike a (suc n) (suc i) lt = all_alike a n i (omega (arith, lt))

module _ {P : Type 0} where
  -- at the opening none is split off
  pub none_split : (mutators : ℕ) (seat : SeatView P)
      → seat.me.places ≡ replicate mutators places.Unsplit → HasSplit 0 mutators seat seat
  none_split mutators seat is = record {
    still = record { table = refl; shape = refl; control = refl; trail = refl };
    many = ap (λ (ps : List (Place P)). length ps) is ∙ length-replicate mutators places.Unsplit;
    unsplit = λ i from below.
        subst (λ (ps : List (Place P)). get_elem? ps i ≡ some places.Unsplit) (sym is)
        (all_alike places.Unsplit mutators i below);
  }

  pub one_split : (place mutators : ℕ) (old mid new : SeatView P)
      → HasSplit place mutators old mid → new ≡ record mid { me = split_view place mid.me }
      → HasSplit (place + 1) mutators old new
  one_split place mutators old mid new split is =
      let placed : new.me.places ≡ slice_set mid.me.places place places.Away =
      ap (λ (s : SeatView P). s.me.places) is in
      record {
        still = record {
          table = ap (λ (s : SeatView P). s.table) is ∙ split.still.table;
          shape = ap (λ (s : SeatView P). s.me.shape) is ∙ split.still.shape;
          control = ap (λ (s : SeatView P). s.me.control) is ∙ split.still.control;
          trail = ap (λ (s : SeatView P). s.me.trail) is ∙ split.still.trail;
        };
        many = ap (λ (ps : List (Place P)). length ps) placed
            ∙ length-set mid.me.places place places.Away ∙ split.many;
        unsplit = λ i from below.
            subst (λ (ps : List (Place P)). get_elem? ps i ≡ some places.Unsplit) (sym placed)
            (subst (λ p. p ≡ some places.Unsplit)
            (sym (set_else mid.me.places place i places.Away (λ e. omega (arith, from, e))))
            (split.unsplit i (omega (arith, from)) below));
      }
