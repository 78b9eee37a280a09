-- A cell that was just claimed may be filled with what was known before the claim.
use Rattle.std.proofs.Common.{◌≡◌, ◌<◌, ℕ, List, length, refl, sym, ◌∙◌, ap, subst, arith, true}
use Rattle.cell_words.specs.declared.fields.Field.TheVariants as field
use Rattle.held_places.specs.Calls.{known_fresh, settled}
use Rattle.held_places.proofs.Claiming.{claimed_apart, claimed_fits, claimed_goes, claimed_raw}
use Rattle.held_places.proofs.Claiming.{claimed_same, claimed_target, claimed_there}
use Rattle.mutator_events.specs.declared.values.Value.{Value}
use Rattle.mutator_events.specs.declared.values.Value.TheVariants as values
use Rattle.mutator_events.specs.Values.{field_at}
use Rattle.mutator_seat.specs.Bound.{Bound}
use Rattle.mutator_seat.specs.Claims.{Claimed}
use Rattle.cell_making.specs.Makes.{IsUnnamed, MayFillAll, MayName, value_at}

module _ {P : Type 0} (a b : Bound P) (fresh : ℕ) (got : Claimed a fresh b) where
  before_now : (place : ℕ) → place < fresh → place < length a.seat.me.own.held
  before_now place lt = let placed = got.place_is in omega (arith, lt, placed)

  name_still : (v : Value) → MayName a.seat.me (length a.seat.me.own.held) v
      → MayName b.seat.me fresh v
  name_still values.Null named = tt
  name_still (values.Num n) named = named
  name_still (values.Held place) named = (
    (let before = named.0 in let placed = got.place_is in omega (arith, before, placed)),
    ap settled (claimed_same a b fresh got place named.0) ∙ named.1,
  )

  pub fills_all : (given : List Value) → a.seat.me.presence.inside ≡ true
      → ((i : ℕ) → i < 5
      → MayName a.seat.me (length a.seat.me.own.held) (value_at given i))
      → MayFillAll b fresh given
  fills_all given inside named = record {
    inside = (claimed_goes a b fresh got).inside ∙ inside;
    there = claimed_there a b fresh got;
    many = claimed_fits a b fresh got;
    raw = claimed_raw a b fresh got;
    apart = λ place lt. claimed_apart a b fresh got place (before_now place lt);
    named = λ i lt. name_still (value_at given i) (named i lt);
  }

  -- a field that a value stands for is the same after the claim
  pub field_still : (v : Value) → MayName a.seat.me (length a.seat.me.own.held) v
      → field_at b.seat.me.own.held v ≡ field_at a.seat.me.own.held v
  field_still values.Null named = refl
  field_still (values.Num n) named = refl
  field_still (values.Held place) named =
      ap (λ (c : ℕ). field.Cell c) (claimed_target a b fresh got place named.0)

  -- and a cell that was not named is not named now
  pub unnamed_still : (given : List Value) (place : ℕ) → place < length a.seat.me.own.held
      → ((i : ℕ) → i < 5
      → MayName a.seat.me (length a.seat.me.own.held) (value_at given i))
      → IsUnnamed a.seat.me given place → IsUnnamed b.seat.me given place
  unnamed_still given place lt named spared fresh_is i other below is same =
      let before : other < length a.seat.me.own.held =
      (subst (λ (v : Value). MayName a.seat.me (length a.seat.me.own.held) v) is
      (named i below)).0 in
      spared (sym (ap known_fresh (claimed_same a b fresh got place lt)) ∙ fresh_is) i other below
      is (sym (claimed_target a b fresh got place lt) ∙ same
      ∙ claimed_target a b fresh got other before)
