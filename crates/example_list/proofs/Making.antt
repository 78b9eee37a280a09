-- The record and the node that are made, and the exchange of the newest one.
use Rattle.std.proofs.Common.{◌≡◌, ◌<◌, ◌≤◌, ◌+◌, ◌^◌, ◌∷◌, ℕ, List, [], length}
use Rattle.std.proofs.Common.{◌∙◌, ap, sym, arith}
use Rattle.std.proofs.lemmas.Bool.{lt-ltb}
use Rattle.std.proofs.lemmas.List.{get_or_append_left, get_or_push}
use Rattle.cell_words.specs.Term.{Term}
use Rattle.heap_rule.specs.Asks.{is_sealed, known_of, target}
use Rattle.heap_rule.specs.Lore.{known_at}
use Rattle.heap_rule.specs.NoRule.{anything_holds, no_field_is_fixed}
use Rattle.heap_rule.specs.Steps.{same_pass}
use Rattle.heap_rule.specs.declared.keeping.NoRule.{NoRule}
use Rattle.heap_rule.specs.declared.known.Known.{Known}
use Rattle.heap_rule.specs.declared.known.Known.TheVariants as knows
use Rattle.held_places.specs.Calls.{settled}
use Rattle.held_places.proofs.Going.{many_cells, many_held}
use Rattle.mutator_events.specs.declared.values.Value.{Value}
use Rattle.mutator_events.specs.declared.values.Value.TheVariants as values
use Rattle.mutator_seat.specs.Bound.{Bound}
use Rattle.mutator_seat.specs.Writes.{IsNamed, MayUpdate, PicksUpdate}
use Rattle.promotion.specs.Copying.{Copied}
use Rattle.cell_making.specs.Makes.{MakesBox, MayName, MayTerm, value_at}
use Rattle.cell_making.proofs.Naming.{all_at, is_box_of, sealed_value}
use Rattle.cell_making.proofs.Resting.{loose_goes, loose_stays}
use Rattle.example_list.specs.Pushing.{HoldsBoth, HoldsNewest, HoldsNode}

-- The record.

abbrev pub record_values : ℕ → ℕ → List Value
record_values number count =
    values.Num number ∷ values.Num count ∷ values.Null ∷ values.Null ∷ values.Null ∷ []

pub may_term : (known : List Known) (number count : ℕ) → number < 4294967296
    → count ≤ 4294967295 → (i : ℕ) → i < 5
    → MayTerm known (value_at (record_values number count) i)
may_term known number count small few i lt =
    let fits : number < 4611686018427387904 = omega (arith, small) in
    let both : count < 4611686018427387904 = omega (arith, few) in
    all_at (MayTerm known) tt (record_values number count) (fits, (both, (tt, (tt, (tt, tt))))) i

module _ (a b : Bound NoRule) (place : ℕ) (t : Term) (made : Copied a place t b) where
  longer : length b.seat.me.own.held ≡ length a.seat.me.own.held + 1
  longer = many_held a b (made.cell ∷ []) made.held

  known_many : length a.seat.me.known ≡ length a.seat.me.own.held
  known_many = sym made.fit ∙ many_cells a

  still : (other : ℕ) → other < length a.seat.me.own.held
      → known_of b.seat.me other ≡ known_of a.seat.me other
  still other lt =
      ap (λ (ks : List Known). known_at ks other) made.known
      ∙ get_or_append_left a.seat.me.known (knows.Record t ∷ []) knows.Nothing other
      (let many = known_many in omega (arith, many, lt))

  may_still : (newest : Value) → MayName a.seat.me (length a.seat.me.own.held) newest
      → MayName b.seat.me (length b.seat.me.own.held) newest
  may_still values.Null may = tt
  may_still (values.Num n) may = may
  may_still (values.Held other) may = (
    (let more = longer in let there = may.0 in omega (arith, more, there)),
    ap settled (still other may.0) ∙ may.1,
  )

  pub holds_both : (newest : Value) → HoldsNewest newest a → HoldsBoth newest place b
  holds_both newest at = record {
    loose = loose_stays 8 a b (made.cell ∷ []) made.held made.stays at.loose;
    few = let more = longer in let few = at.few in omega (arith, more, few);
    may = may_still newest at.may;
    there =
        let more = longer in
        let is = made.place_is in
        let many = many_cells a in
        omega (arith, more, is, many);
    sealed =
        ap settled (ap (λ (ks : List Known). known_at ks place) made.known
        ∙ get_or_push a.seat.me.known (knows.Record t) knows.Nothing place
        (sym made.fit ∙ sym made.place_is));
  }

-- The node.

abbrev pub node_values : Value → ℕ → List Value
node_values newest made =
    values.Held made ∷ newest ∷ values.Null ∷ values.Null ∷ values.Null ∷ []

pub may_name : (a : Bound NoRule) (newest : Value) (made : ℕ) → HoldsBoth newest made a → (i : ℕ)
    → i < 5 → MayName a.seat.me (length a.seat.me.own.held)
    (value_at (node_values newest made) i)
may_name a newest made at i lt =
    all_at (MayName a.seat.me (length a.seat.me.own.held)) tt (node_values newest made)
    ((at.there, at.sealed), (at.may, (tt, (tt, (tt, tt))))) i

module _ (a b : Bound NoRule) (newest : Value) (made place : ℕ)
    (box : MakesBox a place (node_values newest made) b) where
  one_more : length b.seat.me.own.held ≡ length a.seat.me.own.held + 1
  one_more = many_held a b (box.cell ∷ []) box.held

  is_named : (value : Value) → MayName a.seat.me (length a.seat.me.own.held) value
      → IsNamed b.seat.me.own.held value
  is_named values.Null may = tt
  is_named (values.Num n) may = lt-ltb n (2 ^ 62) may
  is_named (values.Held other) may =
      let more = one_more in let there = may.0 in omega (arith, more, there)

  pub holds_node : HoldsBoth newest made a → HoldsNode newest place b
  holds_node at = record {
    loose = loose_goes 8 a b (box.cell ∷ []) box.held [] box.goes at.loose;
    named = is_named newest at.may;
    there =
        let more = one_more in
        let is = box.place_is in
        omega (arith, more, is);
    sealed = ap is_sealed box.box;
  }

-- The exchange.

module _ (a : Bound NoRule) (newest : Value) (node : ℕ) (at : HoldsNode newest node a) where
  pub may_exchange : MayUpdate no_field_is_fixed a.seat.me 0 0 newest (values.Held node)
  may_exchange = record {
    inside = at.loose.is_in.inside;
    there = at.loose.is_in.some;
    payload = omega arith;
    box = is_box_of (target a.seat.me 0) (known_of a.seat.me 0) at.loose.is_in.anchor;
    old_named = at.named;
    new_named = at.there;
    sealed = sealed_value a node at.there at.sealed;
    spares = λ fixed. at.loose.is_in.anchor;
  }

  -- no rule has to hold
  pub picks_exchange : PicksUpdate anything_holds no_field_is_fixed same_pass a 0 0 newest
      (values.Held node)
  picks_exchange m kept presence s l passes mine happens proper pass holds = tt
