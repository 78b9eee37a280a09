-- What the read of the anchor finds, and what is left of it after the test for the anchor.
use Rattle.std.proofs.Common.{◌≡◌, ◌≢◌, ◌==◌, ◌<◌, ◌≤◌, ◌++◌, ℕ, Bool, false}
use Rattle.std.proofs.Common.{true, not, [], length, refl, sym, ◌∙◌, ap, subst, arith}
use Rattle.std.specs.Bool.{OnTrue}
use Rattle.std.proofs.lemmas.Bool.{eq-eqb}
use Rattle.std.proofs.lemmas.List.{append-nil}
use Rattle.cell_words.specs.declared.fields.Field.{Field}
use Rattle.cell_words.specs.declared.fields.Field.TheVariants as field
use Rattle.core_machine.specs.declared.events.Event.TheVariants as event
use Rattle.core_machine.specs.declared.events.Found.TheVariants as finds
use Rattle.core_machine.specs.State.{State, field_of, target_of}
use Rattle.dlg_core.specs.Reachable.{Reachable}
use Rattle.heap_rule.specs.Asks.{known_of, target}
use Rattle.heap_rule.specs.Lore.{Lore, learned_from}
use Rattle.heap_rule.specs.NoRule.{anything_holds, no_field_is_fixed}
use Rattle.heap_rule.specs.Steps.{same_pass}
use Rattle.heap_rule.specs.declared.keeping.NoRule.{NoRule}
use Rattle.heap_rule.proofs.Seats.{reached_place, target_now}
use Rattle.held_places.specs.Calls.{Goes, cells_found, settled}
use Rattle.held_places.proofs.Going.{cut_goes, cut_held, cut_known, cut_pass, many_held}
use Rattle.held_places.proofs.Going.{settled_lasts}
use Rattle.held_places.proofs.ReadValues.{last_held}
use Rattle.held_places.proofs.Steps.{same_value}
use Rattle.mutator_events.specs.declared.values.Value.{Value}
use Rattle.mutator_events.specs.declared.values.Value.TheVariants as values
use Rattle.mutator_events.specs.Events.{AtEvent}
use Rattle.mutator_events.specs.Values.{value_found}
use Rattle.mutator_seat.specs.Bound.{Bound, held_cells, takes}
use Rattle.cell_making.specs.Makes.{MayName}
use Rattle.cell_making.specs.Resting.{HasPass, Loose, Rests}
use Rattle.cell_making.proofs.OneRead.{held_as, newest_known, one_longer, stays_loose, was}
use Rattle.cell_making.proofs.Resting.{has_goes, loose_goes}
use Rattle.example_list.specs.Pushing.{HoldsFound, HoldsNewest, IsFound}
use Rattle.example_list.proofs.Settled.{named_settled}

-- a read holds at most one cell
one_found : (w : Field) → length (cells_found w) ≤ 1
one_found field.Null = omega arith
one_found (field.Num n) = omega arith
one_found (field.Cell c) = omega arith

module _ (a b : Bound NoRule) (heap : b.heap ≡ a.heap) (table : b.seat.table ≡ a.seat.table)
    (at : Rests 8 a) (found : Field)
    (step : AtEvent anything_holds no_field_is_fixed a.seat.me
    (event.Read a.seat.me.number 0 0) same_pass (finds.Field found) b.seat.me) where
  abbrev s : State
  s = step.core

  abbrev l : Lore
  l = step.lore

  abbrev first_there : 0 < length a.seat.me.own.held
  first_there = at.loose.is_in.some

  abbrev anchor_cell : ℕ
  anchor_cell = target_of s a.seat.me.number 0

  word : field_of s anchor_cell 0 ≡ found
  word = same_value (field_of s anchor_cell 0) found step.found_is

  reached : Reachable s anchor_cell
  reached = subst (Reachable s) (sym (target_now a.seat.me s l step.mine 0))
      (reached_place a.seat.me s l step.mine 0 first_there)

  module _ (c : ℕ) (is : found ≡ field.Cell c) where
    cell_known : c ≢ 0 → settled (known_of b.seat.me 1) ≡ true
    cell_known other =
        ap settled (ap (known_of b.seat.me) (sym at.alone)
        ∙ newest_known a b heap table 0 0 first_there found step c is
        ∙ ap (learned_from s l) (word ∙ is))
        ∙ named_settled no_field_is_fixed s l step.mine.shown anchor_cell 0 c reached (word ∙ is)
        other

    cell_is : target b.seat.me 1 ≡ c
    cell_is = ap (target b.seat.me) (sym at.alone)
        ∙ last_held a b c (held_as a b heap table 0 0 first_there found step (field.Cell c) is)

    cell_found : IsFound b.seat.me (values.Held 1)
    cell_found = (
      (
          let longer = one_longer a b heap table 0 0 first_there found step c is in
          let one = at.alone in
          omega (arith, longer, one)
          ),
      λ apart. cell_known (λ zero. apart (cell_is ∙ zero)),
    )

  value_is_found : (w : Field) → found ≡ w
      → IsFound b.seat.me (value_found (length a.seat.me.own.held) w)
  value_is_found field.Null is = tt
  value_is_found (field.Num n) is = tt
  value_is_found (field.Cell c) is =
      subst (λ (n : ℕ). IsFound b.seat.me (values.Held n)) (sym at.alone) (cell_found c is)

  pub holds_found : (r : Value) → r ≡ value_found (length a.seat.me.own.held) found
      → HoldsFound r b
  holds_found r is = record {
    loose = stays_loose a b heap table 0 0 first_there found step 8 at.loose;
    few =
        let read = was a b heap table 0 0 first_there found step in
        let longer = many_held a b (cells_found found) read.holds.held in
        let one = at.alone in
        let more = one_found found in
        omega (arith, longer, one, more);
    found_is = subst (IsFound b.seat.me) (sym is) (value_is_found found refl);
  }

-- A call that keeps all places, as the test whether two hold one cell does.
module _ (b c : Bound NoRule)
    (told : c ≡ takes b (event.Keep b.seat.me.number (length b.seat.me.own.held) 0 0)
    (finds.Presence b.seat.me.presence)) where
  goes : Goes [] b c
  goes = cut_goes b c (length b.seat.me.own.held) (finds.Presence b.seat.me.presence) told

  held : held_cells c ≡ held_cells b ++ []
  held = cut_held b c (length b.seat.me.own.held) (finds.Presence b.seat.me.presence) told b []
      refl (sym (append-nil (held_cells b)))

  many : length c.seat.me.own.held ≡ length b.seat.me.own.held
  many = let longer = many_held b c [] held in omega (arith, longer)

  pub kept_loose : Loose 8 b → Loose 8 c
  kept_loose = loose_goes 8 b c [] held [] goes

  pub kept_pass : HasPass b.seat.me.pass b c
  kept_pass = has_goes [] b.seat.me.pass b c goes
      (cut_pass b c (length b.seat.me.own.held) (finds.Presence b.seat.me.presence) told)

  module _ (found : Value) (place : ℕ) (is : found ≡ values.Held place) (at : HoldsFound found b)
    where
      place_found : IsFound b.seat.me (values.Held place)
      place_found = subst (IsFound b.seat.me) is at.found_is

      apart : (target b.seat.me 0 == target b.seat.me place) ≡ false → target b.seat.me place ≢ 0
      apart differs zero =
          let same = eq-eqb (target b.seat.me 0) (target b.seat.me place)
          (at.loose.is_in.anchor ∙ sym zero) in
          let e : false ≡ true = sym differs ∙ same in cc

      may_name : (target b.seat.me 0 == target b.seat.me place) ≡ false
          → MayName c.seat.me (length c.seat.me.own.held) (values.Held place)
      may_name differs = (
        (let same = many in let there = place_found.0 in omega (arith, same, there)),
        settled_lasts no_field_is_fixed (known_of b.seat.me place) (known_of c.seat.me place)
            (place_found.1 (apart differs))
            (cut_known no_field_is_fixed b c (length b.seat.me.own.held)
            (finds.Presence b.seat.me.presence) told place place_found.0),
      )

      pub newest_if : (same : Bool) → same ≡ (target b.seat.me 0 == target b.seat.me place)
          → OnTrue (not same) (HoldsNewest found c)
      newest_if true how = tt
      newest_if false how = record {
        loose = kept_loose at.loose;
        few = let same = many in let few = at.few in omega (arith, same, few);
        may = subst (MayName c.seat.me (length c.seat.me.own.held)) (sym is) (may_name (sym how));
      }

-- none is there yet
pub none_found : (b : Bound NoRule) (found : Value) → found ≡ values.Null → HoldsFound found b
    → HoldsNewest found b
none_found b found is at = record {
  loose = at.loose;
  few = at.few;
  may = subst (MayName b.seat.me (length b.seat.me.own.held)) (sym is) tt;
}
