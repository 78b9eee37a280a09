-- What a write leaves of places: a store, the read and exchange in its place, or an exchange.
use Rattle.std.proofs.Common.{◌≡◌, ◌<◌, ℕ, List, [], true, length, inl, inr, sym, ◌∙◌, ap}
use Rattle.std.proofs.Common.{arith}
use Rattle.std.proofs.lemmas.List.{append-nil}
use Rattle.cell_words.specs.declared.fields.Field.{Field}
use Rattle.heap_rule.specs.Asks.{known_of}
use Rattle.heap_rule.specs.NoRule.{no_field_is_fixed}
use Rattle.heap_rule.specs.Steps.{same_pass}
use Rattle.heap_rule.specs.declared.known.Known.{Known}
use Rattle.heap_rule.specs.declared.known.Known.TheVariants as knows
use Rattle.heap_rule.proofs.Many.{known_many}
use Rattle.held_places.specs.Calls.{Overwrote, known_fresh, settled}
use Rattle.held_places.proofs.Going.{target_still}
use Rattle.held_places.proofs.Overwriting.{exchanged, overwrote}
use Rattle.held_places.proofs.Writing.{wrote_goes, wrote_known}
use Rattle.mutator_events.specs.declared.values.Value.{Value}
use Rattle.mutator_seat.specs.Bound.{Bound, held_cells}
use Rattle.mutator_seat.specs.Stretches.{SamePlaces}
use Rattle.mutator_seat.specs.Writes.{IsNamed, Updated}
use Rattle.mutator_seat.proofs.Writes.{many_same}
use Rattle.record_copying.specs.Copies.{StillRecords}
use Rattle.sorted_rule.specs.Sorted.{HoldsSorted}
use Rattle.sorted_rule.specs.declared.sorting.Sorting.{Sorting}
use Rattle.sorted_boxes.specs.Calls.{KeepsPlaces, Refused, Stored}
use Rattle.sorted_boxes.specs.Holding.{HoldsFirst}
use Rattle.sorted_boxes.specs.Sorts.{SortList, sort_in}
use Rattle.sorted_boxes.proofs.Carrying.{StillSettled, as_lasts, still_records}
use Rattle.sorted_boxes.proofs.Holding.{serves_on}

-- what is settled is not fresh
pub settled_not_fresh : (k : Known) → settled k ≡ true → known_fresh k ≡ true → ⊥
settled_not_fresh (knows.Boxed told) is fresh = absurd cc
settled_not_fresh knows.Nothing is fresh = absurd cc
settled_not_fresh (knows.Raw fields) is fresh = absurd cc
settled_not_fresh (knows.Fresh fields) is fresh = absurd cc
settled_not_fresh (knows.Record t) is fresh = absurd cc

module _ (a b : Bound Sorting) (place f : ℕ) (value : Value)
    (there : place < length a.seat.me.own.held) (named : IsNamed a.seat.me.own.held value) where
  wrote_still : Overwrote no_field_is_fixed a b place value → StillSettled a b
  wrote_still wrote other lt is =
      let not = settled_not_fresh (known_of a.seat.me other) is in
      wrote.known other lt (λ fresh. absurd (not fresh)) (λ fresh. absurd (not fresh))

  stored_wrote : Stored place f value a b → Overwrote no_field_is_fixed a b place value
  stored_wrote (inl stored) = overwrote a b place f value there named stored
  stored_wrote (inr other) = exchanged a b place f value there named other.0 other.0 other.1

  refused_wrote : Refused place f value a b → Overwrote no_field_is_fixed a b place value
  refused_wrote refused =
      exchanged a b place f value there named refused.0 refused.1 refused.2.1

  stored_pass : Stored place f value a b → b.seat.me.pass ≡ a.seat.me.pass
  stored_pass (inl stored) = stored.pass
  stored_pass (inr other) = other.1.pass

  pub stored_still : Stored place f value a b → StillSettled a b
  stored_still stored = wrote_still (stored_wrote stored)

  pub refused_still : Refused place f value a b → StillSettled a b
  refused_still refused = wrote_still (refused_wrote refused)

  module _ (same : SamePlaces a b) where
    pub stored_keeps : Stored place f value a b → KeepsPlaces a b
    stored_keeps stored = record {
      goes = (stored_wrote stored).goes;
      held = same.held;
      pass = stored_pass stored;
    }

    pub refused_keeps : Refused place f value a b → KeepsPlaces a b
    refused_keeps refused = record {
      goes = (refused_wrote refused).goes;
      held = same.held;
      pass = refused.2.1.pass;
    }

module _ (a b : Bound Sorting) (place f : ℕ) (old new : Value) (found : Field)
    (wrote : Updated HoldsSorted no_field_is_fixed same_pass a place f old new found b) where
  pub many_known : length a.seat.me.known ≡ length a.seat.me.own.held
  many_known =
      let kept = wrote.calm.kept in
      sym (ap (λ (ks : List Known). length ks) kept.known)
      ∙ known_many no_field_is_fixed wrote.at.seat.me wrote.event.core wrote.event.lore
      wrote.event.mine
      ∙ many_same wrote.at.seat.me.own.held a.seat.me.own.held kept.held

  pub updated_still : StillSettled a b
  updated_still other lt is =
      let not = settled_not_fresh (known_of a.seat.me other) is in
      wrote_known no_field_is_fixed HoldsSorted same_pass a b place f old new found wrote
      many_known other lt (λ fresh. absurd (not fresh)) (λ fresh. absurd (not fresh))

  pub updated_keeps : KeepsPlaces a b
  updated_keeps = record {
    goes = wrote_goes no_field_is_fixed HoldsSorted same_pass a b place f old new found wrote;
    held = wrote.held;
    pass = wrote.pass;
  }

  pub updated_records : StillRecords a.seat.me.known b.seat.me.known
  updated_records = still_records a b updated_still many_known

-- So the first places are held as they were.
pub kept_first : (a b : Bound Sorting) → KeepsPlaces a b → StillSettled a b → (n : ℕ)
    → (sorts : SortList) → HoldsFirst n sorts a.seat.me → HoldsFirst n sorts b.seat.me
kept_first a b keeps still n sorts at =
    let long = many_same b.seat.me.own.held a.seat.me.own.held keeps.held in
    let within : (place : ℕ) → place < n → place < length a.seat.me.own.held =
    (λ place lt. let fit = at.fit in omega (arith, fit, lt)) in
    record {
      inside = keeps.goes.inside ∙ at.inside;
      serves = serves_on sorts a.seat.me b.seat.me keeps.goes.room keeps.pass at.serves;
      fit = let fit = at.fit in omega (arith, fit, long);
      each = λ place lt. as_lasts a.seat.me b.seat.me place (sort_in sorts place)
          (target_still a b [] (keeps.held ∙ sym (append-nil (held_cells a))) place
          (within place lt))
          (still place (within place lt)) (at.each place lt);
    }
