-- A new box names itself in its first field, and is one that others may know from then on.
use Rattle.std.proofs.Common.{◌≡◌, ◌<◌, ◌+◌, ℕ, Bool, List, [], true, false, length}
use Rattle.std.proofs.Common.{take, inl, inr, refl, sym, ◌∙◌, ap, subst, arith}
use Rattle.std.specs.Bool.{OnFalse, OnTrue}
use Rattle.std.proofs.lemmas.Bool.{cases_lt}
use Rattle.std.proofs.lemmas.List.{append-nil}
use Rattle.cell_words.specs.declared.fields.Field.{Field}
use Rattle.cell_words.specs.declared.fields.Field.TheVariants as field
use Rattle.core_machine.specs.State.{State, field_of, target_of}
use Rattle.core_machine.specs.Words.{same_field}
use Rattle.core_machine.specs.declared.events.Event.TheVariants as event
use Rattle.core_machine.specs.declared.events.Found.{Found}
use Rattle.core_machine.specs.declared.events.Found.TheVariants as finds
use Rattle.heap_rule.specs.Asks.{known_of, target}
use Rattle.heap_rule.specs.Facts.{IsKnown}
use Rattle.heap_rule.specs.Lore.{known_at}
use Rattle.heap_rule.specs.NoRule.{no_field_is_fixed}
use Rattle.heap_rule.specs.Steps.{same_pass}
use Rattle.heap_rule.specs.declared.known.Known.{Known}
use Rattle.heap_rule.specs.declared.known.Known.TheVariants as knows
use Rattle.heap_rule.specs.declared.view.View.{View}
use Rattle.heap_rule.proofs.Seats.{knows_place, target_now}
use Rattle.held_places.proofs.Going.{cut_goes, cut_held, cut_known, cut_pass, goes_then}
use Rattle.held_places.proofs.Writing.{wrote_box}
use Rattle.mutator_events.specs.declared.values.Value.TheVariants as values
use Rattle.mutator_seat.specs.Bound.{Bound, held_cells, takes}
use Rattle.mutator_seat.specs.Writes.{Updated}
use Rattle.mutator_seat.proofs.Writes.{many_same}
use Rattle.record_copying.specs.Copies.{StillRecords}
use Rattle.sorted_rule.specs.Open.{KnownOfSort}
use Rattle.sorted_rule.specs.Sorted.{HoldsSorted}
use Rattle.sorted_rule.specs.Sorts.{Boxes, Sort}
use Rattle.sorted_rule.specs.declared.sorting.Sorting.{Sorting}
use Rattle.sorted_boxes.specs.Calls.{Drops, KeepsPlaces}
use Rattle.sorted_boxes.specs.Holding.{HoldsAs, HoldsFirst, HoldsNew, IsAs}
use Rattle.sorted_boxes.specs.Sorts.{SortList, holds_record, sort_in}
use Rattle.sorted_boxes.proofs.AfterWrites.{kept_first, many_known, updated_keeps, updated_records}
use Rattle.sorted_boxes.proofs.AfterWrites.{updated_still}
use Rattle.sorted_boxes.proofs.Again.{many_again}
use Rattle.sorted_boxes.proofs.Carrying.{StillSettled}
use Rattle.sorted_boxes.proofs.Giving.{known_as}
use Rattle.sorted_boxes.proofs.SortLists.{box_in}

same_found : (a b : Field) → finds.Field a ≡ finds.Field b → a ≡ b
same_found a b is = cc

module _ (a : Bound Sorting) (fresh : ℕ) (sorts : SortList) (at : HoldsNew fresh sorts a.seat.me)
  where
    abbrev Named : Field → Bound Sorting → Type 0
    Named found b = Updated HoldsSorted no_field_is_fixed same_pass a fresh 0 values.Null
        (values.Held fresh) found b

    -- Nobody else knows it, so its first field holds null at the exchange.
    module _ (b : Bound Sorting) (found : Field) (wrote : Named found b) where
      abbrev v : View Sorting
      v = wrote.at.seat.me

      abbrev s : State
      s = wrote.event.core

      known_at_it : known_of v fresh ≡ knows.Fresh at.may.fields
      known_at_it =
          ap (λ (ks : List Known). known_at ks fresh) wrote.calm.kept.known ∙ at.may.known

      there_at_it : fresh < length v.own.held
      there_at_it =
          let same = many_same v.own.held a.seat.me.own.held wrote.calm.kept.held in
          let there = at.may.there in
          omega (arith, same, there)

      is_known : IsKnown no_field_is_fixed s wrote.event.lore v.number (target v fresh)
          (knows.Fresh at.may.fields)
      is_known =
          subst (λ (k : Known). IsKnown no_field_is_fixed s wrote.event.lore v.number
          (target v fresh) k) known_at_it
          (knows_place v s wrote.event.lore wrote.event.mine fresh there_at_it)

      found_null : found ≡ field.Null
      found_null =
          sym (same_found (field_of s (target_of s v.number fresh) 0) found wrote.event.found_is)
          ∙ ap (λ (x : ℕ). field_of s x 0) (target_now v s wrote.event.lore wrote.event.mine fresh)
          ∙ is_known.2.each 0 (omega arith) ∙ at.null

      pub never_refused : same_field found field.Null ≡ false → ⊥
      never_refused other =
          absurd (let null = found_null in let is : same_field field.Null field.Null ≡ false =
          subst (λ (w : Field). same_field w field.Null ≡ false) null other in cc)

    -- What it leaves: the new box is open as the others are.
    module _ (b : Bound Sorting) (named : Named field.Null b) where
      pub named_keeps : KeepsPlaces a b
      named_keeps = updated_keeps a b fresh 0 values.Null (values.Held fresh) field.Null named

      new_known : KnownOfSort Boxes (known_of b.seat.me fresh)
      new_known =
          let box = wrote_box no_field_is_fixed HoldsSorted same_pass a b fresh 0 values.Null
          (values.Held fresh) field.Null named
          (many_known a b fresh 0 values.Null (values.Held fresh) field.Null named) refl fresh
          at.may.fields at.may.there refl at.may.known in
          subst (λ (k : Known). KnownOfSort Boxes k) (sym box.1) tt

      long : length b.seat.me.own.held ≡ fresh + 1
      long = many_again a b named_keeps ∙ at.last

      first_still : HoldsFirst fresh sorts b.seat.me
      first_still = kept_first a b named_keeps
          (updated_still a b fresh 0 values.Null (values.Held fresh) field.Null named) fresh sorts
          at.first

      pub named_records : StillRecords a.seat.me.known b.seat.me.known
      named_records = updated_records a b fresh 0 values.Null (values.Held fresh) field.Null named

      -- where the list tells of a box there
      pub named_holds : holds_record sorts fresh ≡ false → HoldsAs sorts b.seat.me
      named_holds boxed = record {
        inside = first_still.inside;
        serves = first_still.serves;
        some = let many = long in omega (arith, many);
        each = λ p lt. elim (cases_lt p fresh) [
          | inl less ↦ first_still.each p less
          | inr behind ↦
              let same : fresh ≡ p = let many = long in omega (arith, lt, behind, many) in
              subst (λ (n : ℕ). IsAs b.seat.me n (sort_in sorts n)) same
              (subst (λ (sort : Sort). IsAs b.seat.me fresh sort) (sym (box_in sorts fresh boxed))
              (known_as b.seat.me fresh Boxes at.some new_known))
        ];
      }

-- Whether two places hold one cell: all places are kept.
module _ (b c : Bound Sorting) (p : Found)
    (told : c ≡ takes b (event.Keep b.seat.me.number (length b.seat.me.own.held) 0 0) p) where
  pub same_keeps : KeepsPlaces b c
  same_keeps = record {
    goes = cut_goes b c (length b.seat.me.own.held) p told;
    held = cut_held b c (length b.seat.me.own.held) p told b [] refl (sym (append-nil (held_cells b)))
        ∙ append-nil (held_cells b);
    pass = cut_pass b c (length b.seat.me.own.held) p told;
  }

  pub same_still : StillSettled b c
  same_still place lt is_settled =
      cut_known no_field_is_fixed b c (length b.seat.me.own.held) p told place lt

pub dropped_then : (b c d : Bound Sorting) (n : ℕ) → KeepsPlaces b c → Drops n c d → Drops n b d
dropped_then b c d n keeps drops = record {
  goes = goes_then keeps.goes drops.goes;
  held = drops.held ∙ ap (λ (cs : List ℕ). take n cs) keeps.held;
  pass = drops.pass ∙ keeps.pass;
}

-- What is so if a call answered so.

pub true_both : {P Q R : Type 0} (b : Bool) → (P → Q → R) → OnTrue b P → OnTrue b Q → OnTrue b R
true_both true next one other = next one other
true_both false next one other = tt

pub false_on : {P Q : Type 0} (b : Bool) → (P → Q) → OnFalse b P → OnFalse b Q
false_on true next is = tt
false_on false next is = next is

pub never_on : (P : Type 0) (b : Bool) → b ≡ false → OnTrue b P
never_on P true is = absurd cc
never_on P false is = tt

pub lost_on : {P : Type 0} (b : Bool) → b ≡ false → P → OnFalse b P
lost_on true is p = tt
lost_on false is p = p
