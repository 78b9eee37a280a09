-- The making of an entry's box, and the exchange of the entry that the anchor names.
use Rattle.std.proofs.Common.{◌≡◌, ◌<◌, ◌≤◌, ◌+◌, ◌∷◌, ◌++◌, ℕ, List, [], Bool, true, false}
use Rattle.std.proofs.Common.{ap, sym, subst, ◌∙◌, arith, length, if◌then◌else◌}
use Rattle.std.proofs.lemmas.List.{append-nil}
use Rattle.cell_words.specs.declared.fields.Field.{Field}
use Rattle.cell_words.specs.declared.fields.Field.TheVariants as field
use Rattle.core_machine.specs.Words.{same_field}
use Rattle.heap_rule.specs.Asks.{is_sealed, known_of, target}
use Rattle.heap_rule.specs.Lore.{known_at}
use Rattle.heap_rule.specs.Steps.{Picks}
use Rattle.heap_rule.specs.declared.known.Known.{Known}
use Rattle.heap_rule.specs.declared.known.Known.TheVariants as knows
use Rattle.mutator_events.specs.declared.values.Value.{Value}
use Rattle.mutator_events.specs.declared.values.Value.TheVariants as values
use Rattle.mutator_events.specs.Values.{field_at}
use Rattle.mutator_seat.specs.Bound.{Bound, held_cells}
use Rattle.mutator_seat.specs.Stretches.{Kept}
use Rattle.mutator_seat.specs.Writes.{MayUpdate, PicksUpdate, Updated, write_of}
use Rattle.mutator_seat.proofs.Writes.{cell_same, many_same}
use Rattle.cell_making.specs.Makes.{MakesBox, MayName, value_at}
use Rattle.held_places.specs.Calls.{known_fresh, settled}
use Rattle.held_places.proofs.Going.{kept_known, many_held, target_still}
use Rattle.cell_making.proofs.Naming.{all_at, is_box_of, sealed_value}
use Rattle.cell_making.proofs.Resting.{loose_goes}
use Rattle.example_log.specs.Appending.{Appends, HoldsEntry, HoldsNext}
use Rattle.example_log.specs.Logging.{KeepsLog, MayAppend, appending, entry_fields}
use Rattle.example_log.specs.Logging.{is_fixed, one_more}
use Rattle.example_log.specs.declared.log.Appended.{Appended}
use Rattle.example_log.proofs.Finding.{entry_still, none_more}
use Rattle.example_log.proofs.Picks.{append_picks}

-- The box.

abbrev pub entry_values : ℕ → ℕ → ℕ → List Value
entry_values number writer count =
    values.Num (number + 1) ∷ values.Held 1 ∷ values.Num writer ∷ values.Num count
    ∷ values.Null ∷ []

module _ (a : Bound Appended) (number writer count : ℕ) (at : HoldsEntry number a) where
  pub may_name : number < 1000000 → writer ≤ 4294967295 → count ≤ 4294967295
      → (i : ℕ) → i < 5
      → MayName a.seat.me (length a.seat.me.own.held)
      (value_at (entry_values number writer count) i)
  may_name small few some i lt =
      let next : number + 1 < 4611686018427387904 = omega (arith, small) in
      let by : writer < 4611686018427387904 = omega (arith, few) in
      let own : count < 4611686018427387904 = omega (arith, some) in
      all_at (MayName a.seat.me (length a.seat.me.own.held)) tt (entry_values number writer count)
      (next, ((at.entry.there, ap settled at.entry.known), (by, (own, (tt, tt))))) i

  pub makes_next : (b : Bound Appended) (place : ℕ) → writer ≡ a.seat.me.number
      → count ≡ a.seat.me.pass.count
      → MakesBox a place (entry_values number writer count) b → HoldsNext number b
  makes_next b place mine own made =
      let longer = many_held a b (made.cell ∷ []) made.held in
      let two = at.two in
      let same : target a.seat.me 1 ≡ target b.seat.me 1 =
      sym (target_still a b (made.cell ∷ []) made.held 1 at.entry.there) in
      let writer_is : writer ≡ b.seat.me.number = mine ∙ sym made.goes.number in
      let count_is : count ≡ b.seat.me.pass.count =
      own ∙ ap (λ (p : Appended). p.count) (sym made.pass) in
      record {
        loose = loose_goes 8 a b (made.cell ∷ []) made.held [] made.goes at.loose;
        may = record {
          held = record {
            told = at.entry.told;
            there = omega (arith, longer, two);
            known = made.known 1 at.entry.there
                (λ fresh. absurd (let e : false ≡ true =
                sym (ap known_fresh at.entry.known) ∙ fresh in cc))
                ∙ at.entry.known;
            number_is = at.entry.number_is;
          };
          box_there = omega (arith, longer, two);
          box_is = ap (known_of b.seat.me) (sym (made.place_is ∙ two)) ∙ made.box
              ∙ (λ i. knows.Fresh (entry_fields (same i) number (writer_is i) (count_is i)));
        };
      }

-- The exchange.

module _ (number : ℕ) (a : Bound Appended) (at : HoldsNext number a) where
  abbrev old : Field
  old = field_at a.seat.me.own.held (values.Held 1)

  pub may_exchange : MayUpdate is_fixed a.seat.me 0 0 (values.Held 1) (values.Held 2)
  may_exchange = record {
    inside = at.loose.is_in.inside;
    there = at.loose.is_in.some;
    payload = omega arith;
    box = is_box_of (target a.seat.me 0) (known_of a.seat.me 0) at.loose.is_in.anchor;
    old_named = at.may.held.there;
    new_named = at.may.box_there;
    sealed = sealed_value a 2 at.may.box_there (ap is_sealed at.may.box_is);
    spares = λ fixed. at.loose.is_in.anchor;
  }

  -- what it needs holds at the write too
  may_at : (m : Bound Appended) → Kept a m → MayAppend m.seat.me 1 2 number
  may_at m kept =
      let held : held_cells m ≡ held_cells a ++ [] = kept.held ∙ sym (append-nil (held_cells a)) in
      let same : target a.seat.me 1 ≡ target m.seat.me 1 =
      sym (cell_same m.seat.me.own.held a.seat.me.own.held kept.held 1) in
      let writer_is : a.seat.me.number ≡ m.seat.me.number = sym kept.number in
      let count_is : a.seat.me.pass.count ≡ m.seat.me.pass.count =
      ap (λ (p : Appended). p.count) (sym kept.pass) in
      record {
        held = entry_still a m [] held 1 number
            (kept_known is_fixed (length a.seat.me.own.held) a m kept 1 at.may.held.there)
            at.may.held;
        box_there = subst (λ (n : ℕ). 2 < n)
            (sym (many_same m.seat.me.own.held a.seat.me.own.held kept.held)) at.may.box_there;
        box_is = ap (λ (ks : List Known). known_at ks 2) kept.known ∙ at.may.box_is
            ∙ (λ i. knows.Fresh (entry_fields (same i) number (writer_is i) (count_is i)));
      }

  pub picks_exchange : PicksUpdate KeepsLog is_fixed (appending old) a 0 0 (values.Held 1)
      (values.Held 2)
  picks_exchange m kept presence =
      subst (λ (x : ℕ). Picks KeepsLog is_fixed (appending (field.Cell x)) m.seat.me
      (write_of m 0 0 (values.Held 1) (values.Held 2)))
      (cell_same m.seat.me.own.held a.seat.me.own.held kept.held 1)
      (append_picks m.seat.me 1 2 number
      (cell_same m.seat.me.own.held a.seat.me.own.held kept.held 0 ∙ at.loose.is_in.anchor)
      (may_at m kept))

  module _ (b : Bound Appended) (found : Field)
      (wrote : Updated KeepsLog is_fixed (appending old) a 0 0 (values.Held 1) (values.Held 2)
      found b) where
    pass_b : b.seat.me.pass ≡ one_more (same_field found old) a.seat.me.pass
    pass_b = wrote.pass

    pub appends_if : (how : Bool) → same_field found old ≡ how
        → Appends (if how then 1 else 0) a b
    appends_if true is = record {
      heap = wrote.places.heap;
      number = wrote.places.number;
      pass = pass_b ∙ ap (λ (k : Bool). one_more k a.seat.me.pass) is;
    }
    appends_if false is = record {
      heap = wrote.places.heap;
      number = wrote.places.number;
      pass = pass_b ∙ ap (λ (k : Bool). one_more k a.seat.me.pass) is
          ∙ none_more a.seat.me.pass;
    }
