-- The exchange of the record that the anchor names: what it needs, and what it leaves.
use Rattle.std.proofs.Common.{◌≡◌, ◌∙◌, ◌+◌, ◌==◌, ◌||◌, ◌∷◌, ℕ, List, [], Bool, true}
use Rattle.std.proofs.Common.{false, ap, sym, subst, refl, arith, length, if◌then◌else◌}
use Rattle.std.specs.Prelude.{slice_index_or}
use Rattle.std.proofs.lemmas.Bool.{eq-eqb}
use Rattle.cell_words.specs.declared.fields.Field.{Field}
use Rattle.cell_words.specs.declared.fields.Field.TheVariants as word
use Rattle.core_machine.specs.declared.events.Event.TheVariants as event
use Rattle.core_machine.specs.declared.events.Found.TheVariants as finds
use Rattle.core_machine.specs.Words.{same_field}
use Rattle.heap_rule.specs.Asks.{IsBox, IsSealedValue, known_of, target}
use Rattle.heap_rule.specs.Lore.{known_revealed, known_set, known_stored_if}
use Rattle.heap_rule.specs.Lore.{was_made}
use Rattle.heap_rule.specs.NoRule.{no_field_is_fixed}
use Rattle.heap_rule.specs.Steps.{Picks}
use Rattle.heap_rule.specs.declared.known.Known.{Known}
use Rattle.heap_rule.specs.declared.known.Known.TheVariants as knows
use Rattle.heap_rule.specs.declared.view.View.{View}
use Rattle.heap_rule.proofs.Reading.{cell_there}
use Rattle.mutator_events.specs.declared.values.Value.TheVariants as values
use Rattle.mutator_events.specs.Values.{field_at}
use Rattle.mutator_events.proofs.HeldCells.{cells_many}
use Rattle.mutator_seat.specs.Bound.{Bound, held_cells}
use Rattle.mutator_seat.specs.Writes.{MayUpdate, PicksUpdate, Updated}
use Rattle.promotion.proofs.Knowing.{knows_sealed_at}
use Rattle.example_counter.specs.Adding.{Adds, HoldsNext, Loose}
use Rattle.example_counter.specs.Counting.{Counts, adding, number_record, one_more}
use Rattle.example_counter.specs.declared.counter.Added.{Added}
use Rattle.example_counter.proofs.Picks.{picks_next}

is_box_of : (cell : ℕ) (k : Known) → cell ≡ 0 → IsBox cell k
is_box_of cell knows.Nothing is = is
is_box_of cell (knows.Raw fields) is = is
is_box_of cell (knows.Fresh fields) is = tt
is_box_of cell (knows.Record t) is = is
is_box_of cell (knows.Boxed terms) is = tt

or_right : (a b : Bool) → b ≡ true → (a || b) ≡ true
or_right true b is = refl
or_right false b is = is

-- what is known after a write of the anchor
record Front (known : List Known) : Type 0 where
  first : Known
  more : List Known
  is : known ≡ first ∷ more

front_after : (made : Bool) (c d : ℕ) (k j i : Known) (w : Field)
    → Front (known_stored_if made (0 ∷ c ∷ d ∷ []) (k ∷ j ∷ i ∷ []) 0 0 w)
front_after false c d k j i w = record {
  first = k;
  more = j ∷ i ∷ [];
  is = refl;
}
front_after true c d k j i word.Null = record {
  first = known_set 0 word.Null k;
  more = _;
  is = refl;
}
front_after true c d k j i (word.Num n) = record {
  first = known_set 0 (word.Num n) k;
  more = _;
  is = refl;
}
front_after true c d k j i (word.Cell e) = record {
  first = if 0 == e then known_revealed (known_set 0 (word.Cell e) k)
      else known_set 0 (word.Cell e) k;
  more = _;
  is = refl;
}

module _ (count : ℕ) (a : Bound Added) (at : HoldsNext count a) where
  abbrev c : ℕ
  c = at.cell

  abbrev d : ℕ
  d = at.next

  many : length a.seat.me.own.held ≡ 3
  many = sym (cells_many a.seat.me.own.held) ∙ ap (λ (cs : List ℕ). length cs) at.holds.held

  cell_of : (m : Bound Added) → held_cells m ≡ held_cells a → (place : ℕ)
      → field_at m.seat.me.own.held (values.Held place)
      ≡ word.Cell (slice_index_or (0 ∷ c ∷ d ∷ []) place 0)
  cell_of m same place =
      ap (λ (x : ℕ). word.Cell x)
      (sym (cell_there m.seat.me.own.held place)
      ∙ ap (λ (cs : List ℕ). slice_index_or cs place 0) (same ∙ at.holds.held))

  pub may_exchange : MayUpdate no_field_is_fixed a.seat.me 0 0 (values.Held 1) (values.Held 2)
  may_exchange = record {
    inside = at.holds.inside;
    there = omega (arith, many);
    payload = omega arith;
    box = is_box_of (target a.seat.me 0) (known_of a.seat.me 0)
        (sym (cell_there a.seat.me.own.held 0)
        ∙ ap (λ (cs : List ℕ). slice_index_or cs 0 0) at.holds.held);
    old_named = omega (arith, many);
    new_named = omega (arith, many);
    sealed = subst (λ (w : Field). IsSealedValue (held_cells a) a.seat.me.known w)
        (sym (cell_of a refl 2))
        (subst (λ (cs : List ℕ). IsSealedValue cs a.seat.me.known (word.Cell d))
        (sym at.holds.held)
        (subst (λ (ks : List Known). IsSealedValue (0 ∷ c ∷ d ∷ []) ks (word.Cell d))
        (sym at.holds.known)
        (or_right (d == 0) _
        (knows_sealed_at (0 ∷ c ∷ d ∷ []) []
        (at.holds.first ∷ knows.Record (number_record count)
        ∷ knows.Record (number_record (count + 1)) ∷ []) [] 2 d (number_record (count + 1)) refl
        refl refl))));
    spares = λ fixed. absurd cc;
  }

  pub picks_exchange : PicksUpdate Counts no_field_is_fixed
      (adding (field_at a.seat.me.own.held (values.Held 1))) a 0 0 (values.Held 1) (values.Held 2)
  picks_exchange m kept presence =
      subst (λ (z : Field). Picks Counts no_field_is_fixed (adding z) m.seat.me
      (event.Write m.seat.me.number 0 0 (field_at m.seat.me.own.held (values.Held 1))
      (field_at m.seat.me.own.held (values.Held 2)))) (sym (cell_of a refl 1))
      (subst (λ (x : Field). Picks Counts no_field_is_fixed (adding (word.Cell c)) m.seat.me
      (event.Write m.seat.me.number 0 0 x (field_at m.seat.me.own.held (values.Held 2))))
      (sym (cell_of m kept.held 1))
      (subst (λ (y : Field). Picks Counts no_field_is_fixed (adding (word.Cell c)) m.seat.me
      (event.Write m.seat.me.number 0 0 (word.Cell c) y)) (sym (cell_of m kept.held 2))
      (picks_next m.seat.me count c d at.holds.first (kept.held ∙ at.holds.held)
      (kept.known ∙ at.holds.known))))

  module _ (b : Bound Added) (found : Field)
      (done : Updated Counts no_field_is_fixed
      (adding (field_at a.seat.me.own.held (values.Held 1))) a 0 0 (values.Held 1) (values.Held 2)
      found b) where
    abbrev m : Bound Added
    m = done.at

    abbrev made : Bool
    made = was_made (field_at m.seat.me.own.held (values.Held 1)) (finds.Field found)

    known_b : b.seat.me.known ≡ known_stored_if made (0 ∷ c ∷ d ∷ [])
        (at.holds.first ∷ knows.Record (number_record count)
        ∷ knows.Record (number_record (count + 1)) ∷ []) 0 0
        (field_at m.seat.me.own.held (values.Held 2))
    known_b =
        let w = field_at m.seat.me.own.held (values.Held 2) in
        ap (λ (v : View Added). v.known) done.event.new
        ∙ ap (λ (cs : List ℕ). known_stored_if made cs m.seat.me.known 0 0 w)
        (done.calm.kept.held ∙ at.holds.held)
        ∙ ap (λ (ks : List Known). known_stored_if made (0 ∷ c ∷ d ∷ []) ks 0 0 w)
        (done.calm.kept.known ∙ at.holds.known)

    pub loose_after : Loose b
    loose_after =
        let front = front_after made c d at.holds.first (knows.Record (number_record count))
        (knows.Record (number_record (count + 1)))
        (field_at m.seat.me.own.held (values.Held 2)) in
        record {
          cells = c ∷ d ∷ [];
          more = front.more;
          holds = record {
            inside = done.places.inside ∙ at.holds.inside;
            held = done.held ∙ at.holds.held;
            first = front.first;
            known = known_b ∙ front.is;
            room = done.places.room ∙ at.holds.room;
          };
        }

    pub adds_if : (how : Bool)
        → same_field found (field_at a.seat.me.own.held (values.Held 1)) ≡ how
        → Adds (if how then 1 else 0) a b
    adds_if true is = record {
      heap = done.heap;
      number = done.places.number;
      pass = done.pass ∙ ap (λ (k : Bool). one_more k a.seat.me.pass) is;
    }
    adds_if false is = record {
      heap = done.heap;
      number = done.places.number;
      pass = done.pass ∙ ap (λ (k : Bool). one_more k a.seat.me.pass) is
          ∙ (λ i. record {
            sum = (let e : a.seat.me.pass.sum ≡ a.seat.me.pass.sum + 0 =
                omega arith in e) i;
          });
    }

  -- what was expected was found
  pub found_same : same_field (field_at a.seat.me.own.held (values.Held 1))
      (field_at a.seat.me.own.held (values.Held 1)) ≡ true
  found_same =
      ap (λ (w : Field). same_field w w) (cell_of a refl 1) ∙ eq-eqb c c refl
