-- A record that is made: its fields, and what is held and known after it.
use Rattle.std.proofs.Common.{◌≡◌, ◌<◌, ◌+◌, ◌∷◌, ℕ, List, [], length, ap, ◌∙◌}
use Rattle.std.proofs.Common.{arith}
use Rattle.std.proofs.lemmas.List.{get_or_append_left, get_or_push}
use Rattle.heap_rule.specs.Lore.{known_at}
use Rattle.heap_rule.specs.declared.known.Known.{Known}
use Rattle.heap_rule.specs.declared.known.Known.TheVariants as knows
use Rattle.mutator_events.specs.declared.values.Value.{Value}
use Rattle.mutator_events.specs.declared.values.Value.TheVariants as values
use Rattle.mutator_seat.specs.Bound.{Bound}
use Rattle.cell_making.proofs.Naming.{all_at}
use Rattle.cell_making.proofs.Resting.{loose_stays}
use Rattle.cell_making.specs.Makes.{MakesRecord, MayTerm, value_at}
use Rattle.held_places.proofs.Going.{many_cells, many_held, target_still}
use Rattle.example_root.specs.Holding.{HoldsBox, HoldsRecord}
use Rattle.example_root.specs.Rule.{number_record}
use Rattle.example_root.specs.declared.kept.Kept.{Kept}

abbrev pub record_values : ℕ → List Value
record_values n = values.Num n ∷ values.Null ∷ values.Null ∷ values.Null ∷ values.Null ∷ []

pub may_term : (known : List Known) (n : ℕ) → n < 1000000 → (i : ℕ) → i < 5
    → MayTerm known (value_at (record_values n) i)
may_term known n small i lt =
    let fits : n < 4611686018427387904 = omega (arith, small) in
    all_at (MayTerm known) tt (record_values n) (fits, (tt, (tt, (tt, (tt, tt))))) i

module _ (a b : Bound Kept) (n place : ℕ) (made : MakesRecord a place (record_values n) b) where
  longer : length b.seat.me.own.held ≡ length a.seat.me.own.held + 1
  longer = many_held a b (made.cell ∷ []) made.held

  pub makes_record : HoldsBox a → HoldsRecord n b
  makes_record at =
      let more = longer in
      let two = at.two in
      let many = many_cells a in
      let fit = made.fit in
      let known_two : length a.seat.me.known ≡ 2 = omega (arith, two, many, fit) in
      record {
        loose = loose_stays 8 a b (made.cell ∷ []) made.held made.stays at.loose;
        three = omega (arith, more, two);
        box = record {
          there = omega (arith, more, two);
          cell = target_still a b (made.cell ∷ []) made.held 1 at.box.there ∙ at.box.cell;
          told = at.box.told;
          known = ap (λ (ks : List Known). known_at ks 1) made.known
              ∙ get_or_append_left a.seat.me.known (knows.Record (number_record n) ∷ [])
              knows.Nothing 1 (omega (arith, known_two))
              ∙ at.box.known;
        };
        known = ap (λ (ks : List Known). known_at ks 2) made.known
            ∙ get_or_push a.seat.me.known (knows.Record (number_record n)) knows.Nothing 2
            known_two;
      }
