-- The seal of a filled cell, and what is then held and known of it as a box.
use Rattle.std.proofs.Common.{◌≡◌, ◌<◌, ℕ, true, List, [], ◌∷◌, length, get_or}
use Rattle.std.proofs.Common.{refl, sym, ◌∙◌, ap, subst, arith}
use Rattle.std.specs.Prelude.{slice_index_or}
use Rattle.cell_words.specs.declared.fields.Field.{Field}
use Rattle.cell_words.specs.declared.fields.Field.TheVariants as field
use Rattle.cell_words.specs.declared.fields.Kind.TheVariants as kind
use Rattle.core_machine.specs.declared.events.Event.TheVariants as event
use Rattle.core_machine.specs.declared.events.Found.TheVariants as finds
use Rattle.heap_rule.specs.declared.known.Known.{Known}
use Rattle.heap_rule.specs.declared.known.Known.TheVariants as knows
use Rattle.heap_rule.specs.Asks.{IsRaw, MaySeal, known_of, target}
use Rattle.heap_rule.specs.Lore.{known_sealed, nothing_learned}
use Rattle.heap_rule.proofs.Many.{at_cell_many}
use Rattle.heap_rule.proofs.Reading.{cell_there}
use Rattle.held_places.proofs.Claiming.{claimed_claims, claimed_goes, claimed_pass, claimed_same}
use Rattle.held_places.proofs.Claiming.{stood_nowhere}
use Rattle.held_places.proofs.Going.{goes_then, goes_told, many_cells}
use Rattle.held_places.proofs.Knowns.{changed_else, changed_here}
use Rattle.mutator_events.specs.declared.values.Value.{Value}
use Rattle.mutator_events.specs.Values.{field_at}
use Rattle.mutator_seat.specs.Bound.{Bound, held_cells, takes}
use Rattle.mutator_seat.specs.Claims.{Claimed}
use Rattle.mutator_seat.proofs.Writes.{many_same}
use Rattle.trails.specs.Asks.{nothing}
use Rattle.cell_making.specs.Makes.{Filled, MakesBox, MayName, five_fields, value_at}
use Rattle.cell_making.proofs.Claiming.{field_still, fills_all, unnamed_still}

-- five fields are these
five_are : (ws : List Field) (w : ℕ → Field) → length ws ≡ 5
    → ((i : ℕ) → i < 5 → slice_index_or ws i field.Null ≡ w i)
    → ws ≡ w 0 ∷ w 1 ∷ w 2 ∷ w 3 ∷ w 4 ∷ []
five_are [] w many each = absurd (omega (arith, many))
five_are (p ∷ []) w many each = absurd (omega (arith, many))
five_are (p ∷ q ∷ []) w many each = absurd (omega (arith, many))
five_are (p ∷ q ∷ r ∷ []) w many each = absurd (omega (arith, many))
five_are (p ∷ q ∷ r ∷ s ∷ []) w many each = absurd (omega (arith, many))
five_are (p ∷ q ∷ r ∷ s ∷ t ∷ []) w many each =
    λ i. each 0 (omega arith) i ∷ each 1 (omega arith) i ∷ each 2 (omega arith) i
    ∷ each 3 (omega arith) i ∷ each 4 (omega arith) i ∷ []
five_are (p ∷ q ∷ r ∷ s ∷ t ∷ u ∷ ws) w many each = absurd (omega (arith, many))

module _ {P : Type 0} (a b m : Bound P) (fresh : ℕ) (given : List Value)
    (got : Claimed a fresh b) (inside : a.seat.me.presence.inside ≡ true)
    (named : (i : ℕ) → i < 5
    → MayName a.seat.me (length a.seat.me.own.held) (value_at given i))
    (filled : Filled b fresh given 5 m) where
  there : fresh < length b.seat.me.own.held
  there = (fills_all a b fresh got given inside named).there

  long : length m.seat.me.own.held ≡ length b.seat.me.own.held
  long = many_same m.seat.me.own.held b.seat.me.own.held filled.held

  pub may_seal : MaySeal m.seat.me fresh kind.Boxed
  may_seal = record {
    inside = filled.goes.inside ∙ (claimed_goes a b fresh got).inside ∙ inside;
    there = let lt = there in let same = long in omega (arith, lt, same);
    raw = subst IsRaw (sym filled.raw) tt;
    terms = tt;
  }

  module _ (n : Bound P)
      (told : n ≡ takes m (event.Seal m.seat.me.number fresh kind.Boxed) finds.Stored) where
    abbrev cells : List ℕ
    cells = held_cells m

    abbrev known : List Known
    known = m.seat.me.known

    abbrev change : Known → Known
    change = known_sealed cells known kind.Boxed

    many_now : length known ≡ length cells
    many_now = filled.many ∙ sym (many_cells m)

    cells_many : length cells ≡ length b.seat.me.own.held
    cells_many = ap (λ (cs : List ℕ). length cs) filled.held ∙ many_cells b

    within : fresh < length cells
    within = let lt = there in let same = cells_many in omega (arith, lt, same)

    cell_at_is : (place : ℕ) → get_or cells place 0 ≡ target b.seat.me place
    cell_at_is place = ap (λ (cs : List ℕ). get_or cs place 0) filled.held
        ∙ cell_there b.seat.me.own.held place

    before_is : (place : ℕ) → place < length a.seat.me.own.held → place < fresh
    before_is place lt = let placed = got.place_is in omega (arith, lt, placed)

    words : filled.fields ≡ five_fields a.seat.me.own.held given
    words = five_are filled.fields
        (λ i. field_at a.seat.me.own.held (value_at given i)) filled.are.five
        (λ i lt. filled.are.done i lt
        ∙ field_still a b fresh got (value_at given i) (named i lt))

    pub makes_box : MakesBox a fresh given n
    makes_box = record {
      cell = got.cell;
      goes = goes_then (claimed_goes a b fresh got)
          (goes_then filled.goes (goes_told m n []
          (event.Seal m.seat.me.number fresh kind.Boxed) finds.Stored nothing_learned
          m.seat.me.pass (ap (λ (k : Bound P). k.heap) told)
          (ap (λ (k : Bound P). k.seat.table) told) (ap (λ (k : Bound P). k.seat.me) told) refl
          nothing));
      place_is = got.place_is;
      held = ap (λ (k : Bound P). held_cells k) told ∙ filled.held ∙ got.held;
      is_new = stood_nowhere a b fresh got;
      many = ap (λ (k : Bound P). length k.seat.me.known) told
          ∙ at_cell_many change (get_or cells fresh 0) cells known many_now ∙ filled.many
          ∙ sym (ap (λ (k : Bound P). length k.seat.me.own.held) told);
      box = ap (λ (k : Bound P). known_of k.seat.me fresh) told
          ∙ changed_here change (get_or cells fresh 0) cells known fresh within many_now refl
          ∙ ap change filled.raw ∙ ap knows.Fresh words;
      known = λ other lt spared.
          ap (λ (k : Bound P). known_of k.seat.me other) told
          ∙ changed_else change (get_or cells fresh 0) cells known other
          (let before = before_is other lt in let in_cells = within in
          omega (arith, before, in_cells))
          (λ here. (fills_all a b fresh got given inside named).apart other (before_is other lt)
          (sym (cell_at_is other) ∙ here ∙ cell_at_is fresh))
          ∙ filled.known other (before_is other lt)
          (unnamed_still a b fresh got given other lt named spared)
          ∙ claimed_same a b fresh got other lt;
      pass = ap (λ (k : Bound P). k.seat.me.pass) told ∙ filled.pass
          ∙ claimed_pass a b fresh got;
      claims = ap (λ (k : Bound P). k.seat.me.own.claims) told ∙ filled.claims
          ∙ claimed_claims a b fresh got;
    }
