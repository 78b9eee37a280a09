-- The fields of a raw cell, filled one after the other: what each fill needs, and what it leaves.
use Rattle.std.proofs.Common.{◌≡◌, ◌≢◌, ◌<◌, ◌+◌, ◌==◌, ◌^◌, ℕ, zero, suc, true, List}
use Rattle.std.proofs.Common.{[], length, get_or, nat_lt, inl, inr, ◌⊎◌, ⊎_elim}
use Rattle.std.proofs.Common.{refl, sym, ◌∙◌, ap, subst, arith}
use Rattle.std.specs.Prelude.{slice_index_or, slice_set}
use Rattle.std.proofs.lemmas.Bool.{cases_eq}
use Rattle.std.proofs.lemmas.List.{get_or-set_other, get_or-set_same, length-set}
use Rattle.cell_words.specs.declared.fields.Field.{Field}
use Rattle.cell_words.specs.declared.fields.Field.TheVariants as field
use Rattle.core_machine.specs.declared.events.Event.TheVariants as event
use Rattle.core_machine.specs.declared.events.Found.TheVariants as finds
use Rattle.core_machine.specs.Places.{names_rightly}
use Rattle.core_machine.specs.Words.{is_cell}
use Rattle.dlg_core.proofs.Truths.{or_later}
use Rattle.heap_rule.specs.declared.known.Known.{Known}
use Rattle.heap_rule.specs.declared.known.Known.TheVariants as knows
use Rattle.heap_rule.specs.Asks.{IsRaw, IsSealedValue, MayFill, known_of, knows_sealed, raw_fields}
use Rattle.heap_rule.specs.Asks.{target}
use Rattle.heap_rule.specs.Lore.{at_cell, five_nulls, known_at, known_named, known_revealed}
use Rattle.heap_rule.specs.Lore.{known_set, known_stored, nothing_learned}
use Rattle.heap_rule.specs.Settled.{NamesSettled}
use Rattle.heap_rule.proofs.Many.{at_cell_many}
use Rattle.heap_rule.proofs.Reading.{cell_there}
use Rattle.held_places.specs.Calls.{known_fresh, settled}
use Rattle.held_places.proofs.Going.{goes_none, goes_then, goes_told, many_cells}
use Rattle.held_places.proofs.Knowns.{changed_else, changed_here, sealed_at}
use Rattle.held_places.proofs.Storing.{named_not, settled_is, settled_sealed, stored_many}
use Rattle.mutator_events.specs.declared.values.Value.{Value}
use Rattle.mutator_events.specs.declared.values.Value.TheVariants as values
use Rattle.mutator_events.specs.Values.{field_at}
use Rattle.mutator_seat.specs.Bound.{Bound, held_cells, takes_with}
use Rattle.mutator_seat.proofs.Writes.{field_same, many_same, rightly}
use Rattle.trails.specs.Asks.{nothing}
use Rattle.cell_making.specs.Makes.{Filled, IsUnnamed, MayFillAll, MayName, value_at}

-- What is known of another cell stays as it was, where it is not fresh or is not named.

revealed_same : (k : Known) → (known_fresh k ≡ true → ⊥) → known_revealed k ≡ k
revealed_same knows.Nothing other = refl
revealed_same (knows.Raw fields) other = absurd (other refl)
revealed_same (knows.Fresh fields) other = absurd (other refl)
revealed_same (knows.Record t) other = refl
revealed_same (knows.Boxed told) other = refl

module _ (cells : List ℕ) (known : List Known) (many : length known ≡ length cells) where
  named_same : (value : Field) (place : ℕ) → place < length cells
      → (known_fresh (known_at known place) ≡ true
      → (c : ℕ) → value ≡ field.Cell c → get_or cells place 0 ≢ c)
      → known_at (known_named cells known value) place ≡ known_at known place
  named_same field.Null place lt other = refl
  named_same (field.Num n) place lt other = refl
  named_same (field.Cell c) place lt other = elim (cases_eq (get_or cells place 0) c) [
    | inl is ↦ changed_here known_revealed c cells known place lt many is
        ∙ revealed_same (known_at known place) (λ fresh. other fresh c refl is)
    | inr apart ↦ changed_else known_revealed c cells known place lt apart
  ]

stored_same : (cells : List ℕ) (known : List Known) (place f : ℕ) (value : Field)
    → length known ≡ length cells → (other : ℕ) → other < length cells
    → get_or cells other 0 ≢ get_or cells place 0
    → (known_fresh (known_at known other) ≡ true
    → (c : ℕ) → value ≡ field.Cell c → get_or cells other 0 ≢ c)
    → known_at (known_stored cells known place f value) other ≡ known_at known other
stored_same cells known place f value many other lt apart unnamed =
    let c = get_or cells place 0 in
    let next = at_cell (known_set f value) c cells known in
    let first = changed_else (known_set f value) c cells known other lt apart in
    named_same cells next (at_cell_many (known_set f value) c cells known many ∙ many) value other
    lt (λ fresh. unnamed (sym (ap known_fresh first) ∙ fresh)) ∙ first

-- what is settled is not fresh
not_both : (k : Known) → settled k ≡ true → known_fresh k ≡ true → ⊥
not_both knows.Nothing is fresh = absurd cc
not_both (knows.Raw fields) is fresh = absurd cc
not_both (knows.Fresh fields) is fresh = absurd cc
not_both (knows.Record t) is fresh = absurd cc
not_both (knows.Boxed told) is fresh = absurd cc

-- The fields so far.

null_at : (i : ℕ) → slice_index_or five_nulls i field.Null ≡ field.Null
null_at zero = refl
null_at (suc zero) = refl
null_at (suc (suc zero)) = refl
null_at (suc (suc (suc zero))) = refl
null_at (suc (suc (suc (suc zero)))) = refl
null_at (suc (suc (suc (suc (suc i))))) = refl

up_to : (j i : ℕ) → j < i + 1 → (j < i) ⊎ (j ≡ i)
up_to j i lt = search (arith, lt)

-- a value that is a cell is the cell of a place
of_place : {P : Type 0} (m : Bound P) (value : Value) (c : ℕ)
    → field_at m.seat.me.own.held value ≡ field.Cell c
    → (place : ℕ) × ((value ≡ values.Held place) × (target m.seat.me place ≡ c))
of_place m values.Null c is = absurd cc
of_place m (values.Num n) c is = absurd cc
of_place m (values.Held place) c is = (place, (refl, cc))

module _ {P : Type 0} (old : Bound P) (fresh : ℕ) (given : List Value)
    (may : MayFillAll old fresh given) where
  pub filling_starts : Filled old fresh given 0 old
  filling_starts = record {
    goes = goes_none old;
    held = refl;
    many = may.many;
    fields = five_nulls;
    raw = may.raw;
    are = record {
      five = refl;
      done = λ i lt. absurd (omega (arith, lt));
      rest = λ i le lt. null_at i;
    };
    known = λ place lt is. refl;
    pass = refl;
    claims = refl;
  }

  -- a cell that is named is not the one that is filled
  named_apart : (i : ℕ) → i < 5 → (c : ℕ)
      → field_at old.seat.me.own.held (value_at given i) ≡ field.Cell c
      → target old.seat.me fresh ≢ c
  named_apart i lt c is same =
      let of = of_place old (value_at given i) c is in
      let before : of.0 < fresh =
      (subst (λ (v : Value). MayName old.seat.me fresh v) of.1.0 (may.named i lt)).0 in
      may.apart of.0 before (of.1.1 ∙ sym same)

  module _ (n : ℕ) (a : Bound P) (filled : Filled old fresh given n a) (lt : n < 5) where
    abbrev value : Value
    value = value_at given n

    abbrev word : Field
    word = field_at old.seat.me.own.held value

    abbrev cells : List ℕ
    cells = held_cells a

    abbrev known : List Known
    known = a.seat.me.known

    word_now : field_at a.seat.me.own.held value ≡ word
    word_now = field_same a.seat.me.own.held old.seat.me.own.held filled.held value

    many_now : length known ≡ length cells
    many_now = filled.many ∙ sym (many_cells a)

    cells_many : length cells ≡ length old.seat.me.own.held
    cells_many = ap (λ (cs : List ℕ). length cs) filled.held ∙ many_cells old

    long : length a.seat.me.own.held ≡ length old.seat.me.own.held
    long = many_same a.seat.me.own.held old.seat.me.own.held filled.held

    within : fresh < length cells
    within = let there = may.there in omega (arith, there, cells_many)

    there_now : fresh < length a.seat.me.own.held
    there_now = let there = may.there in omega (arith, there, long)

    cell_at_is : (place : ℕ) → get_or cells place 0 ≡ target old.seat.me place
    cell_at_is place = ap (λ (cs : List ℕ). get_or cs place 0) filled.held
        ∙ cell_there old.seat.me.own.held place

    -- What the fill needs.

    -- a settled place is known as before
    settled_now : (place : ℕ) → place < fresh → settled (known_of old.seat.me place) ≡ true
        → settled (known_of a.seat.me place) ≡ true
    settled_now place before is =
        ap settled (filled.known place before
        (λ fresh_is i other below names. absurd
        (not_both (known_of old.seat.me place) is fresh_is)))
        ∙ is

    names_now : (v : Value) → MayName old.seat.me fresh v
        → names_rightly a.seat.me.own.held (field_at a.seat.me.own.held v) ≡ true
    names_now values.Null named = refl
    names_now (values.Num k) named = below k named
      where
        below : (k : ℕ) → k < 2 ^ 62 → nat_lt k (2 ^ 62) ≡ true
        below k lt = search (arith, lt)
    names_now (values.Held place) named =
        rightly a.seat.me.own.held (values.Held place)
        (let before = named.0 in omega (arith, before, there_now))

    sealed_now : (v : Value) → MayName old.seat.me fresh v
        → IsSealedValue cells known (field_at a.seat.me.own.held v)
    sealed_now values.Null named = tt
    sealed_now (values.Num k) named = tt
    sealed_now (values.Held place) named =
        let c = target a.seat.me place in
        or_later (c == 0) (knows_sealed cells known c)
        (sealed_at cells known place c (let before = named.0 in omega (arith, before, within))
        (cell_there a.seat.me.own.held place)
        (settled_sealed (known_of a.seat.me place) (settled_now place named.0 named.1)))

    settles_now : (v : Value) → MayName old.seat.me fresh v
        → NamesSettled a.seat.me (field_at a.seat.me.own.held v)
    settles_now values.Null named = tt
    settles_now (values.Num k) named = tt
    settles_now (values.Held place) named = (
      place,
      (
        (let before = named.0 in omega (arith, before, there_now)),
        (refl, settled_is (known_of a.seat.me place) (settled_now place named.0 named.1)),
      ),
    )

    pub may_fill : MayFill a.seat.me fresh n (field_at a.seat.me.own.held value)
    may_fill = record {
      inside = filled.goes.inside ∙ may.inside;
      there = there_now;
      raw = subst IsRaw (sym filled.raw) tt;
      payload = omega (arith, lt);
      names = names_now value (may.named n lt);
      sealed = sealed_now value (may.named n lt);
      clear = ap (λ (k : Known). is_cell (slice_index_or (raw_fields k) n field.Null)) filled.raw
          ∙ ap is_cell (filled.are.rest n (omega arith) lt);
    }

    pub names_settled : NamesSettled a.seat.me (field_at a.seat.me.own.held value)
    names_settled = settles_now value (may.named n lt)

    -- A value that is null is there already.
    pub filled_null : value ≡ values.Null → Filled old fresh given (n + 1) a
    filled_null null = record {
      goes = filled.goes;
      held = filled.held;
      many = filled.many;
      fields = filled.fields;
      raw = filled.raw;
      are = record {
        five = filled.are.five;
        done = λ j below. ⊎_elim
            (λ (less : j < n). filled.are.done j less)
            (λ (same : j ≡ n). subst (λ (k : ℕ). slice_index_or filled.fields k field.Null
            ≡ field_at old.seat.me.own.held (value_at given k)) (sym same)
            (filled.are.rest n (omega arith) lt
            ∙ sym (ap (λ (v : Value). field_at old.seat.me.own.held v) null)))
            (up_to j n below);
        rest = λ j above under. filled.are.rest j (omega (arith, above)) under;
      };
      known = filled.known;
      pass = filled.pass;
      claims = filled.claims;
    }

    -- What it leaves.

    module _ (b : Bound P)
        (told : b ≡ takes_with a (event.Fill a.seat.me.number fresh n
        (field_at a.seat.me.own.held value)) finds.Stored a.seat.me.pass) where
      told_word : b ≡ takes_with a (event.Fill a.seat.me.number fresh n word) finds.Stored
          a.seat.me.pass
      told_word = told
          ∙ ap (λ (x : Field). takes_with a (event.Fill a.seat.me.number fresh n x) finds.Stored
          a.seat.me.pass) word_now

      stored_known : (place : ℕ)
          → known_of b.seat.me place ≡ known_at (known_stored cells known fresh n word) place
      stored_known place = ap (λ (m : Bound P). known_of m.seat.me place) told_word

      cell_is : get_or cells fresh 0 ≡ target old.seat.me fresh
      cell_is = cell_at_is fresh

      raw_then : known_of b.seat.me fresh ≡ knows.Raw (slice_set filled.fields n word)
      raw_then =
          let change = known_set n word in
          let c = get_or cells fresh 0 in
          stored_known fresh
          ∙ named_not cells (at_cell change c cells known)
          (at_cell_many change c cells known many_now ∙ many_now) word fresh within
          (λ d is same. named_apart n lt d is (sym cell_is ∙ same))
          ∙ changed_here change c cells known fresh within many_now refl
          ∙ ap change filled.raw

      known_then : (place : ℕ) → place < fresh → IsUnnamed old.seat.me given place
          → known_of b.seat.me place ≡ known_of old.seat.me place
      known_then place before spared =
          let same = filled.known place before spared in
          stored_known place
          ∙ stored_same cells known fresh n word many_now place (omega (arith, before, within))
          (λ here. may.apart place before (sym (cell_at_is place) ∙ here ∙ cell_is))
          (λ is c named here.
          let of = of_place old value c named in
          spared (sym (ap known_fresh same) ∙ is) n of.0 lt of.1.0
          (sym (cell_at_is place) ∙ here ∙ sym of.1.1))
          ∙ same

      pub filled_more : Filled old fresh given (n + 1) b
      filled_more = record {
        goes = goes_then filled.goes (goes_told a b [] (event.Fill a.seat.me.number fresh n word)
            finds.Stored nothing_learned a.seat.me.pass
            (ap (λ (m : Bound P). m.heap) told_word)
            (ap (λ (m : Bound P). m.seat.table) told_word)
            (ap (λ (m : Bound P). m.seat.me) told_word) refl nothing);
        held = ap (λ (m : Bound P). held_cells m) told_word ∙ filled.held;
        many = ap (λ (m : Bound P). length m.seat.me.known) told_word
            ∙ stored_many cells known fresh n word many_now ∙ filled.many
            ∙ sym (ap (λ (m : Bound P). length m.seat.me.own.held) told_word);
        fields = slice_set filled.fields n word;
        raw = raw_then;
        are = record {
          five = length-set filled.fields n word ∙ filled.are.five;
          done = λ j below. ⊎_elim
              (λ (less : j < n).
              get_or-set_other filled.fields n j word field.Null (omega (arith, less))
              ∙ filled.are.done j less)
              (λ (same : j ≡ n). subst (λ (k : ℕ).
              slice_index_or (slice_set filled.fields n word) k field.Null
              ≡ field_at old.seat.me.own.held (value_at given k)) (sym same)
              (get_or-set_same filled.fields n word field.Null
              (let five = filled.are.five in omega (arith, lt, five))))
              (up_to j n below);
          rest = λ j above under.
              get_or-set_other filled.fields n j word field.Null (omega (arith, above))
              ∙ filled.are.rest j (omega (arith, above)) under;
        };
        known = known_then;
        pass = ap (λ (m : Bound P). m.seat.me.pass) told_word ∙ filled.pass;
        claims = ap (λ (m : Bound P). m.seat.me.own.claims) told_word ∙ filled.claims;
      }
