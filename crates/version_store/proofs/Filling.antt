-- The filling of a claimed cell, and its seal as a box.
use Rattle.std.proofs.Common.{◌≡◌, ◌≢◌, ◌<◌, ◌≤◌, ◌==◌, ℕ, true, false, List, [], ◌∷◌}
use Rattle.std.proofs.Common.{length, get_or, slice_set, slice_index_or}
use Rattle.std.proofs.Common.{◌⊎◌, inl, inr, refl, sym, ◌∙◌, ap, subst, arith}
use Rattle.cell_words.specs.declared.fields.Field.{Field}
use Rattle.cell_words.specs.declared.fields.Field.TheVariants as field
use Rattle.cell_words.specs.declared.fields.Kind.TheVariants as kind
use Rattle.core_machine.specs.declared.events.Event.TheVariants as event
use Rattle.core_machine.specs.declared.events.Found.TheVariants as finds
use Rattle.core_machine.specs.Places.{names_rightly}
use Rattle.core_machine.specs.Words.{is_cell}
use Rattle.dlg_core.proofs.Truths.{or_later}
use Rattle.heap_rule.specs.declared.known.Known.{Known}
use Rattle.heap_rule.specs.declared.known.Known.TheVariants as knows
use Rattle.heap_rule.specs.Asks.{IsRaw, IsSealedValue, MayFill, MaySeal, known_of}
use Rattle.heap_rule.specs.Asks.{knows_sealed, raw_fields, target}
use Rattle.heap_rule.specs.Lore.{at_cell, five_nulls, known_at}
use Rattle.heap_rule.specs.Lore.{known_sealed, known_set, known_stored}
use Rattle.heap_rule.specs.Lore.{nothing_learned}
use Rattle.heap_rule.proofs.Many.{at_cell_many}
use Rattle.heap_rule.proofs.Reading.{cell_there}
use Rattle.mutator_events.specs.declared.values.Value.TheVariants as values
use Rattle.mutator_events.specs.Values.{field_at}
use Rattle.mutator_seat.specs.Bound.{Bound, held_cells, takes, takes_with}
use Rattle.mutator_seat.proofs.Writes.{cell_same, many_same, rightly}
use Rattle.trails.specs.Asks.{nothing}
use Rattle.version_rule.specs.Pass.{Pass}
use Rattle.heap_rule.specs.Settled.{NamesSettled}
use Rattle.held_places.specs.Calls.{Goes, known_fresh, settled}
use Rattle.version_store.specs.Calls.{StillKnown}
use Rattle.version_store.specs.Makes.{IsSpared, Makes, MayMake}
use Rattle.held_places.proofs.Going.{goes_none, goes_then, goes_told, many_cells, still_same}
use Rattle.held_places.proofs.Going.{settled_lasts, still_on}
use Rattle.held_places.proofs.Storing.{named_not, settled_is, settled_sealed}
use Rattle.held_places.proofs.Storing.{stored_many}
use Rattle.held_places.proofs.Storing.{stored_still}
use Rattle.held_places.proofs.Knowns.{changed_else, changed_here}
use Rattle.held_places.proofs.Knowns.{sealed_at}
use Rattle.version_rule.specs.Versions.{is_fixed}

-- The cell as far as it is filled.
pub record Filling (old m : Bound Pass) (fresh latest tree : ℕ) (fields : List Field)
    : Type 0 where
  pub goes : Goes [] old m
  pub held : held_cells m ≡ held_cells old
  pub many : length m.seat.me.known ≡ length m.seat.me.own.held
  pub raw : known_of m.seat.me fresh ≡ knows.Raw fields
  pub known : (place : ℕ) → place < fresh → IsSpared old fresh latest tree place
      → StillKnown (known_of old.seat.me place) (known_of m.seat.me place)
  pub pass : m.seat.me.pass ≡ old.seat.me.pass
  pub claims : m.seat.me.own.claims ≡ old.seat.me.own.claims

pub filling_starts : (m : Bound Pass) (fresh latest tree : ℕ) → MayMake m fresh latest tree
    → Filling m m fresh latest tree five_nulls
filling_starts m fresh latest tree may = record {
  goes = goes_none m;
  held = refl;
  many = may.many;
  raw = may.raw;
  known = λ place lt is. still_same is_fixed (known_of m.seat.me place);
  pass = refl;
  claims = refl;
}

module _ (old a b : Bound Pass) (fresh latest tree f : ℕ) (fields : List Field) (value : Field)
    (filled : Filling old a fresh latest tree fields)
    (there : fresh < length old.seat.me.own.held)
    (other : (c : ℕ) → value ≡ field.Cell c → target old.seat.me fresh ≢ c)
    (names : (c : ℕ) → value ≡ field.Cell c
    → (c ≡ target old.seat.me latest) ⊎ (c ≡ target old.seat.me tree))
    (told : b ≡ takes_with a (event.Fill a.seat.me.number fresh f value) finds.Stored
    a.seat.me.pass) where
  abbrev cells : List ℕ
  cells = held_cells a

  abbrev known : List Known
  known = a.seat.me.known

  many_now : length known ≡ length cells
  many_now = filled.many ∙ sym (many_cells a)

  cells_many : length cells ≡ length old.seat.me.own.held
  cells_many = ap (λ (cs : List ℕ). length cs) filled.held ∙ many_cells old

  within : fresh < length cells
  within = subst (λ (n : ℕ). fresh < n) (sym cells_many) there

  cell_at_is : (place : ℕ) → get_or cells place 0 ≡ target old.seat.me place
  cell_at_is place = ap (λ (cs : List ℕ). get_or cs place 0) filled.held
      ∙ cell_there old.seat.me.own.held place

  cell_is : get_or cells fresh 0 ≡ target old.seat.me fresh
  cell_is = cell_at_is fresh

  -- a fresh cell is not the one that the value names
  unnamed : (place : ℕ) → IsSpared old fresh latest tree place
      → known_fresh (known_of old.seat.me place) ≡ true → (c : ℕ) → value ≡ field.Cell c
      → get_or cells place 0 ≢ c
  unnamed place spared is c named same = by_name (names c named)
    where
      by_name : (c ≡ target old.seat.me latest) ⊎ (c ≡ target old.seat.me tree) → ⊥
      by_name (inl first) = spared.not_latest is (sym (cell_at_is place) ∙ same ∙ first)
      by_name (inr second) = spared.not_tree is (sym (cell_at_is place) ∙ same ∙ second)

  stored_known : (place : ℕ)
      → known_of b.seat.me place ≡ known_at (known_stored cells known fresh f value) place
  stored_known place = ap (λ (m : Bound Pass). known_of m.seat.me place) told

  set_known : List Known
  set_known = at_cell (known_set f value) (get_or cells fresh 0) cells known

  pub filling_on : Filling old b fresh latest tree (slice_set fields f value)
  filling_on = record {
    goes = goes_then filled.goes (goes_told a b []
        (event.Fill a.seat.me.number fresh f value) finds.Stored nothing_learned a.seat.me.pass
        (ap (λ (m : Bound Pass). m.heap) told) (ap (λ (m : Bound Pass). m.seat.table) told)
        (ap (λ (m : Bound Pass). m.seat.me) told) refl nothing);
    held = ap (λ (m : Bound Pass). held_cells m) told ∙ filled.held;
    many = ap (λ (m : Bound Pass). length m.seat.me.known) told
        ∙ stored_many cells known fresh f value many_now ∙ filled.many
        ∙ sym (ap (λ (m : Bound Pass). length m.seat.me.own.held) told);
    raw =
        let change = known_set f value in
        let c = get_or cells fresh 0 in
        stored_known fresh
        ∙ named_not cells (at_cell change c cells known)
        (at_cell_many change c cells known many_now ∙ many_now) value fresh within
        (λ d is same. other d is (sym cell_is ∙ same))
        ∙ changed_here change c cells known fresh within many_now refl
        ∙ ap change filled.raw;
    known = λ place lt spared.
        still_on is_fixed (known_of old.seat.me place) (known_of a.seat.me place)
        (known_of b.seat.me place)
        (filled.known place lt spared)
        (λ same. subst (λ (k : Known). StillKnown (known_of a.seat.me place) k)
        (sym (stored_known place))
        (stored_still is_fixed cells known fresh f value many_now place (omega (arith, lt, within))
        (λ is here. spared.not_claimed (sym (cell_at_is place) ∙ here ∙ cell_is))
        (λ is. unnamed place spared (sym same ∙ is))));
    pass = ap (λ (m : Bound Pass). m.seat.me.pass) told ∙ filled.pass;
    claims = ap (λ (m : Bound Pass). m.seat.me.own.claims) told ∙ filled.claims;
  }

-- What the calls need.

module _ (old a : Bound Pass) (fresh latest tree : ℕ) (fields : List Field)
    (filled : Filling old a fresh latest tree fields)
    (there : fresh < length old.seat.me.own.held)
    (inside : old.seat.me.presence.inside ≡ true) where
  long : length a.seat.me.own.held ≡ length old.seat.me.own.held
  long = many_same a.seat.me.own.held old.seat.me.own.held filled.held

  there_now : fresh < length a.seat.me.own.held
  there_now = subst (λ (n : ℕ). fresh < n) (sym long) there

  raw_now : IsRaw (known_of a.seat.me fresh)
  raw_now = subst IsRaw (sym filled.raw) tt

  pub may_fill : (f : ℕ) (value : Field) → f ≤ 4 → names_rightly a.seat.me.own.held value ≡ true
      → IsSealedValue (held_cells a) a.seat.me.known value
      → is_cell (slice_index_or fields f field.Null) ≡ false → MayFill a.seat.me fresh f value
  may_fill f value payload names sealed clear = record {
    inside = filled.goes.inside ∙ inside;
    there = there_now;
    raw = raw_now;
    payload = payload;
    names = names;
    sealed = sealed;
    clear = ap (λ (k : Known). is_cell (slice_index_or (raw_fields k) f field.Null)) filled.raw
        ∙ clear;
  }

  pub may_seal : MaySeal a.seat.me fresh kind.Boxed
  may_seal = record {
    inside = filled.goes.inside ∙ inside;
    there = there_now;
    raw = raw_now;
    terms = tt;
  }

  -- a settled cell at a place before it
  module _ (place : ℕ) (before : place < fresh)
      (is : settled (known_of old.seat.me place) ≡ true)
      (spared : IsSpared old fresh latest tree place) where
    place_there : place < length a.seat.me.own.held
    place_there = omega (arith, before, there_now)

    now : settled (known_of a.seat.me place) ≡ true
    now = settled_lasts is_fixed (known_of old.seat.me place) (known_of a.seat.me place) is
        (filled.known place before spared)

    pub value_is : field_at a.seat.me.own.held (values.Held place)
        ≡ field.Cell (target old.seat.me place)
    value_is = ap (λ (c : ℕ). field.Cell c)
        (cell_same a.seat.me.own.held old.seat.me.own.held filled.held place)

    pub names_place : names_rightly a.seat.me.own.held
        (field_at a.seat.me.own.held (values.Held place)) ≡ true
    names_place = rightly a.seat.me.own.held (values.Held place) place_there

    pub sealed_place : IsSealedValue (held_cells a) a.seat.me.known
        (field_at a.seat.me.own.held (values.Held place))
    sealed_place =
        let c = target a.seat.me place in
        or_later (c == 0) (knows_sealed (held_cells a) a.seat.me.known c)
        (sealed_at (held_cells a) a.seat.me.known place c
        (subst (λ (n : ℕ). place < n) (sym (many_cells a)) place_there)
        (cell_there a.seat.me.own.held place)
        (settled_sealed (known_of a.seat.me place) now))

    pub settled_place : NamesSettled a.seat.me
        (field_at a.seat.me.own.held (values.Held place))
    settled_place = (place, (place_there, (refl, settled_is (known_of a.seat.me place) now)))

-- The seal.

pub makes : (old a b : Bound Pass) (fresh number latest tree : ℕ)
    → Filling old a fresh latest tree (field.Num number ∷ field.Cell (target old.seat.me tree) ∷
    field.Cell (target old.seat.me latest) ∷ field.Null ∷ field.Null ∷ [])
    → fresh < length old.seat.me.own.held
    → b ≡ takes a (event.Seal a.seat.me.number fresh kind.Boxed) finds.Stored
    → Makes old b fresh number latest tree
makes old a b fresh number latest tree filled there told =
    let cells = held_cells a in
    let known = a.seat.me.known in
    let c = get_or cells fresh 0 in
    let change = known_sealed cells known kind.Boxed in
    let many_now : length known ≡ length cells = filled.many ∙ sym (many_cells a) in
    let cells_many = ap (λ (cs : List ℕ). length cs) filled.held ∙ many_cells old in
    let within : fresh < length cells = subst (λ (n : ℕ). fresh < n) (sym cells_many) there in
    let at : (place : ℕ) → get_or cells place 0 ≡ target old.seat.me place =
    (λ place. ap (λ (cs : List ℕ). get_or cs place 0) filled.held
    ∙ cell_there old.seat.me.own.held place) in
    record {
      goes = goes_then filled.goes (goes_told a b []
          (event.Seal a.seat.me.number fresh kind.Boxed) finds.Stored nothing_learned
          a.seat.me.pass (ap (λ (m : Bound Pass). m.heap) told)
          (ap (λ (m : Bound Pass). m.seat.table) told) (ap (λ (m : Bound Pass). m.seat.me) told)
          refl nothing);
      held = ap (λ (m : Bound Pass). held_cells m) told ∙ filled.held;
      many = ap (λ (m : Bound Pass). length m.seat.me.known) told
          ∙ at_cell_many change c cells known many_now ∙ filled.many
          ∙ sym (ap (λ (m : Bound Pass). length m.seat.me.own.held) told);
      box = ap (λ (m : Bound Pass). known_of m.seat.me fresh) told
          ∙ changed_here change c cells known fresh within many_now refl
          ∙ ap change filled.raw;
      known = λ place lt spared.
          subst (λ (k : Known). StillKnown (known_of old.seat.me place) k)
          (sym (ap (λ (m : Bound Pass). known_of m.seat.me place) told
          ∙ changed_else change c cells known place (omega (arith, lt, within))
          (λ same. spared.not_claimed (sym (at place) ∙ same ∙ at fresh))))
          (filled.known place lt spared);
      pass = ap (λ (m : Bound Pass). m.seat.me.pass) told ∙ filled.pass;
      claims = ap (λ (m : Bound Pass). m.seat.me.own.claims) told ∙ filled.claims;
    }

-- The three fields, one after the other.

-- a settled cell is spared, if it is another than the claimed one
pub spared_settled : (m : Bound Pass) (fresh latest tree place : ℕ)
    → target m.seat.me place ≢ target m.seat.me fresh
    → settled (known_of m.seat.me place) ≡ true → IsSpared m fresh latest tree place
spared_settled m fresh latest tree place apart is = record {
  not_claimed = apart;
  not_latest = λ fresh. absurd (not_both (known_of m.seat.me place) fresh is);
  not_tree = λ fresh. absurd (not_both (known_of m.seat.me place) fresh is);
}
  where
    not_both : (k : Known) → known_fresh k ≡ true → settled k ≡ true → ⊥
    not_both knows.Nothing fresh is = absurd cc
    not_both (knows.Raw fields) fresh is = absurd cc
    not_both (knows.Fresh fields) fresh is = absurd cc
    not_both (knows.Record t) fresh is = absurd cc
    not_both (knows.Boxed told) fresh is = absurd cc

module _ (m a b : Bound Pass) (fresh latest tree number : ℕ)
    (may : MayMake m fresh latest tree) where
  pub filled_number : b ≡ takes_with m (event.Fill m.seat.me.number fresh 0 (field.Num number))
      finds.Stored m.seat.me.pass
      → Filling m b fresh latest tree (field.Num number ∷ field.Null ∷ field.Null ∷ field.Null ∷
      field.Null ∷ [])
  filled_number told = filling_on m m b fresh latest tree 0 five_nulls (field.Num number)
      (filling_starts m fresh latest tree may) may.there (λ c is. absurd cc) (λ c is. absurd cc)
      told

  -- a field with the cell at a place
  filled_place : (f place : ℕ) (fields : List Field) → Filling m a fresh latest tree fields
      → place < fresh → settled (known_of m.seat.me place) ≡ true
      → target m.seat.me place ≢ target m.seat.me fresh
      → (target m.seat.me place ≡ target m.seat.me latest)
      ⊎ (target m.seat.me place ≡ target m.seat.me tree)
      → b ≡ takes_with a (event.Fill a.seat.me.number fresh f
      (field_at a.seat.me.own.held (values.Held place))) finds.Stored a.seat.me.pass
      → Filling m b fresh latest tree (slice_set fields f (field.Cell (target m.seat.me place)))
  filled_place f place fields filled before is apart one told =
      let value = value_is m a fresh latest tree fields filled may.there may.inside place before is
      (spared_settled m fresh latest tree place apart is) in
      filling_on m a b fresh latest tree f fields (field.Cell (target m.seat.me place)) filled
      may.there
      (λ c same here. apart (let e : target m.seat.me place ≡ target m.seat.me fresh = cc in e))
      (λ c same. subst (λ (x : ℕ). (x ≡ target m.seat.me latest) ⊎ (x ≡ target m.seat.me tree))
      (let e : target m.seat.me place ≡ c = cc in e) one)
      (subst (λ (x : Field). b ≡ takes_with a (event.Fill a.seat.me.number fresh f x) finds.Stored
      a.seat.me.pass) value told)

  pub filled_tree : Filling m a fresh latest tree (field.Num number ∷ field.Null ∷ field.Null ∷
      field.Null ∷ field.Null ∷ [])
      → b ≡ takes_with a (event.Fill a.seat.me.number fresh 1
      (field_at a.seat.me.own.held (values.Held tree))) finds.Stored a.seat.me.pass
      → Filling m b fresh latest tree (field.Num number ∷ field.Cell (target m.seat.me tree) ∷
      field.Null ∷ field.Null ∷ field.Null ∷ [])
  filled_tree filled told = filled_place 1 tree (field.Num number ∷ field.Null ∷ field.Null ∷
      field.Null ∷ field.Null ∷ []) filled may.tree_before may.tree_is may.tree_apart (inr refl)
      told

  pub filled_link : Filling m a fresh latest tree (field.Num number ∷
      field.Cell (target m.seat.me tree) ∷ field.Null ∷ field.Null ∷ field.Null ∷ [])
      → b ≡ takes_with a (event.Fill a.seat.me.number fresh 2
      (field_at a.seat.me.own.held (values.Held latest))) finds.Stored a.seat.me.pass
      → Filling m b fresh latest tree (field.Num number ∷ field.Cell (target m.seat.me tree) ∷
      field.Cell (target m.seat.me latest) ∷ field.Null ∷ field.Null ∷ [])
  filled_link filled told = filled_place 2 latest (field.Num number ∷
      field.Cell (target m.seat.me tree) ∷ field.Null ∷ field.Null ∷ field.Null ∷ []) filled
      may.latest_before may.latest_is may.latest_apart (inl refl) told
