-- A box that was made of values that fit: it is held after all else, and may be shown.
use Rattle.std.proofs.Common.{◌≡◌, ◌<◌, ◌≤◌, ◌+◌, ◌∷◌, ℕ, zero, suc, List, [], true, false, length}
use Rattle.std.proofs.Common.{Bool, if◌then◌else◌, take, slice_index_or, slice_set, inl, inr, refl}
use Rattle.std.proofs.Common.{sym, ◌∙◌, ap, subst, arith}
use Rattle.std.proofs.lemmas.Bool.{cases_lt, lt-ltb}
use Rattle.cell_words.specs.Term.{Term}
use Rattle.cell_words.specs.declared.fields.Field.{Field}
use Rattle.cell_words.specs.declared.fields.Field.TheVariants as field
use Rattle.cell_words.specs.declared.fields.Kind.TheVariants as kind
use Rattle.cell_making.specs.Makes.{Filled, MakesBox, MayFillAll, MayName, five_fields, value_at}
use Rattle.cell_making.proofs.Claiming.{fills_all}
use Rattle.cell_making.proofs.Sealing.{makes_box, may_seal}
use Rattle.core_machine.specs.declared.events.Event.TheVariants as event
use Rattle.core_machine.specs.declared.events.Found.TheVariants as finds
use Rattle.core_machine.specs.declared.places.Held.{Held}
use Rattle.heap_rule.specs.Asks.{MaySeal, known_of, target}
use Rattle.heap_rule.specs.Lore.{five_nulls, nothing_learned}
use Rattle.heap_rule.specs.NoRule.{no_field_is_fixed}
use Rattle.heap_rule.specs.declared.known.Known.{Known}
use Rattle.heap_rule.specs.declared.known.Known.TheVariants as knows
use Rattle.held_places.specs.Calls.{StillKnown}
use Rattle.held_places.proofs.Claiming.{claimed_fits, claimed_goes, claimed_known, claimed_longer}
use Rattle.held_places.proofs.Claiming.{claimed_many, claimed_raw, claimed_same}
use Rattle.held_places.proofs.Going.{goes_then, goes_told, many_held, still_same, target_still}
use Rattle.mutator_events.specs.declared.values.Value.{Value}
use Rattle.mutator_events.specs.declared.values.Value.TheVariants as values
use Rattle.mutator_events.specs.Values.{field_at}
use Rattle.mutator_seat.specs.Bound.{Bound, held_cells, takes}
use Rattle.mutator_seat.specs.Claims.{Claimed}
use Rattle.trails.specs.Asks.{nothing}
use Rattle.record_copying.specs.Copies.{StillRecords}
use Rattle.sorted_rule.specs.Open.{KnownOfSort, MayShow, MayStand}
use Rattle.sorted_rule.specs.Sorts.{Boxes, Records, Sort, sort_of}
use Rattle.sorted_rule.specs.declared.sorting.Sorting.{Sorting}
use Rattle.sorted_boxes.specs.Calls.{Drops, KeepsRecords, Sealed}
use Rattle.sorted_boxes.specs.Holding.{HoldsAs, HoldsNew, HoldsRaw, IsAs}
use Rattle.sorted_boxes.specs.Sorts.{AreFit, AreValues, IsValue, Serves, SortList, is_fit}
use Rattle.sorted_boxes.specs.Sorts.{same_sort, sort_in}
use Rattle.sorted_boxes.proofs.AfterWrites.{settled_not_fresh}
use Rattle.sorted_boxes.proofs.Carrying.{StillSettled, as_lasts, known_there, record_still}
use Rattle.sorted_boxes.proofs.Carrying.{sort_settled, still_records}
use Rattle.sorted_boxes.proofs.Giving.{as_known, held_known}
use Rattle.sorted_boxes.proofs.Holding.{serves_on, sort_below}
use Rattle.sorted_boxes.proofs.SortLists.{held_fits, set_same, set_serves, with_set}

-- A claim keeps what is known.
pub claimed_records : (a b : Bound Sorting) (place : ℕ) → Claimed a place b
    → StillRecords a.seat.me.known b.seat.me.known
claimed_records a b place got =
    still_records a b (λ p lt is_settled. claimed_known a b place got no_field_is_fixed p lt)
    (claimed_many a b place got)

-- a record is held before the raw cell
record_before : (a b : Bound Sorting) (place : ℕ) → Claimed a place b → (p : ℕ) (t : Term)
    → known_of b.seat.me p ≡ knows.Record t → p < place
record_before a b place got p t is = elim (cases_lt p place) [
  | inl lt ↦ lt
  | inr behind ↦ absurd (not_raw (
      let lt = known_there b.seat.me.known p t is in
      let many = claimed_fits a b place got in
      let longer = claimed_longer a b place got in
      let placed = got.place_is in
      omega (arith, lt, many, longer, placed, behind)))
]
  where
    not_raw : p ≡ place → ⊥
    not_raw same =
        let both : knows.Raw five_nulls ≡ knows.Record t =
        sym (claimed_raw a b place got) ∙ ap (λ (q : ℕ). known_of b.seat.me q) (sym same) ∙ is in
        absurd cc

five_at : (held : List Held) (given : List Value) (i : ℕ) → i < 5
    → slice_index_or (five_fields held given) i field.Null ≡ field_at held (value_at given i)
five_at held given zero lt = refl
five_at held given (suc zero) lt = refl
five_at held given (suc (suc zero)) lt = refl
five_at held given (suc (suc (suc zero))) lt = refl
five_at held given (suc (suc (suc (suc zero)))) lt = refl
five_at held given (suc (suc (suc (suc (suc i))))) lt = absurd (omega (arith, lt))

module _ (sorts : SortList) (a : Bound Sorting) (given : List Value) (at : HoldsAs sorts a.seat.me)
    (values_are : AreValues (length a.seat.me.own.held) given) (fit : AreFit sorts given) where
  name_by : (value : Value) → IsValue (length a.seat.me.own.held) value
      → MayName a.seat.me (length a.seat.me.own.held) value
  name_by values.Null is = tt
  name_by (values.Num n) is = is
  name_by (values.Held place) is = (
    is.1,
    sort_settled (sort_in sorts place) (known_of a.seat.me place)
        (held_known sorts a at place is.0 is.1),
  )

  pub new_names : (i : ℕ) → i < 5
      → MayName a.seat.me (length a.seat.me.own.held) (value_at given i)
  new_names i lt = name_by (value_at given i) (values_are i lt)

  module _ (fresh : ℕ) (b : Bound Sorting) (makes : MakesBox a fresh given b) where
    longer : length b.seat.me.own.held ≡ length a.seat.me.own.held + 1
    longer = many_held a b (makes.cell ∷ []) makes.held

    cell_on : (place : ℕ) → place < length a.seat.me.own.held
        → target b.seat.me place ≡ target a.seat.me place
    cell_on place lt = target_still a b (makes.cell ∷ []) makes.held place lt

    pub new_still : StillSettled a b
    new_still place lt is =
        subst (λ (k : Known). StillKnown no_field_is_fixed (known_of a.seat.me place) k)
        (sym (makes.known place lt
        (λ fresh. absurd (settled_not_fresh (known_of a.seat.me place) is fresh))))
        (still_same no_field_is_fixed (known_of a.seat.me place))

    as_still : (place : ℕ) → place < length a.seat.me.own.held
        → IsAs b.seat.me place (sort_in sorts place)
    as_still place lt =
        as_lasts a.seat.me b.seat.me place (sort_in sorts place) (cell_on place lt)
        (new_still place lt) (at.each place lt)

    serves : Serves sorts b.seat.me
    serves = serves_on sorts a.seat.me b.seat.me makes.goes.room makes.pass at.serves

    stand_by : (sort : Sort) (value : Value) → IsValue (length a.seat.me.own.held) value
        → is_fit sorts sort value ≡ true
        → MayStand b.seat.me sort (field_at a.seat.me.own.held value)
    stand_by sort values.Null is fits = tt
    stand_by sort (values.Num n) is fits = tt
    stand_by sort (values.Held place) is fits = (
      place,
      (
        (let more = longer in let lt = is.1 in omega (arith, more, lt)),
        (
          cell_on place is.1,
          subst (λ (s : Sort). KnownOfSort s (known_of b.seat.me place))
              (held_fits sorts sort place fits)
              (as_known b.seat.me place (sort_in sorts place) is.0 (as_still place is.1)),
        ),
      ),
    )

    new_may : MayShow b.seat.me fresh
    new_may = record {
      there = let more = longer in let placed = makes.place_is in omega (arith, more, placed);
      fields = five_fields a.seat.me.own.held given;
      known = makes.box;
      fits = λ i lt.
          subst (λ (value : Field). MayStand b.seat.me (sort_of b.seat.me.pass.boxes 1 i) value)
          (sym (five_at a.seat.me.own.held given i lt))
          (subst (λ (boxes : ℕ). MayStand b.seat.me (sort_of boxes 1 i)
          (field_at a.seat.me.own.held (value_at given i))) serves.boxes
          (stand_by (sort_of sorts.boxes 1 i) (value_at given i) (values_are i lt) (fit i lt)));
    }

    pub new_held : value_at given 0 ≡ values.Null → HoldsNew fresh sorts b.seat.me
    unfolding new_may
    new_held null = record {
      first = record {
        inside = makes.goes.inside ∙ at.inside;
        serves = serves;
        fit = let more = longer in let placed = makes.place_is in omega (arith, more, placed);
        each = λ place lt. as_still place
            (subst (λ (n : ℕ). place < n) makes.place_is lt);
      };
      some = subst (λ (n : ℕ). 1 ≤ n) (sym makes.place_is) at.some;
      last = longer ∙ ap (λ (n : ℕ). n + 1) (sym makes.place_is);
      may = new_may;
      null = ap (λ (value : Value). field_at a.seat.me.own.held value) null;
    }

-- Of the raw cell that was claimed.
module _ (b : Bound Sorting) (place : ℕ) (given : List Value) (sorts : SortList)
    (raw : HoldsRaw sorts b place) (values_are : AreValues place given) (fit : AreFit sorts given)
  where
    abbrev a : Bound Sorting
    a = raw.before

    raw_values : AreValues (length a.seat.me.own.held) given
    raw_values = subst (λ (n : ℕ). AreValues n given) raw.claimed.place_is values_are

    pub raw_names : (i : ℕ) → i < 5
        → MayName a.seat.me (length a.seat.me.own.held) (value_at given i)
    raw_names = new_names sorts a given raw.held raw_values fit

    pub raw_fills : MayFillAll b place given
    raw_fills = fills_all a b place raw.claimed given raw.held.inside raw_names

    module _ (m : Bound Sorting) (filled : Filled b place given 5 m) where
      pub raw_seals : MaySeal m.seat.me place kind.Boxed
      raw_seals = may_seal a b m place given raw.claimed raw.held.inside raw_names filled

      module _ (n : Bound Sorting)
          (told : n ≡ takes m (event.Seal m.seat.me.number place kind.Boxed) finds.Stored) where
        makes : MakesBox a place given n
        makes = makes_box a b m place given raw.claimed raw.held.inside raw_names filled n told

        pub raw_sealed : Sealed place given b n
        raw_sealed = record {
          before = a;
          sorts = sorts;
          all = raw.held;
          claimed = raw.claimed;
          makes = makes;
          goes = goes_then filled.goes (goes_told m n []
              (event.Seal m.seat.me.number place kind.Boxed) finds.Stored nothing_learned
              m.seat.me.pass (ap (λ (k : Bound Sorting). k.heap) told)
              (ap (λ (k : Bound Sorting). k.seat.table) told)
              (ap (λ (k : Bound Sorting). k.seat.me) told) refl nothing);
          held = ap (λ (k : Bound Sorting). held_cells k) told ∙ filled.held;
          room = ap (λ (k : Bound Sorting). k.seat.me.room) told ∙ filled.goes.room;
          pass = ap (λ (k : Bound Sorting). k.seat.me.pass) told ∙ filled.pass;
        }

        pub raw_new : value_at given 0 ≡ values.Null → HoldsNew place sorts n.seat.me
        raw_new = new_held sorts a given raw.held raw_values fit place n makes

        -- what was known before the raw cell is still known
        pub raw_records : StillRecords b.seat.me.known n.seat.me.known
        raw_records p t is =
            let lt = record_before a b place raw.claimed p t is in
            let there : p < length a.seat.me.own.held =
            subst (λ (k : ℕ). p < k) raw.claimed.place_is lt in
            record_still a n (new_still sorts a given raw.held raw_values fit place n makes) p t
            there
            (sym (claimed_same a b place raw.claimed p there) ∙ is)

pub sealed_drops : (b n : Bound Sorting) (place : ℕ) (given : List Value)
    → Sealed place given b n → (d : Bound Sorting) → Drops place n d → Drops place b d
sealed_drops b n place given sealed d drops = record {
  goes = goes_then sealed.goes drops.goes;
  held = drops.held ∙ ap (λ (cs : List ℕ). take place cs) sealed.held;
  pass = drops.pass ∙ sealed.pass;
}

-- the first field of each box names boxes, where one field does
pub first_boxes : (boxes cell : ℕ) → 1 ≤ boxes → sort_of boxes cell 0 ≡ Boxes
first_boxes boxes zero some = refl
first_boxes boxes (suc cell) some =
    ap (λ (b : Bool). if b then Boxes else Records) (lt-ltb 0 boxes some)

-- All values but the first.
pub others_null : (given : List Value) → value_at (slice_set given 0 values.Null) 0 ≡ values.Null
others_null [] = refl
others_null (x ∷ xs) = refl

pub others_values : (end : ℕ) (given : List Value) → AreValues end given
    → AreValues end (slice_set given 0 values.Null)
others_values end [] is i lt = is i lt
others_values end (x ∷ xs) is zero lt = tt
others_values end (x ∷ xs) is (suc i) lt = is (suc i) lt

pub others_fit : (sorts : SortList) (given : List Value) → AreFit sorts given
    → AreFit sorts (slice_set given 0 values.Null)
others_fit sorts [] fit i lt = fit i lt
others_fit sorts (x ∷ xs) fit zero lt = refl
others_fit sorts (x ∷ xs) fit (suc i) lt = fit (suc i) lt

-- All boxes but the anchor are sorted alike.
pub box_sorts : (sorts : SortList) (place : ℕ) (value : Value) → 1 ≤ place
    → is_fit sorts (sort_of sorts.boxes 1 0) value ≡ true
    → is_fit sorts (sort_of sorts.boxes place 0) value ≡ true
box_sorts sorts zero value some fits = absurd (omega (arith, some))
box_sorts sorts (suc place) value some fits = fits

-- and the first, once the places below the end are held
pub value_later : (end more : ℕ) (value : Value) → end ≤ more → IsValue end value
    → IsValue more value
value_later end more values.Null fewer is = tt
value_later end more (values.Num n) fewer is = is
value_later end more (values.Held place) fewer is =
    (is.0, (let lt = is.1 in omega (arith, lt, fewer)))

-- The list tells of a box at the place of the raw cell, and of the others what it told.
module _ (sorts : SortList) (place : ℕ) where
  abbrev with_box : SortList
  with_box = with_set sorts place false

  fit_one : (sort : Sort) (value : Value) → IsValue place value → is_fit sorts sort value ≡ true
      → is_fit with_box sort value ≡ true
  fit_one sort values.Null is fits = refl
  fit_one sort (values.Num n) is fits = refl
  fit_one sort (values.Held p) is fits =
      ap (λ (s : Sort). same_sort s sort)
      (sort_below sorts with_box place p (set_same sorts place false) is.1) ∙ fits

  pub fit_on : (given : List Value) → AreValues place given → AreFit sorts given
      → AreFit with_box given
  fit_on given is fit i lt =
      fit_one (sort_of sorts.boxes 1 i) (value_at given i) (is i lt) (fit i lt)

  module _ (m : Bound Sorting) (raw : HoldsRaw sorts m place) where
    some_place : 1 ≤ place
    some_place = subst (λ (n : ℕ). 1 ≤ n) (sym raw.claimed.place_is) raw.held.some

    pub raw_there : length m.seat.me.own.held ≤ m.seat.me.room → place < length sorts.records
    raw_there fit =
        let more = raw.held.serves.room in
        let longer = claimed_longer raw.before m place raw.claimed in
        let room = (claimed_goes raw.before m place raw.claimed).room in
        let placed = raw.claimed.place_is in
        omega (arith, fit, more, longer, room, placed)

    pub raw_on : HoldsRaw with_box m place
    raw_on = record {
      before = raw.before;
      held = record {
        inside = raw.held.inside;
        serves = set_serves sorts place false raw.before.seat.me some_place raw.held.serves;
        some = raw.held.some;
        each = λ p lt.
            subst (λ (sort : Sort). IsAs raw.before.seat.me p sort)
            (sym (sort_below sorts with_box place p (set_same sorts place false)
            (subst (λ (n : ℕ). p < n) (sym raw.claimed.place_is) lt))) (raw.held.each p lt);
      };
      claimed = raw.claimed;
    }

    -- The raw cell was no record: so what keeps the records before it keeps all.
    pub raw_records_then : (n named last : Bound Sorting)
        → StillRecords m.seat.me.known n.seat.me.known
        → StillRecords n.seat.me.known named.seat.me.known
        → KeepsRecords place named.seat.me.known last.seat.me.known
        → StillRecords m.seat.me.known last.seat.me.known
    raw_records_then n named last sealed shown put p t is =
        put p t (record_before raw.before m place raw.claimed p t is)
        (shown p t (sealed p t is))
