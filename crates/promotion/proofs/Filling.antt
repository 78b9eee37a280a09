-- A raw cell from its claim to its seal: what each event needs, and what it leaves.
use Rattle.std.proofs.Common.{◌≡◌, ◌&&◌, ◌<◌, ◌+◌, ◌^◌, ℕ, zero, suc, Bool, true, false, List}
use Rattle.std.proofs.Common.{[], ◌∷◌, ◌++◌, length, refl, sym, ◌∙◌, ap, subst, arith, inl, inr, None}
use Rattle.std.proofs.Common.{Option, is_none, length-append, nat_lt, ⊎_elim, ◌⊎◌}
use Rattle.std.specs.Prelude.{slice_index_or, slice_set}
use Rattle.std.proofs.lemmas.Bool.{cases_eq}
use Rattle.std.proofs.lemmas.List.{get_or-set_same, get_or-set_other, length-set}
use Rattle.atomic_table.proofs.Lists.{set_again}
use Rattle.cell_words.specs.declared.colours.Colour.TheVariants as colour
use Rattle.cell_words.specs.declared.fields.Field.{Field}
use Rattle.cell_words.specs.declared.fields.Field.TheVariants as word
use Rattle.cell_words.specs.declared.fields.Kind.TheVariants as kind
use Rattle.cell_words.specs.Term.{five}
use Rattle.core_machine.specs.declared.events.Event.TheVariants as event
use Rattle.core_machine.specs.declared.events.Found.TheVariants as finds
use Rattle.core_machine.specs.Own.{Own}
use Rattle.core_machine.specs.Places.{names_rightly}
use Rattle.core_machine.specs.State.{State, field_of}
use Rattle.core_machine.specs.Words.{is_box_kind, is_cell}
use Rattle.dlg_core.specs.Reachable.{reach}
use Rattle.heap_rule.specs.Asks.{IsRaw, IsSealedValue, MayFill, MaySeal, known_of}
use Rattle.heap_rule.specs.Asks.{raw_fields}
use Rattle.heap_rule.specs.Boxes.{Map, boxes_of, payload_of, revealing, where_shown}
use Rattle.heap_rule.specs.Facts.{AllKnown, IsKnown, IsTermKnown, is_term}
use Rattle.heap_rule.specs.Lore.{Lore, at_cell, cells_in, cells_of, five_nulls, known_at}
use Rattle.heap_rule.specs.Lore.{known_sealed, known_stored, put, value_term}
use Rattle.heap_rule.specs.Steps.{Mine, Picks, same_pass}
use Rattle.heap_rule.specs.declared.known.Known.{Known}
use Rattle.heap_rule.specs.declared.known.Known.TheVariants as knows
use Rattle.heap_rule.specs.declared.view.View.{View}
use Rattle.heap_rule.proofs.Claiming.{put_other}
use Rattle.heap_rule.proofs.Lists.{all_at, has_at, has_holds}
use Rattle.mutator_events.specs.declared.values.Value.{Value}
use Rattle.mutator_events.specs.declared.values.Value.TheVariants as values
use Rattle.mutator_events.specs.Values.{field_among, field_at}
use Rattle.mutator_events.proofs.HeldCells.{cells_many, field_among_at}
use Rattle.mutator_seat.specs.Bound.{Bound, held_cells, takes}
use Rattle.mutator_seat.specs.Claims.{Claimed, Seeking}
use Rattle.promotion.specs.Copying.{AreFilled, Copied, IsReady, Opened}
use Rattle.promotion.specs.Copying.{term_at}
use Rattle.promotion.proofs.Knowing.{among_more, fill_known, last_known, record_of}
use Rattle.promotion.proofs.Knowing.{seal_known, term_stays, term_there, value_known, value_sealed}
use Rattle.promotion.proofs.Knowing.{value_term_is}
use Rattle.promotion.proofs.Stretching.{adds_anyhow, adds_calm, adds_event, any_then, stays_event, stays_kept}
use Rattle.promotion.proofs.Stretching.{stays_then}

module _ {P : Type 0} where
  -- a cell that was just claimed
  pub opened : (old m : Bound P) (place : ℕ) → Claimed old place m → Opened old place five_nulls m
  opened old m place got =
      let e = event.Claim got.at.seat.me.number got.cell in
      record {
        cell = got.cell;
        place_is = got.place_is ∙ sym (cells_many old.seat.me.own.held);
        is_new = got.is_new;
        held = got.held;
        known = got.known;
        claims = ap (λ (b : Bound P). b.seat.me.own.claims) got.told
            ∙ ap (λ (n : ℕ). n + 1) got.calm.kept.claims;
        stays = stays_then old got.at m (stays_kept old got.at got.calm.kept)
            (stays_event got.at m e (finds.Colour colour.Blue) got.told refl);
        adds = any_then old got.at m (adds_anyhow Seeking old got.at
            (adds_calm Seeking old got.at got.calm))
            (adds_event got.at m e (finds.Colour colour.Blue) got.told);
      }

all_fit : (K : ℕ → Known → Type 0) (cells : List ℕ) (known : List Known) → AllKnown K cells known
    → length cells ≡ length known
all_fit K [] [] all = refl
all_fit K [] (k ∷ known) all = absurd all
all_fit K (c ∷ cells) [] all = absurd all
all_fit K (c ∷ cells) (k ∷ known) all = ap suc (all_fit K cells known all.1)

-- The client's rule at a fill: a record is no box, and so no box becomes one that others know.

module _ (s : State) (l : Lore) (d : ℕ) (record_is : field_of s d 5 ≡ word.Num 1) where
  same_at : (x : ℕ) → boxes_of s (revealing l (word.Cell d)) x ≡ boxes_of s l x
  same_at x = elim (cases_eq x d) [
    | inl same ↦
        let no_box : is_box_kind (field_of s x 5) ≡ false =
        ap (λ (y : ℕ). is_box_kind (field_of s y 5)) same ∙ ap is_box_kind record_is in
        ap (λ (b : Bool). where_shown (reach s x && (b && is_none (put l.fresh d None x)))
        (payload_of s l x)) no_box
        ∙ sym (ap (λ (b : Bool). where_shown (reach s x && (b && is_none (l.fresh x)))
        (payload_of s l x)) no_box)
    | inr other ↦ ap (λ (o : Option ℕ). where_shown
        (reach s x && (is_box_kind (field_of s x 5) && is_none o)) (payload_of s l x))
        (put_other l.fresh d None x other)
  ]

  pub reveals_nothing : boxes_of s (revealing l (word.Cell d)) ≡ boxes_of s l
  reveals_nothing = λ i x. same_at x i

module _ {P : Type 0} {fixed : ℕ → Bool} (v : View P) (s : State) (l : Lore)
    (mine : Mine fixed v s l) where
  pub known_now : AllKnown (IsKnown fixed s l v.number) (cells_in v.own.held) v.known
  known_now =
      subst (λ (o : Own). AllKnown (IsKnown fixed s l v.number) (cells_in o.held) v.known) mine.own
      (subst (λ (ks : List Known). AllKnown (IsKnown fixed s l v.number) (cells_of s v.number) ks)
      mine.known (mine.shown.facts.known_all v.number))

  ready_reveals : (value : Value) → IsReady v.known value
      → boxes_of s (revealing l (field_among (cells_in v.own.held) value)) ≡ boxes_of s l
  ready_reveals values.Null ready = refl
  ready_reveals (values.Num n) ready = refl
  ready_reveals (values.Held q) ready =
      let Now = IsKnown fixed s l v.number in
      let is = record_of (known_at v.known q) ready in
      let lt : q < length (cells_in v.own.held) =
      omega (arith, term_there v.known q ready, all_fit Now (cells_in v.own.held) v.known known_now) in
      let d = slice_index_or (cells_in v.own.held) q 0 in
      let now : Now d (knows.Record is.0) = subst (λ (k : Known). Now d k) is.1
      (all_at Now (cells_in v.own.held) v.known q lt known_now) in
      reveals_nothing s l d now.0

pub fill_rule : {P : Type 0} (holding : Map → List P → Type 0) (fixed : ℕ → Bool) (v : View P)
    (place f : ℕ) (value : Value) → IsReady v.known value
    → Picks holding fixed same_pass v (event.Fill v.number place f (field_at v.own.held value))
fill_rule holding fixed v place f value ready s l passes mine happens proper at kept =
    subst (λ (ps : List _).
    holding (boxes_of s (revealing l (field_at v.own.held value))) ps)
    (sym (set_again passes v.number v.pass at))
    (subst (λ (m : Map). holding m passes)
    (sym (ready_reveals v s l mine value ready)
    ∙ ap (λ (w : Field). boxes_of s (revealing l w))
    (field_among_at v.own.held (cells_in v.own.held) value refl)) kept)

up_to : (j i : ℕ) → j < i + 1 → (j < i) ⊎ (j ≡ i)
up_to j i lt = search (arith, lt)

null_at : (i : ℕ) → slice_index_or five_nulls i word.Null ≡ word.Null
null_at zero = refl
null_at (suc zero) = refl
null_at (suc (suc zero)) = refl
null_at (suc (suc (suc zero))) = refl
null_at (suc (suc (suc (suc zero)))) = refl
null_at (suc (suc (suc (suc (suc i))))) = refl

-- at first all are null
pub filled_none : (cells : List ℕ) (given : ℕ → Value) → AreFilled cells given 0 five_nulls
filled_none cells given = record {
  five = refl;
  done = λ i below. absurd (omega (arith, below));
  rest = λ i above under. null_at i;
}

ready_more : (known more : List Known) (value : Value) → IsReady known value
    → IsReady (known ++ more) value
ready_more known more values.Null ready = tt
ready_more known more (values.Num n) ready = ready
ready_more known more (values.Held q) ready =
    let is = record_of (known_at known q) ready in
    ap is_term (term_stays known more q is.0 is.1)

module _ {P : Type 0} (old m : Bound P) (place : ℕ) (fields : List Field)
    (so : Opened old place fields m) where
  abbrev among : Value → Field
  among value = field_among (held_cells old) value

  many_held : length m.seat.me.own.held ≡ length (held_cells old) + 1
  many_held =
      sym (cells_many m.seat.me.own.held) ∙ ap (λ (cs : List ℕ). length cs) so.held
      ∙ length-append (held_cells old) (so.cell ∷ [])

  pub place_there : place < length m.seat.me.own.held
  place_there = omega (arith, so.place_is, many_held)

  known_raw : known_of m.seat.me place ≡ knows.Raw fields
  known_raw =
      ap (λ (ks : List Known). known_at ks place) so.known
      ∙ last_known (held_cells old) old.seat.me.known so.cell so.is_new place
      (knows.Raw fields) so.place_is

  -- a ready value as the field that it stands for
  pub word_of : (value : Value) → IsReady old.seat.me.known value
      → field_at m.seat.me.own.held value ≡ field_among (held_cells old) value
  word_of value ready =
      sym (field_among_at m.seat.me.own.held (held_cells m) value refl)
      ∙ ap (λ (cs : List ℕ). field_among cs value) so.held
      ∙ among_more (held_cells old) (so.cell ∷ []) old.seat.me.known value (sym so.is_new.fit) ready

  pub ready_now : (value : Value) → IsReady old.seat.me.known value → IsReady m.seat.me.known value
  ready_now value ready =
      subst (λ (ks : List Known). IsReady ks value) (sym so.known)
      (ready_more old.seat.me.known (knows.Raw fields ∷ []) value ready)

  rightly : (value : Value) → IsReady old.seat.me.known value
      → names_rightly m.seat.me.own.held (field_at m.seat.me.own.held value) ≡ true
  rightly values.Null ready = refl
  rightly (values.Num n) ready = below n ready
    where
      below : (k : ℕ) → k < 2 ^ 62 → nat_lt k (2 ^ 62) ≡ true
      below k lt = search (arith, lt)
  rightly (values.Held q) ready =
      let lt : q < length (held_cells m) =
      omega (
        arith,
        term_there old.seat.me.known q ready,
        so.is_new.fit,
        many_held,
        cells_many m.seat.me.own.held,
      ) in
      subst (λ (w : Field). names_rightly m.seat.me.own.held w ≡ true)
      (field_among_at m.seat.me.own.held (held_cells m) (values.Held q) refl)
      (sym (has_holds m.seat.me.own.held (slice_index_or (held_cells m) q 0))
      ∙ has_at (held_cells m) q lt)

  pub may_fill : (value : Value) (i : ℕ) (given : ℕ → Value)
      → m.seat.me.presence.inside ≡ true → i < 5
      → IsReady old.seat.me.known value → AreFilled (held_cells old) given i fields
      → MayFill m.seat.me place i (field_at m.seat.me.own.held value)
  may_fill value i given inside lt ready filled = record {
    inside = inside;
    there = place_there;
    raw = subst (λ (k : Known). IsRaw k) (sym known_raw) tt;
    payload = omega (arith, lt);
    names = rightly value ready;
    sealed = subst (λ (w : Field). IsSealedValue (held_cells m) m.seat.me.known w)
        (sym (word_of value ready))
        (subst (λ (cs : List ℕ). IsSealedValue cs m.seat.me.known (among value)) (sym so.held)
        (subst (λ (ks : List Known). IsSealedValue (held_cells old ++ so.cell ∷ []) ks
        (among value)) (sym so.known)
        (value_sealed (held_cells old) old.seat.me.known so.cell so.is_new (knows.Raw fields)
        value ready)));
    clear = ap (λ (k : Known). is_cell (slice_index_or (raw_fields k) i word.Null)) known_raw
        ∙ ap is_cell (filled.rest i (omega arith) lt);
  }

  -- one more field is filled
  pub filled_more : (given : ℕ → Value) (i : ℕ) (m' : Bound P) → i < 5
      → IsReady old.seat.me.known (given i) → AreFilled (held_cells old) given i fields
      → m' ≡ takes m (event.Fill m.seat.me.number place i (field_at m.seat.me.own.held (given i)))
      finds.Stored
      → (after : List Field) × (Opened old place after m' × AreFilled (held_cells old) given (i + 1) after)
  filled_more given i m' lt ready filled told =
      let w = field_among (held_cells old) (given i) in
      let e = event.Fill m.seat.me.number place i (field_at m.seat.me.own.held (given i)) in (
        slice_set fields i w,
        (
          record {
            cell = so.cell;
            place_is = so.place_is;
            is_new = so.is_new;
            held = ap (λ (b : Bound P). held_cells b) told ∙ so.held;
            known = ap (λ (b : Bound P). b.seat.me.known) told
                ∙ ap (λ (x : Field). known_stored (held_cells m) m.seat.me.known place i x)
                (word_of (given i) ready)
                ∙ ap (λ (cs : List ℕ). known_stored cs m.seat.me.known place i w) so.held
                ∙ ap (λ (ks : List Known). known_stored (held_cells old ++ so.cell ∷ []) ks place i w)
                so.known
                ∙ fill_known (held_cells old) old.seat.me.known so.cell so.is_new fields place i
                (given i) so.place_is ready;
            claims = ap (λ (b : Bound P). b.seat.me.own.claims) told ∙ so.claims;
            stays = stays_then old m m' so.stays (stays_event m m' e finds.Stored told refl);
            adds = any_then old m m' so.adds (adds_event m m' e finds.Stored told);
          },
          record {
            five = length-set fields i w ∙ filled.five;
            done = λ j below. ⊎_elim
                (λ (less : j < i). get_or-set_other fields i j w word.Null (omega (arith, less))
                ∙ filled.done j less)
                (λ (same : j ≡ i). subst (λ (k : ℕ). slice_index_or (slice_set fields i w) k word.Null
                ≡ field_among (held_cells old) (given k)) (sym same)
                (get_or-set_same fields i w word.Null (omega (arith, lt, filled.five))))
                (up_to j i below);
            rest = λ j above under. get_or-set_other fields i j w word.Null (omega (arith, above))
                ∙ filled.rest j (omega (arith, above)) under;
          },
        ),
      )

  -- a field that gets null is null already
  pub filled_null : (given : ℕ → Value) (i : ℕ) → i < 5 → given i ≡ values.Null
      → AreFilled (held_cells old) given i fields → AreFilled (held_cells old) given (i + 1) fields
  filled_null given i lt none filled = record {
    five = filled.five;
    done = λ j below. ⊎_elim (filled.done j)
        (λ (same : j ≡ i). subst (λ (k : ℕ). slice_index_or fields k word.Null
        ≡ field_among (held_cells old) (given k)) (sym same)
        (filled.rest i (omega arith) lt
        ∙ ap (λ (v : Value). field_among (held_cells old) v) (sym none)))
        (up_to j i below);
    rest = λ j above under. filled.rest j (omega (arith, above)) under;
  }

  -- What the seal needs, where all five are filled, and what it leaves.

  field_is : (given : ℕ → Value) → AreFilled (held_cells old) given 5 fields
      → ((i : ℕ) → i < 5 → IsReady old.seat.me.known (given i)) → (i : ℕ) → i < 5
      → IsTermKnown (held_cells old ++ so.cell ∷ [])
      (old.seat.me.known ++ knows.Raw fields ∷ []) (slice_index_or fields i word.Null)
  field_is given filled ready i lt =
      subst (λ (w : Field). IsTermKnown (held_cells old ++ so.cell ∷ [])
      (old.seat.me.known ++ knows.Raw fields ∷ []) w) (sym (filled.done i lt))
      (value_known (held_cells old) old.seat.me.known so.cell so.is_new (knows.Raw fields)
      (given i) (ready i lt))

  pub may_seal : (given : ℕ → Value) → m.seat.me.presence.inside ≡ true
      → AreFilled (held_cells old) given 5 fields
      → ((i : ℕ) → i < 5 → IsReady old.seat.me.known (given i))
      → MaySeal m.seat.me place kind.Record
  may_seal given inside filled ready = record {
    inside = inside;
    there = place_there;
    raw = subst (λ (k : Known). IsRaw k) (sym known_raw) tt;
    terms = λ i lt. subst (λ (k : Known). IsTermKnown (held_cells m) m.seat.me.known
        (slice_index_or (raw_fields k) i word.Null)) (sym known_raw)
        (subst (λ (cs : List ℕ). IsTermKnown cs m.seat.me.known
        (slice_index_or fields i word.Null)) (sym so.held)
        (subst (λ (ks : List Known). IsTermKnown (held_cells old ++ so.cell ∷ []) ks
        (slice_index_or fields i word.Null)) (sym so.known) (field_is given filled ready i lt)));
  }

  term_is : (given : ℕ → Value) → AreFilled (held_cells old) given 5 fields
      → ((i : ℕ) → i < 5 → IsReady old.seat.me.known (given i)) → (i : ℕ) → i < 5
      → value_term (held_cells old ++ so.cell ∷ [])
      (old.seat.me.known ++ knows.Raw fields ∷ []) (slice_index_or fields i word.Null)
      ≡ term_at old.seat.me.known (given i)
  term_is given filled ready i lt =
      ap (λ (w : Field). value_term (held_cells old ++ so.cell ∷ [])
      (old.seat.me.known ++ knows.Raw fields ∷ []) w) (filled.done i lt)
      ∙ value_term_is (held_cells old) old.seat.me.known so.cell so.is_new (knows.Raw fields)
      (given i) (ready i lt)

  pub sealed_as : (given : ℕ → Value) (m' : Bound P)
      → AreFilled (held_cells old) given 5 fields
      → ((i : ℕ) → i < 5 → IsReady old.seat.me.known (given i))
      → m' ≡ takes m (event.Seal m.seat.me.number place kind.Record) finds.Stored
      → Copied old place (five (term_at old.seat.me.known (given 0))
      (term_at old.seat.me.known (given 1)) (term_at old.seat.me.known (given 2))
      (term_at old.seat.me.known (given 3)) (term_at old.seat.me.known (given 4))) m'
  sealed_as given m' filled ready told =
      let e = event.Seal m.seat.me.number place kind.Record in
      let term : (i : ℕ) → i < 5 → _ = term_is given filled ready in
      record {
        cell = so.cell;
        place_is = so.place_is;
        fit = sym so.is_new.fit;
        held = ap (λ (b : Bound P). held_cells b) told ∙ so.held;
        known = ap (λ (b : Bound P). b.seat.me.known) told
            ∙ ap (λ (cs : List ℕ). at_cell (known_sealed cs m.seat.me.known kind.Record)
            (slice_index_or cs place 0) cs m.seat.me.known) so.held
            ∙ ap (λ (ks : List Known). at_cell
            (known_sealed (held_cells old ++ so.cell ∷ []) ks kind.Record)
            (slice_index_or (held_cells old ++ so.cell ∷ []) place 0)
            (held_cells old ++ so.cell ∷ []) ks) so.known
            ∙ seal_known (held_cells old) old.seat.me.known so.cell so.is_new fields place
            so.place_is
            ∙ (λ t. old.seat.me.known ++ knows.Record (five (term 0 (omega arith) t)
            (term 1 (omega arith) t) (term 2 (omega arith) t) (term 3 (omega arith) t)
            (term 4 (omega arith) t)) ∷ []);
        claims = ap (λ (b : Bound P). b.seat.me.own.claims) told ∙ so.claims;
        stays = stays_then old m m' so.stays (stays_event m m' e finds.Stored told refl);
        adds = any_then old m m' so.adds (adds_event m m' e finds.Stored told);
      }
