-- What a seat knows gives what its event owes: that it can happen, which word it is, and what its
-- operation leaves there.
use Rattle.std.proofs.Common.{◌≡◌, ◌<◌, ◌≤◌, ◌+◌, ◌==◌, ◌&&◌, ◌||◌, ℕ, Bool, true, false, not}
use Rattle.std.proofs.Common.{List, [], ◌∷◌, length}
use Rattle.std.proofs.Common.{Option, None, inl, inr, refl, sym, ◌∙◌, ap, subst, arith}
use Rattle.std.proofs.Common.{nat_lt, nat_le, is_some}
use Rattle.std.proofs.lemmas.Bool.{and_parts, and_from, or_cases, eqb-true, lt-ltb, le-leb}
use Rattle.cell_words.specs.Presence.{pack_presence_of}
use Rattle.cell_words.specs.declared.controls.Stage.TheVariants as stage
use Rattle.cell_words.specs.declared.colours.Colour.{Colour}
use Rattle.cell_words.specs.declared.colours.Colour.TheVariants as colour
use Rattle.core_machine.specs.declared.events.Event.{Event}
use Rattle.core_machine.specs.declared.events.Event.TheVariants as event
use Rattle.core_machine.specs.declared.progress.Sweeping.TheVariants as sweeping
use Rattle.core_machine.specs.Next.{can, found_by, maker}
use Rattle.core_machine.specs.State.{State, colour_of}
use Rattle.core_machine.specs.Table.{Word, index_of}
use Rattle.core_machine.specs.WordOperations.{IsPackedAs, Operation, left_by, operation_of, word_of}
use Rattle.core_machine.specs.Words.{is_gray}
use Rattle.core_machine.proofs.Conditions.{fresh_is, same_stage_is}
use Rattle.dlg_core.specs.Consistent.{IsConsistent}
use Rattle.dlg_core.proofs.Changes.Shade.{here_unswept}
use Rattle.cell_words.specs.declared.fields.Field.{Field}
use Rattle.cell_words.specs.declared.fields.Field.TheVariants as field
use Rattle.cell_words.specs.declared.fields.Kind.{Kind}
use Rattle.cell_words.specs.declared.fields.Kind.TheVariants as kind
use Rattle.cell_words.specs.declared.presences.Status.{Status}
use Rattle.core_machine.specs.declared.pending.Pending.{Pending}
use Rattle.core_machine.specs.declared.places.Held.{Held}
use Rattle.core_machine.specs.Mutation.{names_own}
use Rattle.core_machine.specs.Operations.{has_mode, has_pending, has_room, is_in, is_place}
use Rattle.core_machine.specs.Operations.{may_begin, own_lets_store}
use Rattle.core_machine.specs.Operations.{next_own_status, own_barrier}
use Rattle.cell_words.specs.Field.{pack_field_of}
use Rattle.cell_words.specs.Modes.{next_status_of}
use Rattle.cell_words.specs.declared.presences.Presence.{Presence}
use Rattle.cell_words.specs.declared.presences.Status.TheVariants as status_kind
use Rattle.cell_words.specs.declared.write_barrier.Barrier.{Barrier}
use Rattle.core_machine.specs.Words.{born_colour, is_cell, kind_field, lets_store, marks_some}
use Rattle.core_machine.specs.Words.{requests, same_status}
use Rattle.core_machine.specs.Table.{TheControl, StatusOf, ColourOf, FieldOf}
use Rattle.core_machine.specs.WordOperations.{Load, Store, Exchange, SetBits, KeepBits}
use Rattle.core_machine.specs.WordOperations.{all_but_inside, answered_presence, colour_exchange}
use Rattle.core_machine.specs.WordOperations.{inside_bit, over_bit}
use Rattle.core_machine.specs.Places.{all_marked, marks_stand}
use Rattle.core_machine.specs.Own.{Own, pending_or_none}
use Rattle.core_machine.specs.Places.{cell_at, names_rightly}
use Rattle.core_machine.specs.State.{field_of, held_of, is_box, is_raw, is_raw_value, own_of}
use Rattle.core_machine.specs.State.{presence_of, room_of, target_of}
use Rattle.core_machine.specs.Words.{barrier_in, is_box_kind, is_raw_kind}
use Rattle.dlg_core.proofs.Truths.{box_not_raw}
use Rattle.heap_rule.specs.declared.known.Known.{Known}
use Rattle.heap_rule.specs.declared.known.Known.TheVariants as knows
use Rattle.heap_rule.specs.declared.view.View.{View}
use Rattle.heap_rule.specs.Asks.{CollectorAsks, IsBox, IsRaw, IsSealedValue, KnowsTerms}
use Rattle.heap_rule.specs.Asks.{MayAnswer, MayClaim, MayComeIn, MayFetch, MayFill, MayKeep}
use Rattle.heap_rule.specs.Asks.{MayLook, MayMark, MayRead, MaySeal, MayStore, MayWrite}
use Rattle.heap_rule.specs.Asks.{begun_of, collector_state, is_sealed, known_of}
use Rattle.heap_rule.specs.Asks.{known_state, knows_sealed, raw_fields, target, told_by}
use Rattle.heap_rule.specs.Facts.{AllKnown, IsKnown, IsTermKnown, Proper, SealsTerms}
use Rattle.heap_rule.specs.Knowledge.{ArePayload}
use Rattle.heap_rule.specs.Lore.{Lore, cells_in, cells_of, known_in}
use Rattle.heap_rule.specs.Steps.{Mine, Owed}
use Rattle.heap_rule.proofs.Lists.{all_at}
use Rattle.heap_rule.proofs.Reading.{cell_there}
use Rattle.std.proofs.lemmas.List.{length-map}

-- The collector: its events read nothing of a state but what it knows, except the look of the
-- sweep, which finds no gray cell.

abbrev bare : State → State
bare s = known_state s.cells s.mutators s.control s.collector

not_gray : (found : Colour) → (found ≡ colour.Gray → ⊥) → not (is_gray found) ≡ true
not_gray colour.Blue other = refl
not_gray colour.White other = refl
not_gray colour.Gray other = absurd (other refl)
not_gray colour.Black other = refl

looks : (s : State) → IsConsistent s → can (bare s) event.SweepLook ≡ true
    → can s event.SweepLook ≡ true
looks s k h =
    let three = and_parts _ _ h in
    let fresh = and_parts _ _ three.0 in
    let at = and_parts _ _ fresh.0 in
    let is : s.collector.sweep ≡ sweeping.Fresh = fresh_is s.collector.sweep fresh.1 in
    and_from _ (not (is_gray (colour_of s s.control.position))) three.0
    (not_gray (colour_of s s.control.position)
    (k.sweep.unswept s.control.position
    (here_unswept s.control s.collector.sweep (same_stage_is s.control.stage stage.Sweep at.0)
    (λ done. let no = sym is ∙ done in cc))))

bare_can : (s : State) (e : Event) → IsConsistent s → maker e ≡ None → can (bare s) e ≡ true
    → can s e ≡ true
bare_can s (event.Begin i) k made h = let no = made in absurd cc
bare_can s (event.Look i) k made h = let no = made in absurd cc
bare_can s (event.Read i place f) k made h = let no = made in absurd cc
bare_can s (event.Mark i place) k made h = let no = made in absurd cc
bare_can s (event.Write i place f old new) k made h = let no = made in absurd cc
bare_can s (event.Fetch i place f) k made h = let no = made in absurd cc
bare_can s (event.Store i new) k made h = let no = made in absurd cc
bare_can s (event.Claim i c) k made h = let no = made in absurd cc
bare_can s (event.Fill i place f value) k made h = let no = made in absurd cc
bare_can s (event.Seal i place of) k made h = let no = made in absurd cc
bare_can s (event.Answer i) k made h = let no = made in absurd cc
bare_can s (event.Keep i n from copies) k made h = let no = made in absurd cc
bare_can s (event.End i) k made h = let no = made in absurd cc
bare_can s (event.Over i) k made h = let no = made in absurd cc
bare_can s (event.Post stage.Idle) k made h = h
bare_can s (event.Post stage.Sync1) k made h = h
bare_can s (event.Post stage.Clear) k made h = h
bare_can s (event.Post stage.Sync2) k made h = h
bare_can s (event.Post stage.Trace) k made h = h
bare_can s (event.Post stage.Sweep) k made h = h
bare_can s event.SweepLook k made h = looks s k h
bare_can s _ k made h = h

bare_word : (s : State) (e : Event) → maker e ≡ None → word_of s e ≡ word_of (bare s) e
bare_word s (event.Begin i) made = let no = made in absurd cc
bare_word s (event.Look i) made = let no = made in absurd cc
bare_word s (event.Read i place f) made = let no = made in absurd cc
bare_word s (event.Mark i place) made = let no = made in absurd cc
bare_word s (event.Write i place f old new) made = let no = made in absurd cc
bare_word s (event.Fetch i place f) made = let no = made in absurd cc
bare_word s (event.Store i new) made = let no = made in absurd cc
bare_word s (event.Claim i c) made = let no = made in absurd cc
bare_word s (event.Fill i place f value) made = let no = made in absurd cc
bare_word s (event.Seal i place of) made = let no = made in absurd cc
bare_word s (event.Answer i) made = let no = made in absurd cc
bare_word s (event.Keep i n from copies) made = let no = made in absurd cc
bare_word s (event.End i) made = let no = made in absurd cc
bare_word s (event.Over i) made = let no = made in absurd cc
bare_word s _ made = refl

bare_operation : (s : State) (e : Event) → maker e ≡ None
    → operation_of s e ≡ operation_of (bare s) e
bare_operation s (event.Begin i) made = let no = made in absurd cc
bare_operation s (event.Look i) made = let no = made in absurd cc
bare_operation s (event.Read i place f) made = let no = made in absurd cc
bare_operation s (event.Mark i place) made = let no = made in absurd cc
bare_operation s (event.Write i place f old new) made = let no = made in absurd cc
bare_operation s (event.Fetch i place f) made = let no = made in absurd cc
bare_operation s (event.Store i new) made = let no = made in absurd cc
bare_operation s (event.Claim i c) made = let no = made in absurd cc
bare_operation s (event.Fill i place f value) made = let no = made in absurd cc
bare_operation s (event.Seal i place of) made = let no = made in absurd cc
bare_operation s (event.Answer i) made = let no = made in absurd cc
bare_operation s (event.Keep i n from copies) made = let no = made in absurd cc
bare_operation s (event.End i) made = let no = made in absurd cc
bare_operation s (event.Over i) made = let no = made in absurd cc
bare_operation s _ made = refl

bare_tells : (s : State) (e : Event) → maker e ≡ None → (n : ℕ) → IsPackedAs (found_by s e) n
    → IsPackedAs (found_by s e) (told_by (operation_of s e) n)
bare_tells s (event.Begin i) made n h = let no = made in absurd cc
bare_tells s (event.Look i) made n h = let no = made in absurd cc
bare_tells s (event.Read i place f) made n h = let no = made in absurd cc
bare_tells s (event.Mark i place) made n h = let no = made in absurd cc
bare_tells s (event.Write i place f old new) made n h = let no = made in absurd cc
bare_tells s (event.Fetch i place f) made n h = let no = made in absurd cc
bare_tells s (event.Store i new) made n h = let no = made in absurd cc
bare_tells s (event.Claim i c) made n h = let no = made in absurd cc
bare_tells s (event.Fill i place f value) made n h = let no = made in absurd cc
bare_tells s (event.Seal i place of) made n h = let no = made in absurd cc
bare_tells s (event.Answer i) made n h = let no = made in absurd cc
bare_tells s (event.Keep i count from copies) made n h = let no = made in absurd cc
bare_tells s (event.End i) made n h = let no = made in absurd cc
bare_tells s (event.Over i) made n h = let no = made in absurd cc
bare_tells s (event.Post target) made n h = tt
bare_tells s (event.Duty on) made n h = tt
bare_tells s event.Blacken made n h = tt
bare_tells s event.Wipe made n h = tt
bare_tells s event.Free made n h = tt
bare_tells s event.Whiten made n h = tt
bare_tells s event.Advance made n h = tt
bare_tells s _ made n h = h

collectors_proper : (s : State) (fixed : ℕ → Bool) (l : Lore) (e : Event) → maker e ≡ None
    → Proper fixed s l e
collectors_proper s fixed l (event.Begin i) made = let no = made in absurd cc
collectors_proper s fixed l (event.Look i) made = let no = made in absurd cc
collectors_proper s fixed l (event.Read i place f) made = let no = made in absurd cc
collectors_proper s fixed l (event.Mark i place) made = let no = made in absurd cc
collectors_proper s fixed l (event.Write i place f old new) made = let no = made in absurd cc
collectors_proper s fixed l (event.Fetch i place f) made = let no = made in absurd cc
collectors_proper s fixed l (event.Store i new) made = let no = made in absurd cc
collectors_proper s fixed l (event.Claim i c) made = let no = made in absurd cc
collectors_proper s fixed l (event.Fill i place f value) made = let no = made in absurd cc
collectors_proper s fixed l (event.Seal i place of) made = let no = made in absurd cc
collectors_proper s fixed l (event.Answer i) made = let no = made in absurd cc
collectors_proper s fixed l (event.Keep i n from copies) made = let no = made in absurd cc
collectors_proper s fixed l (event.End i) made = let no = made in absurd cc
collectors_proper s fixed l (event.Over i) made = let no = made in absurd cc
collectors_proper s fixed l _ made = tt

-- every event of the collector that the table allows by what the seat knows
pub collector_asks : {P : Type 0} (fixed : ℕ → Bool) (v : View P) (e : Event) → maker e ≡ None
    → can (collector_state v) e ≡ true
    → CollectorAsks fixed v e (word_of (collector_state v) e) (operation_of (collector_state v) e)
collector_asks fixed v e made h s l ours =
    let same : bare s ≡ collector_state v =
    (λ t. known_state (ours.cells t) (ours.mutators t) (ours.control t) (ours.part t)) in
    let operation : operation_of s e ≡ operation_of (collector_state v) e =
    bare_operation s e made ∙ ap (λ (t : State). operation_of t e) same in
    record {
      happens = bare_can s e ours.shown.consistent made (subst (λ (t : State). can t e
          ≡ true) (sym same) h);
      proper = collectors_proper s fixed l e made;
      index =
          ap (λ (w : Word). index_of s.mutators w) (bare_word s e made
          ∙ ap (λ (t : State). word_of t e) same)
          ∙ ap (λ (n : ℕ). index_of n (word_of (collector_state v) e)) ours.mutators;
      left = λ n. ap (λ (o : Operation). left_by o n) (sym operation);
      tells = λ n is.
          subst (λ (o : Operation). IsPackedAs (found_by s e) (told_by o n)) operation
          (bare_tells s e made n is);
    }

-- Mutators.

module _ {P : Type 0} (fixed : ℕ
    → Bool) (v : View P) (s : State) (l : Lore) (mine : Mine fixed v s l) where
  abbrev i : ℕ
  i = v.number

  inside_now : v.presence.inside ≡ true → is_in s i ≡ true
  inside_now inside = sym mine.presence.inside ∙ inside

  status_now : v.presence.inside ≡ true → (presence_of s i).status ≡ v.presence.status
  status_now inside = sym (mine.presence.status inside)

  place_now : (place : ℕ) → place < length v.own.held → is_place s i place ≡ true
  place_now place lt =
      lt-ltb place (length (held_of s i))
      (subst (λ (o : Own). place < length o.held) (sym mine.own) lt)

  room_now : length v.own.held < v.room → has_room s i ≡ true
  room_now lt =
      ap (λ (o : Own). nat_lt (length o.held) (room_of s i)) mine.own
      ∙ ap (λ (n : ℕ). nat_lt (length v.own.held) n) mine.room
      ∙ lt-ltb (length v.own.held) v.room lt

  mode_now : is_some v.own.mode ≡ true → has_mode s i ≡ true
  mode_now is = ap (λ (o : Own). is_some o.mode) mine.own ∙ is

  -- nothing is pending, or something is
  settled_now : v.own.pending ≡ None → not (has_pending s i) ≡ true
  settled_now none =
      ap (λ (o : Own). not (is_some o.pending)) mine.own
      ∙ ap (λ (p : Option Pending). not (is_some p)) none

  pending_now : is_some v.own.pending ≡ true → has_pending s i ≡ true
  pending_now is = ap (λ (o : Own). is_some o.pending) mine.own ∙ is

  lets_now : v.presence.inside ≡ true → lets_store v.presence.status v.own.mode ≡ true
      → own_lets_store s i ≡ true
  lets_now inside lets =
      ap (λ (x : Status). lets_store x (own_of s i).mode) (status_now inside)
      ∙ ap (λ (o : Own). lets_store v.presence.status o.mode) mine.own ∙ lets

  barrier_now : v.presence.inside ≡ true → own_barrier s i ≡ barrier_in v.presence.status v.own.mode
  barrier_now inside =
      ap (λ (x : Status). barrier_in x (own_of s i).mode) (status_now inside)
      ∙ ap (λ (o : Own). barrier_in v.presence.status o.mode) mine.own

  names_now : (value : Field) → names_rightly v.own.held value ≡ true → names_own s i value ≡ true
  names_now value is = ap (λ (o : Own). names_rightly o.held value) mine.own ∙ is

  target_now : (place : ℕ) → target_of s i place ≡ target v place
  target_now place = ap (λ (o : Own). cell_at o.held place) mine.own

  -- what it knows is so
  knows_all : AllKnown (IsKnown fixed s l i) (cells_in v.own.held) v.known
  knows_all =
      subst (λ (o : Own). AllKnown (IsKnown fixed s l i) (cells_in o.held) v.known) mine.own
      (subst (λ (ws : List Known). AllKnown (IsKnown fixed s l i) (cells_of s i) ws) mine.known
      (mine.shown.facts.known_all i))

  knows_place : (place : ℕ) → place < length v.own.held
      → IsKnown fixed s l i (target v place) (known_of v place)
  knows_place place lt =
      subst (λ (c : ℕ). IsKnown fixed s l i c (known_of v place)) (cell_there v.own.held place)
      (all_at (IsKnown fixed s l i) (cells_in v.own.held) v.known place
      (subst (λ (n : ℕ). place < n) (sym (length-map v.own.held (λ (p : Held). p.cell))) lt)
      knows_all)

  raw_is : (x : ℕ) (k : Known) → IsRaw k → IsKnown fixed s l i x k
      → (field_of s x 5 ≡ field.Null) × ArePayload (raw_fields k) (field_of s x)
  raw_is x (knows.Raw fields) is h = (h.0, h.2)
  raw_is x knows.Nothing is h = absurd is
  raw_is x (knows.Fresh fields) is h = absurd is
  raw_is x (knows.Record t) is h = absurd is
  raw_is x (knows.Boxed terms) is h = absurd is

  raw_now : (place : ℕ) → place < length v.own.held → IsRaw (known_of v place)
      → (is_raw s (target_of s i place)
      ≡ true) × ArePayload (raw_fields (known_of v place)) (field_of s (target_of s i place))
  raw_now place lt is =
      subst (λ (c : ℕ). (is_raw s c
      ≡ true) × ArePayload (raw_fields (known_of v place)) (field_of s c)) (sym (target_now place))
      (let raw = raw_is (target v place) (known_of v place) is
      (knows_place place lt) in (ap is_raw_kind raw.0, raw.1))

  anchor_is : (x : ℕ) → x ≡ 0 → is_box_kind (field_of s x 5) ≡ true
  anchor_is x is = ap (λ (n : ℕ). is_box_kind (field_of s n 5)) is
      ∙ mine.shown.consistent.cells.anchor_box

  box_is : (x : ℕ) (k : Known) → IsBox x k → IsKnown fixed s l i x k
      → is_box_kind (field_of s x 5) ≡ true
  box_is x (knows.Fresh fields) is h = h.0
  box_is x (knows.Boxed terms) is h = h.1
  box_is x knows.Nothing is h = anchor_is x is
  box_is x (knows.Raw fields) is h = anchor_is x is
  box_is x (knows.Record t) is h = anchor_is x is

  box_now : (place : ℕ) → place < length v.own.held → IsBox (target v place) (known_of v place)
      → is_box s (target_of s i place) ≡ true
  box_now place lt is =
      ap (λ (c : ℕ). is_box s c) (target_now place)
      ∙ box_is (target v place) (known_of v place) is (knows_place place lt)

  sealed_is : (x : ℕ) (k : Known) → is_sealed k ≡ true → IsKnown fixed s l i x k
      → is_raw_kind (field_of s x 5) ≡ false
  sealed_is x (knows.Fresh fields) is h = box_not_raw (field_of s x 5) h.0
  sealed_is x (knows.Record t) is h = ap is_raw_kind h.0
  sealed_is x (knows.Boxed terms) is h = box_not_raw (field_of s x 5) h.1
  sealed_is x knows.Nothing is h = absurd cc
  sealed_is x (knows.Raw fields) is h = absurd cc

  sealed_there : (cells : List ℕ) (known : List Known) (c : ℕ)
      → AllKnown (IsKnown fixed s l i) cells known
      → knows_sealed cells known c ≡ true → is_raw_kind (field_of s c 5) ≡ false
  sealed_there [] known c all is = absurd cc
  sealed_there (d ∷ cells) [] c all is = absurd all
  sealed_there (d ∷ cells)
      (k ∷ known) c all
      is = elim (or_cases ((d == c) && is_sealed k) (knows_sealed cells known c) is) [
        | inl here ↦
            let both = and_parts (d == c) (is_sealed k) here in
            ap (λ (n : ℕ). is_raw_kind (field_of s n 5)) (sym (eqb-true d c both.0))
            ∙ sealed_is d k both.1 all.0
        | inr rest ↦ sealed_there cells known c all.1 rest
      ]

  sealed_now : (value : Field) → IsSealedValue (cells_in v.own.held) v.known value
      → is_raw_value s value ≡ false
  sealed_now field.Null is = refl
  sealed_now (field.Num n) is = refl
  sealed_now (field.Cell c)
      is = elim (or_cases (c == 0) (knows_sealed (cells_in v.own.held) v.known c) is) [
        | inl root ↦ box_not_raw (field_of s c 5) (anchor_is c (eqb-true c 0 root))
        | inr known ↦ sealed_there (cells_in v.own.held) v.known c knows_all known
      ]

  -- By kinds.

  not_now : (b : Bool) → b ≡ false → not b ≡ true
  not_now true h = absurd cc
  not_now false h = refl

  may_begin_now : MayComeIn v → may_begin s i ≡ true
  may_begin_now may =
      and_from _ _ (not_now (presence_of s i).inside (sym mine.presence.inside ∙ may.out))
      (not_now (presence_of s i).over (sym mine.presence.over ∙ may.not_over))

  at_target : (f : ℕ → Word) (place : ℕ)
      → index_of s.mutators (f (target_of s i place))
      ≡ index_of v.shape.mutators (f (target v place))
  at_target f place =
      ap (λ (c : ℕ). index_of s.mutators (f c)) (target_now place)
      ∙ ap (λ (n : ℕ). index_of n (f (target v place))) mine.mutators

  pub owes_begin : MayComeIn v
      → Owed fixed s l (event.Begin i) (index_of v.shape.mutators (StatusOf i))
      (left_by (SetBits inside_bit)) (told_by (SetBits inside_bit))
  owes_begin may = record {
    happens = may_begin_now may;
    proper = tt;
    index = refl;
    left = λ n.
        refl;
    tells = λ n h. h;
  }

  pub owes_over : MayComeIn v
      → Owed fixed s l (event.Over i) (index_of v.shape.mutators (StatusOf i))
      (left_by (SetBits over_bit)) (told_by (SetBits over_bit))
  owes_over may = record {
    happens = may_begin_now may;
    proper = tt;
    index = refl;
    left = λ n. refl;
    tells = λ n h. h;
  }

  pub owes_end : v.presence.inside ≡ true
      → Owed fixed s l (event.End i) (index_of v.shape.mutators (StatusOf i))
      (left_by (KeepBits all_but_inside)) (told_by (KeepBits all_but_inside))
  owes_end inside = record {
    happens = inside_now inside;
    proper = tt;
    index = refl;
    left = λ n.
        refl;
    tells = λ n h. h;
  }

  pub owes_look : MayLook v
      → Owed fixed s l (event.Look i) (index_of v.shape.mutators TheControl) (left_by Load)
      (told_by Load)
  owes_look may = record {
    happens = and_from _ _ (inside_now may.inside) (settled_now may.settled);
    proper = tt;
    index = refl;
    left = λ n.
        refl;
    tells = λ n h. h;
  }

  pub owes_read : (place f : ℕ) → MayRead v place f
      → Owed fixed s l (event.Read i place f)
      (index_of v.shape.mutators (FieldOf (target v place) f)) (left_by Load) (told_by Load)
  owes_read place f may = record {
    happens = and_from _ _
        (and_from _ _ (and_from _ _ (inside_now may.inside) (place_now place may.there))
        (le-leb f 4 may.payload)) (room_now may.room);
    proper = tt;
    index = at_target (λ c. FieldOf c f) place;
    left = λ n. refl;
    tells = λ n h. h;
  }

  pub owes_mark : (place : ℕ) → MayMark v place
      → Owed fixed s l (event.Mark i place) (index_of v.shape.mutators (ColourOf (target v place)))
      (left_by (colour_exchange colour.White colour.Gray))
      (told_by (colour_exchange colour.White colour.Gray))
  owes_mark place may = record {
    happens = and_from _ _ (and_from _ _ (inside_now may.inside) (place_now place may.there))
        (ap marks_some (barrier_now may.inside) ∙ may.barrier);
    proper = tt;
    index = at_target (λ c. ColourOf c) place;
    left = λ n. refl;
    tells = λ n h. h;
  }

  pub owes_write : (place f : ℕ) (old new : Field) → MayWrite fixed v place f old new
      → Owed fixed s l (event.Write i place f old new)
      (index_of v.shape.mutators (FieldOf (target v place) f))
      (left_by (Exchange (pack_field_of old) (pack_field_of new)))
      (told_by (Exchange (pack_field_of old) (pack_field_of new)))
  owes_write place f old new may = record {
    happens =
        let begins = and_from _ _ (and_from _ _ (inside_now may.inside) (mode_now may.mode))
        (settled_now may.settled) in
        let front = and_from _ _ begins (place_now place may.there) in
        let box = and_from _ _ (and_from _ _ front (le-leb f 4 may.payload))
        (box_now place may.there may.box) in
        let names = and_from _ _ (and_from _ _ box (names_now old may.names_old))
        (names_now new may.names_new) in
        and_from _ _ (and_from _ _ names (not_now (is_raw_value s new) (sealed_now new may.sealed)))
        (ap (λ (b : Barrier). marks_stand b (held_of s i) old new) (barrier_now may.inside)
        ∙ ap (λ (o : Own). marks_stand (barrier_in v.presence.status v.own.mode) o.held old new)
        mine.own ∙ may.marks);
    proper = λ is. target_now place ∙ may.spares is;
    index = at_target (λ c. FieldOf c f) place;
    left = λ n. refl;
    tells = λ n h. h;
  }

  pub owes_fetch : (place f : ℕ) → MayFetch v place f
      → Owed fixed s l (event.Fetch i place f)
      (index_of v.shape.mutators (FieldOf (target v place) f)) (left_by Load) (told_by Load)
  owes_fetch place f may = record {
    happens =
        let begins = and_from _ _ (and_from _ _ (inside_now may.inside) (settled_now may.settled))
        (lets_now may.inside may.lets) in
        let there = and_from _ _ (and_from _ _ begins (place_now place may.there))
        (le-leb f 4 may.payload) in
        and_from _ _ (and_from _ _ there (box_now place may.there may.box)) (room_now may.room);
    proper = tt;
    index = at_target (λ c. FieldOf c f) place;
    left = λ n. refl;
    tells = λ n h. h;
  }

  -- the field that the pending write is of, as a function of the own part
  abbrev field_begun : Own → Word
  field_begun own = FieldOf (cell_at own.held (pending_or_none own.pending).place)
      (pending_or_none own.pending).f

  pub owes_store : (new : Field) → MayStore fixed v new
      → Owed fixed s l (event.Store i new)
      (index_of v.shape.mutators (FieldOf (target v (begun_of v).place) (begun_of v).f))
      (left_by (Store (pack_field_of new))) (told_by (Store (pack_field_of new)))
  owes_store new may = record {
    happens =
        let begins = and_from _ _ (inside_now may.inside) (pending_now may.begun) in
        let names = and_from _ _ begins (names_now new may.names) in
        and_from _ _ (and_from _ _ names (not_now (is_raw_value s new) (sealed_now new may.sealed)))
        (ap (λ (b : Barrier). marks_stand b (held_of s i)
        (pending_or_none (own_of s i).pending).found new) (barrier_now may.inside)
        ∙ ap (λ (o : Own). marks_stand (barrier_in v.presence.status v.own.mode) o.held
        (pending_or_none o.pending).found new) mine.own ∙ may.marks);
    proper = λ is.
        ap (λ (o : Own). cell_at o.held (pending_or_none o.pending).place) mine.own
        ∙ may.spares (subst (λ (o : Own). fixed (pending_or_none o.pending).f ≡ true) mine.own is);
    index =
        ap (λ (o : Own). index_of s.mutators (field_begun o)) mine.own
        ∙ ap (λ (n : ℕ). index_of n (field_begun v.own)) mine.mutators;
    left = λ n. refl;
    tells = λ n h. tt;
  }

  pub owes_claim : (c : ℕ) → MayClaim v c
      → Owed fixed s l (event.Claim i c) (index_of v.shape.mutators (ColourOf c))
      (left_by (colour_exchange colour.Blue (born_colour v.presence.status v.own.mode c)))
      (told_by (colour_exchange colour.Blue (born_colour v.presence.status v.own.mode c)))
  owes_claim c may = record {
    happens =
        let begins = and_from _ _ (and_from _ _ (inside_now may.inside) (mode_now may.mode))
        (settled_now may.settled) in
        and_from _ _ (and_from _ _ begins (ap (λ (n : ℕ). nat_lt c n) mine.cells
        ∙ lt-ltb c v.shape.cells may.cell)) (room_now may.room);
    proper = tt;
    index = ap (λ (n : ℕ). index_of n (ColourOf c)) mine.mutators;
    left = λ n.
        ap (λ (x : Colour). left_by (colour_exchange colour.Blue x) n)
        (sym (ap (λ (x : Status). born_colour x (own_of s i).mode c) (status_now may.inside)
        ∙ ap (λ (o : Own). born_colour v.presence.status o.mode c) mine.own));
    tells = λ n h. h;
  }

  pub owes_fill : (place f : ℕ) (value : Field) → MayFill v place f value
      → Owed fixed s l (event.Fill i place f value)
      (index_of v.shape.mutators (FieldOf (target v place) f))
      (left_by (Store (pack_field_of value))) (told_by (Store (pack_field_of value)))
  owes_fill place f value may =
      let raw = raw_now place may.there may.raw in
      record {
        happens =
            let front = and_from _ _
            (and_from _ _ (inside_now may.inside) (place_now place may.there)) raw.0 in
            let names = and_from _ _ (and_from _ _ front (le-leb f 4 may.payload))
            (names_now value may.names) in
            and_from _ _ (and_from _ _ names
            (not_now (is_raw_value s value) (sealed_now value may.sealed)))
            (not_now (is_cell (field_of s (target_of s i place) f))
            (ap is_cell (raw.1.each f (let le = may.payload in omega (arith, le))) ∙ may.clear));
        proper = tt;
        index = at_target (λ c. FieldOf c f) place;
        left = λ n. refl;
        tells = λ n h. tt;
      }

  -- a record's fields have terms, as the seat knows them
  terms_now : (of : Kind) (fields : List Field) (row : ℕ → Field) → ArePayload fields row
      → KnowsTerms of (cells_in v.own.held) v.known fields
      → SealsTerms of (cells_of s i) (known_in l.known i) row
  terms_now kind.Record fields row are knows_them = λ f lt.
      subst (λ (o : Own). IsTermKnown (cells_in o.held) (known_in l.known i) (row f)) (sym mine.own)
      (subst (λ (ws : List Known). IsTermKnown (cells_in v.own.held) ws (row f)) (sym mine.known)
      (subst (λ (x : Field). IsTermKnown (cells_in v.own.held) v.known x) (sym (are.each f lt))
      (knows_them f lt)))
  terms_now kind.Boxed fields row are knows_them = tt

  pub owes_seal : (place : ℕ) (of : Kind) → MaySeal v place of
      → Owed fixed s l (event.Seal i place of)
      (index_of v.shape.mutators (FieldOf (target v place) 5))
      (left_by (Store (pack_field_of (kind_field of))))
      (told_by (Store (pack_field_of (kind_field of))))
  owes_seal place of may =
      let raw = raw_now place may.there may.raw in
      record {
        happens = and_from _ _
            (and_from _ _ (inside_now may.inside) (place_now place may.there)) raw.0;
        proper = terms_now of (raw_fields (known_of v place))
            (field_of s (target_of s i place)) raw.1 may.terms;
        index = at_target (λ c. FieldOf c 5) place;
        left = λ n. refl;
        tells = λ n h. tt;
      }

  pub owes_answer : MayAnswer v
      → Owed fixed s l (event.Answer i) (index_of v.shape.mutators (StatusOf i))
      (left_by (Store (pack_presence_of (answered_presence v.presence))))
      (told_by (Store (pack_presence_of (answered_presence v.presence))))
  owes_answer may =
      let status = status_now may.inside in
      let presence : presence_of s i ≡ v.presence =
      (λ t. record {
        status = status t;
        inside = sym mine.presence.inside t;
        over = sym
            mine.presence.over t;
      }) in
      record {
        happens =
            and_from _ _ (and_from _ _
            (and_from _ _ (inside_now may.inside) (settled_now may.settled))
            (ap (λ (o : Own). requests o.mode (next_own_status s i)) mine.own
            ∙ ap (λ (x : Status). requests v.own.mode (next_status_of x)) status ∙ may.requested))
            (ap (λ (o : Own). not
            (same_status (next_own_status s i) status_kind.Async) || all_marked o.held) mine.own
            ∙ ap (λ (x : Status). not
            (same_status (next_status_of x) status_kind.Async) || all_marked v.own.held) status
            ∙ may.third);
        proper = tt;
        index = refl;
        left = λ n. ap (λ (p : Presence). pack_presence_of (answered_presence p)) (sym presence);
        tells = λ n h. tt;
      }

  pub owes_keep : (n from copies : ℕ) → v.own.pending ≡ None → MayKeep v n from copies
      → Owed fixed s l (event.Keep i n from copies) (index_of v.shape.mutators (StatusOf i))
      (left_by Load) (told_by Load)
  owes_keep n from copies settled may = record {
    happens =
        let long : (m : ℕ) → m ≤ length v.own.held → nat_le m (length (held_of s i)) ≡ true
        = (λ m le. ap (λ (o : Own). nat_le m (length o.held)) mine.own
        ∙ le-leb m (length v.own.held) le) in
        and_from _ _ (and_from _ _
        (and_from _ _ (and_from _ _
        (and_from _ _ (inside_now may.inside) (settled_now settled)) (le-leb 1 n may.some))
        (long n may.kept)) (long (from + copies) may.copied))
        (ap (λ (r : ℕ). nat_le (n + copies) r) mine.room ∙ le-leb (n + copies) v.room may.room);
    proper = tt;
    index = refl;
    left = λ number. refl;
    tells = λ number h. h;
  }
