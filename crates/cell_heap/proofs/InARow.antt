-- Runs of events, one event longer, and what the seat is after them.
use Rattle.std.proofs.Common.{◌≡◌, ◌≢◌, ◌<◌, ◌+◌, ◌&&◌, ℕ, Bool, true, false, not}
use Rattle.std.proofs.Common.{if◌then◌else◌, List, [], ◌∷◌, ◌++◌, length, Some, None}
use Rattle.std.proofs.Common.{refl, sym, ◌∙◌, ap, subst, arith, eq-eqb, ne_eqb}
use Rattle.std.proofs.lemmas.Bool.{false≢true}
use Rattle.std.proofs.lemmas.List.{append_assoc, append-nil, length-append}
use Rattle.std.proofs.lemmas.List.Folds.{list_all-append}
use Rattle.std.specs.List.{list_all}
use Rattle.cell_heap.specs.Collecting.{IsCollector, IsCollectors}
use Rattle.cell_heap.specs.Progress.{progress_of}
use Rattle.cell_heap.specs.Runs.{ClearsOn, SeesOn, SweepsOn, TellsAll, clear_over, finds_gray}
use Rattle.cell_heap.specs.Runs.{is_kept, is_white, left_at, left_gray, see_over, sweep_at}
use Rattle.cell_heap.specs.Runs.{sweep_over}
use Rattle.cell_heap.specs.Telling.{FindsKnown, TellsColour, collector_tells}
use Rattle.cell_heap.specs.declared.progress.Progress.{Progress}
use Rattle.cell_words.specs.Control.{IsValidControl, greatest_position_of}
use Rattle.cell_words.specs.declared.colours.Colour.{Colour}
use Rattle.cell_words.specs.declared.colours.Colour.TheVariants as colour
use Rattle.cell_words.specs.declared.controls.Control.{Control}
use Rattle.core_machine.specs.Collector.{Collector, control_after, passed, restarted, seen}
use Rattle.core_machine.specs.Next.{can}
use Rattle.core_machine.specs.Words.{is_gray}
use Rattle.core_machine.specs.declared.events.Event.TheVariants as event
use Rattle.core_machine.specs.declared.events.Found.TheVariants as finds
use Rattle.core_machine.specs.declared.events.Taken.{Taken}
use Rattle.core_machine.specs.declared.progress.Sweeping.TheVariants as sweeping
use Rattle.core_machine.proofs.Conditions.{advance_needs}
use Rattle.heap_rule.specs.Asks.{collector_state}
use Rattle.heap_rule.specs.Rule.{took}
use Rattle.heap_rule.specs.declared.view.View.{View}
use Rattle.heap_table.specs.Seats.{HeapId, IsSeatOf, SeatView}

-- Colours.

pub white_is : (k : Colour) → is_white k ≡ true → k ≡ colour.White
white_is colour.Blue is = absurd (false≢true is)
white_is colour.White is = refl
white_is colour.Gray is = absurd (false≢true is)
white_is colour.Black is = absurd (false≢true is)

gray_is : (k : Colour) → is_gray k ≡ true → k ≡ colour.Gray
gray_is colour.Blue is = absurd (false≢true is)
gray_is colour.White is = absurd (false≢true is)
gray_is colour.Gray is = refl
gray_is colour.Black is = absurd (false≢true is)

pub kept_is : (k : Colour) → is_white k ≡ false → is_gray k ≡ false
    → (is_kept k ≡ true) × (left_at k ≡ sweeping.Done)
kept_is colour.Blue white gray = (refl, refl)
kept_is colour.White white gray = absurd (false≢true (sym white))
kept_is colour.Gray white gray = absurd (false≢true (sym gray))
kept_is colour.Black white gray = (refl, refl)

sweep_append : (xs ys : List Colour) → sweep_over (xs ++ ys) ≡ sweep_over xs ++ sweep_over ys
sweep_append [] ys = refl
sweep_append (k ∷ ks) ys =
    let one = sweep_at k ++ took event.Advance finds.Stored ∷ [] in
    ap (λ (zs : List Taken). one ++ zs) (sweep_append ks ys)
    ∙ sym (append_assoc one (sweep_over ks) (sweep_over ys))

clear_append : (xs ys : List Colour) → clear_over (xs ++ ys) ≡ clear_over xs ++ clear_over ys
clear_append [] ys = refl
clear_append (k ∷ ks) ys =
    ap (λ (zs : List Taken). took event.ClearCell (finds.Colour k) ∷ zs) (clear_append ks ys)

see_append : (first : ℕ) (xs : List Colour) (k : Colour) (at : ℕ) → first + length xs ≡ at
    → see_over first (xs ++ k ∷ []) ≡ see_over first xs ++ took (event.See at) (finds.Colour k) ∷ []
see_append first [] k at is =
    let same : first ≡ at = omega (arith, is) in
    ap (λ (n : ℕ). took (event.See n) (finds.Colour k) ∷ []) same
see_append first (x ∷ xs) k at is =
    ap (λ (zs : List Taken). took (event.See first) (finds.Colour x) ∷ zs)
    (see_append (first + 1) xs k at (omega (arith, is)))

-- A look of a pass at the cell that it has come to.

pub goes_on : (part : Collector) (cells at : ℕ) → part.cursor ≡ at → at < cells
    → restarted part cells ≡ part
goes_on part cells at is there =
    let other : part.cursor ≢ cells = omega (arith, is, there) in
    ap (λ (b : Bool).
    if b && not part.clean then record part { cursor = 0; clean = true } else part)
    (ne_eqb part.cursor cells other)

passes : (part : Collector) (at : ℕ) → part.cursor ≡ at
    → passed part at ≡ record part { cursor = at + 1 }
passes part at is =
    ap (λ (b : Bool). if b then record part { cursor = part.cursor + 1 } else part)
    (eq-eqb at part.cursor (sym is))
    ∙ (λ j. record part { cursor = is j + 1 })

pub goes_by : (part : Collector) (cells at : ℕ) (k : Colour) → part.cursor ≡ at → at < cells
    → is_gray k ≡ false → seen (restarted part cells) at k ≡ record part { cursor = at + 1 }
goes_by part cells at k is there other =
    ap (λ (x : Collector). seen x at k) (goes_on part cells at is there) ∙ by_colour k other
  where
    by_colour : (x : Colour) → is_gray x ≡ false → seen part at x ≡ record part { cursor = at + 1 }
    by_colour colour.Blue none = passes part at is
    by_colour colour.White none = passes part at is
    by_colour colour.Gray none = absurd (false≢true (sym none))
    by_colour colour.Black none = passes part at is

module _ {P : Type 0} where
  -- A collector's view, with its numbers and without.

  pub collectors : {v : View P} {cells mutators : ℕ} {control : Control} {progress : Progress}
      → IsCollector v cells mutators control progress → IsCollectors v
  collectors {v} is =
      subst (λ (x : (ℕ × ℕ) × (Control × Progress)). IsCollector v x.0.0 x.0.1 x.1.0 x.1.1)
      (λ j. (
        (sym is.cells_are j, sym is.mutators_are j),
        (
          sym is.control_is j,
          sym is.progress_is j,
        ),
      )) is

  pub numbered : {v : View P} {cells mutators : ℕ} {control : Control} {progress : Progress}
      → IsCollectors v → v.shape.cells ≡ cells → v.shape.mutators ≡ mutators
      → v.control ≡ control → progress_of v.part ≡ progress
      → IsCollector v cells mutators control progress
  numbered {v} is cells mutators control progress =
      subst (λ (x : (ℕ × ℕ) × (Control × Progress)). IsCollector v x.0.0 x.0.1 x.1.0 x.1.1)
      (λ j. ((cells j, mutators j), (control j, progress j))) is

  -- the control that an advance stores has a word
  pub next_valid : (v : View P) (control : Control) → IsCollectors v
      → control ≡ control_after v.control event.Advance
      → can (collector_state v) event.Advance ≡ true → IsValidControl control
  next_valid v control is next may =
      let needs = advance_needs (collector_state v) may in
      let there : v.control.position < v.shape.cells = needs.cell in
      let greatest : greatest_position_of v.control.stage ≡ 4194304 =
      ap greatest_position_of needs.now in
      subst IsValidControl (sym next) (record {
        position = omega (arith, there, is.within.few_cells, greatest);
        cycles = is.within.valid.cycles;
      })

  -- Runs.

  pub tells_append : (a b c : SeatView P) (xs ys : List Taken) → TellsAll a xs b
      → TellsAll b ys c → TellsAll a (xs ++ ys) c
  tells_append a b c [] ys first second =
      subst (λ (x : SeatView P). TellsAll x ys c) first second
  tells_append a b c (x ∷ xs) ys first second = (
    first.0,
    tells_append (collector_tells a x.event x.found) b c xs ys first.1 second,
  )

  pub tells_table : (a b : SeatView P) (xs : List Taken) → TellsAll a xs b → b.table ≡ a.table
  tells_table a b [] told = ap (λ (x : SeatView P). x.table) told
  tells_table a b (x ∷ xs) told =
      tells_table (collector_tells a x.event x.found) b xs told.1

  pub tells_shape : (a b : SeatView P) (xs : List Taken) → TellsAll a xs b
      → b.me.shape ≡ a.me.shape
  tells_shape a b [] told = ap (λ (x : SeatView P). x.me.shape) told
  tells_shape a b (x ∷ xs) told =
      tells_shape (collector_tells a x.event x.found) b xs told.1

  pub still_of : (heap : HeapId) (a b : SeatView P) (xs : List Taken) → IsSeatOf heap a
      → TellsAll a xs b → IsSeatOf heap b
  still_of heap a b xs of told = (
    tells_table a b xs told ∙ of.0,
    tells_shape a b xs told ∙ of.1,
  )

  -- The sweep has gone over cells up to this one.
  pub record SweptTo (at : ℕ) (old new : SeatView P) : Type 0 where
    pub kept : List Colour
    pub are_kept : list_all (λ found. is_kept found) kept ≡ true
    pub told : TellsAll old (sweep_over kept) new
    pub many : old.me.control.position + length kept ≡ at
    pub control : new.me.control ≡ record old.me.control { position = at }
    pub part : new.me.part ≡ old.me.part

  pub swept_none : (a : SeatView P) (control : Control) → control ≡ a.me.control
      → SweptTo control.position a a
  swept_none a control is = record {
    kept = [];
    are_kept = refl;
    told = refl;
    many = omega (arith, ap (λ (x : Control). x.position) is);
    control = λ j. record a.me.control {
      position = sym (ap (λ (x : Control). x.position) is) j;
    };
    part = refl;
  }

  pub swept_more : (at : ℕ) (k : Colour) (a b m c : SeatView P) → SweptTo at a b
      → a.me.part.sweep ≡ sweeping.Fresh → is_kept k ≡ true → left_at k ≡ sweeping.Done
      → TellsAll b (sweep_at k) m → m.me.control ≡ b.me.control
      → m.me.part ≡ record b.me.part { sweep = left_at k }
      → c ≡ collector_tells m event.Advance finds.Stored
      → FindsKnown m.me event.Advance finds.Stored → SweptTo (at + 1) a c
  swept_more at k a b m c so fresh keeps done told control part told_on known = record {
    kept = so.kept ++ k ∷ [];
    are_kept = list_all-append (λ (x : Colour). is_kept x) so.kept (k ∷ [])
        ∙ ap (λ (x : Bool). x && list_all (λ (y : Colour). is_kept y) (k ∷ [])) so.are_kept
        ∙ ap (λ (x : Bool). x && true) keeps;
    told = subst (λ (xs : List Taken). TellsAll a xs c) (sym (sweep_append so.kept (k ∷ [])))
        (tells_append a b c (sweep_over so.kept) (sweep_over (k ∷ [])) so.told
        (subst (λ (xs : List Taken). TellsAll b xs c)
        (sym (append-nil (sweep_at k ++ took event.Advance finds.Stored ∷ [])))
        (tells_append b m c (sweep_at k) (took event.Advance finds.Stored ∷ []) told
        (known, told_on))));
    many = omega (arith, so.many, length-append so.kept (k ∷ []));
    control = ap (λ (x : SeatView P). x.me.control) told_on
        ∙ ap (λ (x : Control). record x { position = x.position + 1 }) (control ∙ so.control);
    part = ap (λ (x : SeatView P). x.me.part) told_on
        ∙ ap (λ (x : Collector). record x { sweep = sweeping.Fresh }) part
        ∙ ap (λ (x : Collector). record x { sweep = sweeping.Fresh }) so.part
        ∙ (λ j. record a.me.part { sweep = sym fresh j });
  }

  -- it has come to a white one
  pub swept_white : (at : ℕ) (k : Colour) (a b m : SeatView P) → SweptTo at a b
      → at < a.me.shape.cells → k ≡ colour.White
      → TellsAll b (sweep_at k) m → m.me.control ≡ b.me.control
      → m.me.part ≡ record b.me.part { sweep = left_at k } → SweepsOn (Some at) a m
  swept_white at k a b m so there white told control part = record {
    kept = so.kept;
    are_kept = so.are_kept;
    told = tells_append a b m (sweep_over so.kept) (sweep_at colour.White) so.told
        (subst (λ (x : Colour). TellsAll b (sweep_at x) m) white told);
    many = so.many;
    there = there;
    control = control ∙ so.control;
    part = part ∙ (λ j. record (so.part j) { sweep = left_at (white j) });
  }

  -- or by the last one
  pub swept_all : (at : ℕ) (a b : SeatView P) → SweptTo at a b → at ≡ a.me.shape.cells
      → a.me.part.sweep ≡ sweeping.Fresh → SweepsOn None a b
  swept_all at a b so last fresh = record {
    kept = so.kept;
    are_kept = so.are_kept;
    told = subst (λ (xs : List Taken). TellsAll a xs b) (sym (append-nil (sweep_over so.kept)))
        so.told;
    many = so.many ∙ last;
    there = tt;
    control = so.control ∙ (λ j. record a.me.control { position = last j });
    part = so.part ∙ (λ j. record a.me.part { sweep = fresh j });
  }

  -- Clearing has gone over cells up to this one.
  pub record ClearedTo (at : ℕ) (old new : SeatView P) : Type 0 where
    pub found : List Colour
    pub told : TellsAll old (clear_over found) new
    pub many : old.me.part.cursor + length found ≡ at
    pub control : new.me.control ≡ old.me.control
    pub part : new.me.part ≡ record old.me.part { cursor = at }

  pub cleared_none : (at : ℕ) (a : SeatView P) → at ≡ a.me.part.cursor → ClearedTo at a a
  cleared_none at a is = record {
    found = [];
    told = refl;
    many = omega (arith, is);
    control = refl;
    part = λ j. record a.me.part { cursor = sym is j };
  }

  pub cleared_more : (at : ℕ) (a b c : SeatView P) → ClearedTo at a b
      → TellsColour b event.ClearCell c → ClearedTo (at + 1) a c
  cleared_more at a b c so one = record {
    found = so.found ++ one.found ∷ [];
    told = subst (λ (xs : List Taken). TellsAll a xs c)
        (sym (clear_append so.found (one.found ∷ [])))
        (tells_append a b c (clear_over so.found) (clear_over (one.found ∷ [])) so.told
        (one.known, one.told));
    many = omega (arith, so.many, length-append so.found (one.found ∷ []));
    control = ap (λ (x : SeatView P). x.me.control) one.told ∙ so.control;
    part = ap (λ (x : SeatView P). x.me.part) one.told
        ∙ ap (λ (x : Collector). record x { cursor = x.cursor + 1 }) so.part;
  }

  pub cleared_all : (at : ℕ) (a b : SeatView P) → ClearedTo at a b → at ≡ a.me.shape.cells
      → ClearsOn a b
  cleared_all at a b so last = record {
    found = so.found;
    told = so.told;
    many = so.many ∙ last;
    control = so.control;
    part = so.part ∙ (λ j. record a.me.part { cursor = last j });
  }

  -- A pass of tracing has gone by cells up to this one, none of them gray.
  pub record SeenTo (at : ℕ) (old new : SeatView P) : Type 0 where
    pub found : List Colour
    pub none_gray : list_all (λ found. not (is_gray found)) found ≡ true
    pub told : TellsAll old (see_over old.me.part.cursor found) new
    pub many : old.me.part.cursor + length found ≡ at
    pub control : new.me.control ≡ old.me.control
    pub part : new.me.part ≡ record old.me.part { cursor = at }

  pub seen_none : (at : ℕ) (a : SeatView P) → at ≡ a.me.part.cursor → SeenTo at a a
  seen_none at a is = record {
    found = [];
    none_gray = refl;
    told = refl;
    many = omega (arith, is);
    control = refl;
    part = λ j. record a.me.part { cursor = sym is j };
  }

  pub seen_more : (at : ℕ) (k : Colour) (a b c : SeatView P) → SeenTo at a b
      → at < b.me.shape.cells → is_gray k ≡ false
      → c ≡ collector_tells b (event.See at) (finds.Colour k)
      → FindsKnown b.me (event.See at) (finds.Colour k) → SeenTo (at + 1) a c
  seen_more at k a b c so there other told known = record {
    found = so.found ++ k ∷ [];
    none_gray = list_all-append (λ (x : Colour). not (is_gray x)) so.found (k ∷ [])
        ∙ ap (λ (x : Bool). x && list_all (λ (y : Colour). not (is_gray y)) (k ∷ []))
        so.none_gray
        ∙ ap (λ (x : Bool). not x && true) other;
    told = subst (λ (xs : List Taken). TellsAll a xs c)
        (sym (see_append a.me.part.cursor so.found k at so.many))
        (tells_append a b c (see_over a.me.part.cursor so.found)
        (took (event.See at) (finds.Colour k) ∷ []) so.told (known, told));
    many = omega (arith, so.many, length-append so.found (k ∷ []));
    control = ap (λ (x : SeatView P). x.me.control) told ∙ so.control;
    part = ap (λ (x : SeatView P). x.me.part) told
        ∙ goes_by b.me.part b.me.shape.cells at k (ap (λ (x : Collector). x.cursor) so.part)
        there other
        ∙ ap (λ (x : Collector). record x { cursor = at + 1 }) so.part;
  }

  -- it has come to a gray one
  pub seen_gray : (at : ℕ) (k : Colour) (a b c : SeatView P) → SeenTo at a b
      → at < b.me.shape.cells → at < a.me.shape.cells → is_gray k ≡ true
      → c ≡ collector_tells b (event.See at) (finds.Colour k)
      → FindsKnown b.me (event.See at) (finds.Colour k) → SeesOn (Some at) a c
  seen_gray at k a b c so there within gray told known =
      let is = gray_is k gray in
      let told_gray = told
      ∙ ap (λ (x : Colour). collector_tells b (event.See at) (finds.Colour x)) is in
      record {
        found = so.found;
        none_gray = so.none_gray;
        told = tells_append a b c (see_over a.me.part.cursor so.found) (finds_gray (Some at))
            so.told (
              subst (λ (x : Colour). FindsKnown b.me (event.See at) (finds.Colour x)) is known,
              told_gray,
            );
        many = so.many;
        there = within;
        control = ap (λ (x : SeatView P). x.me.control) told_gray ∙ so.control;
        part = ap (λ (x : SeatView P). x.me.part) told_gray
            ∙ ap (λ (x : Collector). seen x at colour.Gray)
            (goes_on b.me.part b.me.shape.cells at (ap (λ (x : Collector). x.cursor) so.part)
            there)
            ∙ ap (λ (x : Collector). left_gray (Some at) x) so.part;
      }

  -- or by the last one
  pub seen_all : (at : ℕ) (a b : SeatView P) → SeenTo at a b → at ≡ a.me.shape.cells
      → SeesOn None a b
  seen_all at a b so last = record {
    found = so.found;
    none_gray = so.none_gray;
    told = subst (λ (xs : List Taken). TellsAll a xs b)
        (sym (append-nil (see_over a.me.part.cursor so.found))) so.told;
    many = so.many ∙ last;
    there = tt;
    control = so.control;
    part = so.part ∙ (λ j. record a.me.part { cursor = last j });
  }
