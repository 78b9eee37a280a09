-- Where the collector goes on alone and nothing is spilled, tracing takes two passes.
--
-- A gray cell waits on the stack, or the pass has still to come to it, or it is under scan: a scan
-- pushes what it shades, and no look leaves a gray cell behind. So none is gray at the end of the
-- first pass, which met the anchor; and the second one meets none.
use Rattle.std.proofs.Common.{◌≡◌, ◌≢◌, ◌<◌, ◌≤◌, ◌+◌, ◌==◌, ◌&&◌, ◌⊎◌, inl, inr, ℕ}
use Rattle.std.proofs.Common.{Bool, true, false, not, cond, List, [], ◌∷◌, length, Option}
use Rattle.std.proofs.Common.{Some}
use Rattle.std.proofs.Common.{None, is_none, if◌then◌else◌, refl, sym, ◌∙◌, ap, subst, arith}
use Rattle.std.proofs.Common.{add_assoc}
use Rattle.std.proofs.Common.{eq-eqb, eqb-true, ne_eqb}
use Rattle.std.proofs.lemmas.Bool.{and_parts, cases_eq, cases_lt, false≢true, ltb-true}
use Rattle.std.proofs.lemmas.List.{get_or_past}
use Rattle.std.specs.List.{list_all}
use Rattle.std.specs.Prelude.{slice_set}
use Rattle.cell_words.specs.declared.colours.Colour.{Colour}
use Rattle.cell_words.specs.declared.colours.Colour.TheVariants as colour
use Rattle.cell_words.specs.declared.controls.Stage.{Stage}
use Rattle.cell_words.specs.declared.controls.Stage.TheVariants as stage
use Rattle.cell_words.specs.declared.fields.Field.{Field}
use Rattle.cell_words.specs.declared.fields.Field.TheVariants as field
use Rattle.core_machine.specs.Collector.{Collector, answered_by, on_scan, passed, restarted}
use Rattle.core_machine.specs.Collector.{collector_after, scan_shaded, scanned, scanning_from}
use Rattle.core_machine.specs.Collector.{seen}
use Rattle.core_machine.specs.InRange.{IsShaped, ScanFits, StageFits}
use Rattle.core_machine.specs.Next.{after, can, found_by, maker}
use Rattle.core_machine.specs.State.{State, colour_in, colour_of}
use Rattle.core_machine.specs.Run.{Runs, last}
use Rattle.core_machine.specs.Sweep.{is_black_found, is_fresh, may_free, may_wipe}
use Rattle.core_machine.specs.Tracing.{child_of, may_blacken, may_scan, may_shade}
use Rattle.core_machine.specs.Tracing.{scan_or_none}
use Rattle.core_machine.specs.Words.{is_gray, shaded}
use Rattle.core_machine.specs.declared.events.Event.{Event}
use Rattle.core_machine.specs.declared.events.Event.TheVariants as event
use Rattle.core_machine.specs.declared.events.Found.{Found}
use Rattle.core_machine.specs.declared.events.Taken.{Taken}
use Rattle.core_machine.specs.declared.progress.Scanning.{Scanning}
use Rattle.core_machine.specs.declared.progress.Sweeping.{Sweeping}
use Rattle.core_machine.specs.declared.progress.Sweeping.TheVariants as sweeping
use Rattle.core_machine.proofs.Conditions.{same_stage_is}
use Rattle.core_machine.proofs.Frames.{as_large, collector_framed}
use Rattle.core_machine.proofs.Ranges.Events.{after_shaped}
use Rattle.dlg_core.specs.Consistent.{IsConsistent}
use Rattle.dlg_core.specs.Collects.{AreOver}
use Rattle.dlg_core.specs.Facts.{anchor_counts, is_cleared, is_live, unswept}
use Rattle.dlg_core.proofs.Collects.Quiet.{nobody_makes, over_after, over_idle}
use Rattle.dlg_core.proofs.Each.{colour_each, colour_else}
use Rattle.dlg_core.proofs.Step.{consistent_after}
use Rattle.collector.specs.Counting.{goes_on}
use Rattle.collector.specs.Replay.{Work, count_along, ends_pass, is_shade, looks_next, sees_last}
use Rattle.collector.specs.Replay.{spills, stack_after, strays, work_after}
use Rattle.collector.specs.Stack.{Stack, down_to, has_room, looked_at, next_of, pushed, top_or}
use Rattle.collector.specs.Stack.{without}

-- A cell waits on the stack, or the pass has still to come to it, or it is under scan.

abbrev In : ℕ → List ℕ → Type 0
In x [] = ⊥
In x (y ∷ ys) = (y ≡ x) ⊎ In x ys

abbrev IsScanned : Option Scanning → ℕ → Type 0
IsScanned None x = ⊥
IsScanned (Some scan) x = scan.cell ≡ x

abbrev Near : List ℕ → ℕ → Option Scanning → ℕ → Type 0
Near st cursor scan x = In x st ⊎ ((cursor ≤ x) ⊎ IsScanned scan x)

-- In the first pass.
record First (colours : List Colour) (n cursor : ℕ) (clean : Bool) (scan : Option Scanning)
    (st : List ℕ) (k : ℕ) : Type 0 where
  none : k ≡ 0
  goes : cursor < n
  unclean : clean ≡ true → (cursor ≡ 0) × (colour_in colours 0 ≡ colour.Gray)
  near : (x : ℕ) → colour_in colours x ≡ colour.Gray → Near st cursor scan x

-- How far the passes after it are.
abbrev Counted : ℕ → ℕ → Bool → ℕ → Type 0
Counted n cursor clean k =
    ((k ≡ 1) × (cursor ≡ n) × (clean ≡ false))
    ⊎ (((k ≡ 1) × (cursor < n) × (clean ≡ true)) ⊎ ((k ≡ 2) × (cursor ≡ n) × (clean ≡ true)))

record Later (colours : List Colour) (n cursor : ℕ) (clean : Bool) (scan : Option Scanning)
    (st : List ℕ) (k : ℕ) : Type 0 where
  no_gray : (x : ℕ) → colour_in colours x ≢ colour.Gray
  empty : st ≡ []
  no_scan : scan ≡ None
  counted : Counted n cursor clean k

abbrev Traces : List Colour → ℕ → Collector → List ℕ → ℕ → Type 0
Traces colours n c st k =
    First colours n c.cursor c.clean c.scan st k ⊎ Later colours n c.cursor c.clean c.scan st k

abbrev PhaseAt : Stage → List Colour → ℕ → Collector → List ℕ → ℕ → Type 0
PhaseAt stage.Idle colours n c st k = ⊥
PhaseAt stage.Sync1 colours n c st k = k ≡ 0
PhaseAt stage.Clear colours n c st k = k ≡ 0
PhaseAt stage.Sync2 colours n c st k = k ≡ 0
PhaseAt stage.Trace colours n c st k = Traces colours n c st k
PhaseAt stage.Sweep colours n c st k = k ≡ 2

abbrev Phase : State → List ℕ → ℕ → Type 0
Phase s st k = PhaseAt s.control.stage s.colours s.cells s.collector st k

-- The stack.

next_in_on : (at x y : ℕ) (ys : List ℕ) (b : Bool) → (y == at) ≡ b
    → top_or at (if b then without at ys else y ∷ ys) ≡ at → In x (y ∷ ys)
    → (next_of at ys ≡ at → In x ys → x ≡ at) → x ≡ at
next_in_on at x y ys true is next (inl same) rest = sym same ∙ eqb-true y at is
next_in_on at x y ys true is next (inr later) rest = rest next later
next_in_on at x y ys false is next here rest = absurd (false≢true (sym is ∙ eq-eqb y at next))

-- where the next cell is the one that the pass has come to, no other one is on the stack
next_in : (at x : ℕ) (st : List ℕ) → next_of at st ≡ at → In x st → x ≡ at
next_in at x [] next here = absurd here
next_in at x (y ∷ ys) next here =
    next_in_on at x y ys (y == at) refl next here (λ n h. next_in at x ys n h)

left_on : (c x y : ℕ) (ys : List ℕ) (b : Bool) → (y == c) ≡ b → In x (y ∷ ys)
    → (In x ys → In x (without c ys) ⊎ (x ≡ c))
    → In x (if b then without c ys else y ∷ ys) ⊎ (x ≡ c)
left_on c x y ys true is (inl same) rest = inr (sym same ∙ eqb-true y c is)
left_on c x y ys true is (inr later) rest = rest later
left_on c x y ys false is here rest = inl here

left : (c x : ℕ) (st : List ℕ) → In x st → In x (without c st) ⊎ (x ≡ c)
left c x [] here = absurd here
left c x (y ∷ ys) here = left_on c x y ys (y == c) refl here (λ h. left c x ys h)

abbrev Looked : ℕ → ℕ → ℕ → List ℕ → Type 0
Looked at c x rest = In x rest ⊎ ((x ≡ at) ⊎ (x ≡ c))

looked_here : (at c x y : ℕ) (ys : List ℕ) → (y == c) ≡ true → In x (y ∷ ys)
    → Looked at c x (without c (y ∷ ys))
looked_here at c x y ys is here = elim (left c x (y ∷ ys) here) [
  | inl stays ↦ inl stays
  | inr gone ↦ inr (inr gone)
]

looked_past : (at c x y : ℕ) (ys rest : List ℕ) (b : Bool) → (y == c) ≡ false → (y == at) ≡ b
    → c ≡ top_or at (if b then without at ys else y ∷ ys) → In x (y ∷ ys)
    → (c ≡ next_of at ys → In x ys → Looked at c x rest) → Looked at c x rest
looked_past at c x y ys rest true other is next (inl same) later =
    inr (inl (sym same ∙ eqb-true y at is))
looked_past at c x y ys rest true other is next (inr deeper) later = later next deeper
looked_past at c x y ys rest false other is next here later =
    absurd (false≢true (sym other ∙ eq-eqb y c (sym next)))

looked_on : (at c x y : ℕ) (ys : List ℕ) (b : Bool) → (y == c) ≡ b
    → c ≡ next_of at (y ∷ ys) → In x (y ∷ ys)
    → (c ≡ next_of at ys → In x ys → Looked at c x (without c (down_to c ys)))
    → Looked at c x (without c (if b then y ∷ ys else down_to c ys))
looked_on at c x y ys true is next here later = looked_here at c x y ys is here
looked_on at c x y ys false is next here later =
    looked_past at c x y ys (without c (down_to c ys)) (y == at) is refl next here later

-- A look at the next cell: what it takes from the stack is this cell, or the one that the pass has
-- come to.
looked : (at c x : ℕ) (st : List ℕ) → c ≡ next_of at st → In x st
    → Looked at c x (without c (down_to c st))
looked at c x [] next here = absurd here
looked at c x (y ∷ ys) next here =
    looked_on at c x y ys (y == c) refl next here (λ n h. looked at c x ys n h)

-- where the pass itself has come to the cell, the look leaves nothing
emptied_on : (at y : ℕ) (ys : List ℕ) (b : Bool) → (y == at) ≡ b
    → top_or at (if b then without at ys else y ∷ ys) ≡ at
    → (next_of at ys ≡ at → without at ys ≡ [])
    → (if b then without at ys else y ∷ ys) ≡ []
emptied_on at y ys true is next later = later next
emptied_on at y ys false is next later = absurd (false≢true (sym is ∙ eq-eqb y at next))

leaves_none : (at : ℕ) (st : List ℕ) → next_of at st ≡ at → without at st ≡ []
leaves_none at [] next = refl
leaves_none at (y ∷ ys) next =
    emptied_on at y ys (y == at) refl next (λ n. leaves_none at ys n)

all_gone_on : (at y : ℕ) (ys : List ℕ) (b : Bool) → (y == at) ≡ b
    → top_or at (if b then without at ys else y ∷ ys) ≡ at
    → (if b then without at ys else y ∷ ys) ≡ []
    → without at (if b then y ∷ ys else down_to at ys) ≡ []
all_gone_on at y ys true is next none =
    ap (λ (b : Bool). if b then without at ys else y ∷ ys) is ∙ none
all_gone_on at y ys false is next none = absurd (false≢true (sym is ∙ eq-eqb y at next))

all_gone : (at : ℕ) (st : List ℕ) → next_of at st ≡ at → without at (down_to at st) ≡ []
all_gone at [] next = refl
all_gone at (y ∷ ys) next =
    all_gone_on at y ys (y == at) refl next (leaves_none at (y ∷ ys) next)

-- The collector's part at a look.

not_restarted : (c : Collector) (n : ℕ) → ((c.cursor == n) && not c.clean) ≡ false
    → restarted c n ≡ c
not_restarted c n is =
    ap (λ (b : Bool). if b then record c { cursor = 0; clean = true } else c) is

and_first : (a b : Bool) → a ≡ false → (a && b) ≡ false
and_first a b is = ap (λ (x : Bool). x && b) is

below_stays : (c : Collector) (n : ℕ) → c.cursor < n → restarted c n ≡ c
below_stays c n lt =
    not_restarted c n
    (and_first (c.cursor == n) (not c.clean) (ne_eqb c.cursor n (omega (arith, lt))))

clean_stays : (c : Collector) (n : ℕ) → c.clean ≡ true → restarted c n ≡ c
clean_stays c n clean = not_restarted c n (by_test (c.cursor == n))
  where
    by_test : (b : Bool) → (b && not c.clean) ≡ false
    by_test true = ap not clean
    by_test false = refl

starts_over : (c : Collector) (n : ℕ) → c.cursor ≡ n → c.clean ≡ false
    → restarted c n ≡ record c { cursor = 0; clean = true }
starts_over c n at clean =
    ap (λ (b : Bool). if b then record c { cursor = 0; clean = true } else c)
    (λ j. eq-eqb c.cursor n at j && not (clean j))

passed_here : (c : Collector) (x : ℕ) → x ≡ c.cursor
    → passed c x ≡ record c { cursor = c.cursor + 1 }
passed_here c x is =
    ap (λ (b : Bool). if b then record c { cursor = c.cursor + 1 } else c) (eq-eqb x c.cursor is)

passed_else : (c : Collector) (x : ℕ) → x ≢ c.cursor → passed c x ≡ c
passed_else c x other =
    ap (λ (b : Bool). if b then record c { cursor = c.cursor + 1 } else c) (ne_eqb x c.cursor other)

-- whether a pass ends with a look that goes by the cell
abbrev ends : ℕ → ℕ → ℕ → Bool
ends at c n = (c == at) && (c + 1 == n)

-- The first pass goes on, or is over and the second begins.

module _ (colours : List Colour) (n : ℕ) (c : Collector) (st : List ℕ) (x : ℕ)
    (fit : length colours ≡ n) (lt : x < n) (is_next : x ≡ next_of c.cursor st)
    (no_scan : c.scan ≡ None) (not_gray : colour_in colours x ≢ colour.Gray)
    (so : First colours n c.cursor c.clean c.scan st 0) where
  no_scanned : (y : ℕ) → ¬ (IsScanned c.scan y)
  no_scanned y scanned = subst (λ (scan : Option Scanning). IsScanned scan y) no_scan scanned

  there : (y : ℕ) → colour_in colours y ≡ colour.Gray → y < n
  there y gray = elim (cases_lt y n) [
    | inl below ↦ below
    | inr past ↦ absurd (
        let none : colour_in colours y ≡ colour.Blue =
        get_or_past colours y colour.Blue (omega (arith, past, fit)) in
        let no = sym none ∙ gray in cc)
  ]

  -- the look was at the cell that the pass has come to
  here_near : x ≡ c.cursor → (y : ℕ) → colour_in colours y ≡ colour.Gray → c.cursor + 1 ≤ y
  here_near here y gray =
      let other : y ≢ x = (λ e. not_gray
      (sym (ap (λ (z : ℕ). colour_in colours z) e) ∙ gray)) in
      elim (so.near y gray) [
        | inl waits ↦ absurd (other (next_in c.cursor y st (sym is_next ∙ here) waits ∙ sym here))
        | inr rest ↦ elim rest [
          | inl ahead ↦
              let apart : y ≢ c.cursor = (λ e. other (e ∙ sym here)) in
              omega (arith, ahead, apart)
          | inr scanned ↦ absurd (no_scanned y scanned)
        ]
      ]

  here_unclean : x ≡ c.cursor → c.clean ≡ true → ⊥
  here_unclean here clean =
      let first = so.unclean clean in
      not_gray (ap (λ (z : ℕ). colour_in colours z) (here ∙ first.0) ∙ first.1)

  here_goes : x ≡ c.cursor → c.cursor + 1 < n
      → First colours n (c.cursor + 1) c.clean c.scan (without x (down_to x st)) 0
  here_goes here more = record {
    none = refl;
    goes = more;
    unclean = λ clean. absurd (here_unclean here clean);
    near = λ y gray. inr (inl (here_near here y gray));
  }

  here_ends : x ≡ c.cursor → c.cursor + 1 ≡ n
      → Later colours n (c.cursor + 1) c.clean c.scan (without x (down_to x st)) 1
  here_ends here last = record {
    no_gray = λ y gray.
        let below = there y gray in
        let ahead = here_near here y gray in
        absurd (omega (arith, below, ahead, last));
    empty = ap (λ (z : ℕ). without z (down_to z st)) here
        ∙ all_gone c.cursor st (sym is_next ∙ here);
    no_scan = no_scan;
    counted = inl (refl, last, by_clean c.clean refl);
  }
    where
      by_clean : (b : Bool) → c.clean ≡ b → c.clean ≡ false
      by_clean true is = absurd (here_unclean here is)
      by_clean false is = is

  -- or it was at another one
  else_goes : First colours n c.cursor c.clean c.scan (without x (down_to x st)) 0
  else_goes = record {
    none = refl;
    goes = so.goes;
    unclean = so.unclean;
    near = λ y gray. elim (so.near y gray) [
      | inl waits ↦ elim (looked c.cursor x y st is_next waits) [
        | inl stays ↦ inl stays
        | inr gone ↦ elim gone [
          | inl at ↦ inr (inl (omega (arith, at)))
          | inr seen ↦ absurd (not_gray
              (sym (ap (λ (z : ℕ). colour_in colours z) seen) ∙ gray))
        ]
      ]
      | inr rest ↦ inr rest
    ];
  }

  passes_first : Traces colours n (passed c x) (without x (down_to x st))
      (0 + cond (ends c.cursor x n) 1 0)
  passes_first = elim (cases_eq x c.cursor) [
    | inl here ↦
        subst (λ (d : Collector). Traces colours n d (without x (down_to x st))
        (0 + cond (ends c.cursor x n) 1 0)) (sym (passed_here c x here))
        (elim (cases_eq (x + 1) n) [
          | inl last ↦
              subst (λ (b : Bool). Traces colours n (record c { cursor = c.cursor + 1 })
              (without x (down_to x st)) (0 + cond b 1 0))
              (sym (λ j. eq-eqb x c.cursor here j && eq-eqb (x + 1) n last j))
              (inr (here_ends here (omega (arith, here, last))))
          | inr more ↦
              subst (λ (b : Bool). Traces colours n (record c { cursor = c.cursor + 1 })
              (without x (down_to x st)) (0 + cond b 1 0))
              (sym (λ j. eq-eqb x c.cursor here j && ne_eqb (x + 1) n more j))
              (inl (here_goes here (omega (arith, here, more, lt))))
        ])
    | inr other ↦
        subst (λ (d : Collector). Traces colours n d (without x (down_to x st))
        (0 + cond (ends c.cursor x n) 1 0)) (sym (passed_else c x other))
        (subst (λ (b : Bool). Traces colours n c (without x (down_to x st)) (0 + cond b 1 0))
        (sym (and_first (x == c.cursor) (x + 1 == n) (ne_eqb x c.cursor other)))
        (inl else_goes))
  ]

-- A gray cell is under scan from then on.
scans_first : (colours : List Colour) (n : ℕ) (c : Collector) (st : List ℕ) (x : ℕ)
    → x ≡ next_of c.cursor st → c.scan ≡ None
    → First colours n c.cursor c.clean c.scan st 0
    → First colours n c.cursor false (Some (record { cell = x; next = 0; child = None }))
    (without x (down_to x st)) 0
scans_first colours n c st x next no_scan so = record {
  none = refl;
  goes = so.goes;
  unclean = λ no. absurd (false≢true no);
  near = λ y gray. elim (so.near y gray) [
    | inl waits ↦ elim (looked c.cursor x y st next waits) [
      | inl stays ↦ inl stays
      | inr gone ↦ elim gone [
        | inl at ↦ inr (inl (omega (arith, at)))
        | inr seen ↦ inr (inr (sym seen))
      ]
    ]
    | inr rest ↦ elim rest [
      | inl ahead ↦ inr (inl ahead)
      | inr scanned ↦ absurd
          (subst (λ (scan : Option Scanning). IsScanned scan y) no_scan scanned)
    ]
  ];
}

-- The second pass.
goes_later : (colours : List Colour) (n : ℕ) (c : Collector) (x : ℕ) → c.cursor < n
    → c.clean ≡ true → c.scan ≡ None → x ≡ c.cursor
    → ((y : ℕ) → colour_in colours y ≢ colour.Gray)
    → Later colours n (c.cursor + 1) c.clean c.scan [] (1 + cond (ends c.cursor x n) 1 0)
goes_later colours n c x lt clean no_scan here no_gray = elim (cases_eq (x + 1) n) [
  | inl last ↦ record {
    no_gray = no_gray;
    empty = refl;
    no_scan = no_scan;
    counted = inr (inr (
      ap (λ (b : Bool). 1 + cond b 1 0)
          (λ j. eq-eqb x c.cursor here j && eq-eqb (x + 1) n last j),
      omega (arith, here, last),
      clean,
    ));
  }
  | inr more ↦ record {
    no_gray = no_gray;
    empty = refl;
    no_scan = no_scan;
    counted = inr (inl (
      ap (λ (b : Bool). 1 + cond b 1 0)
          (λ j. eq-eqb x c.cursor here j && ne_eqb (x + 1) n more j),
      omega (arith, here, more, lt),
      clean,
    ));
  }
]

later_on : (colours : List Colour) (n k x : ℕ) (c d : Collector) → restarted c n ≡ d
    → d.cursor < n → d.clean ≡ true → d.scan ≡ None → k ≡ 1 → x ≡ (restarted c n).cursor
    → ((y : ℕ) → colour_in colours y ≢ colour.Gray)
    → Traces colours n (passed (restarted c n) x) []
    (k + cond (ends (restarted c n).cursor x n) 1 0)
later_on colours n k x c d is lt clean no_scan one here no_gray =
    let now : x ≡ d.cursor = here ∙ ap (λ (e : Collector). e.cursor) is in
    subst (λ (j : ℕ). Traces colours n (passed (restarted c n) x) []
    (j + cond (ends (restarted c n).cursor x n) 1 0)) (sym one)
    (subst (λ (e : Collector). Traces colours n (passed e x) []
    (1 + cond (ends e.cursor x n) 1 0)) (sym is)
    (subst (λ (e : Collector). Traces colours n e [] (1 + cond (ends d.cursor x n) 1 0))
    (sym (passed_here d x now)) (inr (goes_later colours n d x lt clean no_scan now no_gray))))

module _ (colours : List Colour) (n : ℕ) (c : Collector) (st : List ℕ) (k x : ℕ)
    (fit : length colours ≡ n) (lt : x < n) (no_scan : c.scan ≡ None)
    (is_next : x ≡ next_of (restarted c n).cursor st) where
  passes_on : colour_in colours x ≢ colour.Gray → Traces colours n c st k
      → Traces colours n (passed (restarted c n) x) (without x (down_to x st))
      (k + cond (ends (restarted c n).cursor x n) 1 0)
  passes_on not_gray (inl so) =
      subst (λ (j : ℕ). Traces colours n (passed (restarted c n) x) (without x (down_to x st))
      (j + cond (ends (restarted c n).cursor x n) 1 0)) (sym so.none)
      (subst (λ (d : Collector). x ≡ next_of d.cursor st
      → Traces colours n (passed d x) (without x (down_to x st))
      (0 + cond (ends d.cursor x n) 1 0)) (sym (below_stays c n so.goes))
      (λ next. passes_first colours n c st x fit lt next no_scan not_gray
      (subst (λ (j : ℕ). First colours n c.cursor c.clean c.scan st j) so.none so)) is_next)
  passes_on not_gray (inr so) =
      let at : x ≡ (restarted c n).cursor =
      is_next ∙ ap (λ (ys : List ℕ). next_of (restarted c n).cursor ys) so.empty in
      subst (λ (ys : List ℕ). Traces colours n (passed (restarted c n) x) (without x (down_to x ys))
      (k + cond (ends (restarted c n).cursor x n) 1 0)) (sym so.empty)
      (elim so.counted [
        | inl one ↦ later_on colours n k x c (record c { cursor = 0; clean = true })
            (starts_over c n one.1 one.2) (omega (arith, lt)) refl no_scan one.0 at so.no_gray
        | inr more ↦ elim more [
          | inl two ↦ later_on colours n k x c c (clean_stays c n two.2) two.1 two.2 no_scan two.0
              at so.no_gray
          | inr done ↦ absurd (
              let past : x ≡ c.cursor =
              at ∙ ap (λ (d : Collector). d.cursor) (clean_stays c n done.2) in
              omega (arith, past, done.1, lt))
        ]
      ])

  scans_on : colour_in colours x ≡ colour.Gray → Traces colours n c st k
      → Traces colours n (record (restarted c n) { clean = false; scan = Some (scanning_from x) })
      (without x (down_to x st)) (k + 0)
  scans_on gray (inl so) =
      subst (λ (j : ℕ). Traces colours n
      (record (restarted c n) { clean = false; scan = Some (scanning_from x) })
      (without x (down_to x st)) (j + 0)) (sym so.none)
      (subst (λ (d : Collector). x ≡ next_of d.cursor st
      → Traces colours n (record d { clean = false; scan = Some (scanning_from x) })
      (without x (down_to x st)) 0) (sym (below_stays c n so.goes))
      (λ next. inl (scans_first colours n c st x next no_scan
      (subst (λ (j : ℕ). First colours n c.cursor c.clean c.scan st j) so.none so))) is_next)
  scans_on gray (inr so) = absurd (so.no_gray x gray)

  sees_on : (found : Colour) → colour_in colours x ≡ found → Traces colours n c st k
      → Traces colours n (seen (restarted c n) x found) (without x (down_to x st))
      (k + cond (not (is_gray found) && ends (restarted c n).cursor x n) 1 0)
  sees_on colour.Blue is so = passes_on (λ gray. let no = sym is ∙ gray in cc) so
  sees_on colour.White is so = passes_on (λ gray. let no = sym is ∙ gray in cc) so
  sees_on colour.Gray is so = scans_on is so
  sees_on colour.Black is so = passes_on (λ gray. let no = sym is ∙ gray in cc) so

-- A scan.

scanned_cell : (scan : Option Scanning) (found : Field) (y : ℕ) → IsScanned scan y
    → IsScanned (on_scan (λ s. scanned s found) scan) y
scanned_cell None found y is = is
scanned_cell (Some scan) field.Null y is = is
scanned_cell (Some scan) (field.Num k) y is = is
scanned_cell (Some scan) (field.Cell d) y is = is

shaded_cell : (scan : Option Scanning) (y : ℕ) → IsScanned scan y
    → IsScanned (on_scan scan_shaded scan) y
shaded_cell None y is = is
shaded_cell (Some scan) y is = is

scan_traces : (colours : List Colour) (n : ℕ) (c : Collector) (st : List ℕ) (k : ℕ) (found : Field)
    → may_scan c.scan ≡ true → Traces colours n c st k
    → Traces colours n (record c { scan = on_scan (λ s. scanned s found) c.scan }) st (k + 0)
scan_traces colours n c st k found may (inl so) = inl (record {
  none = omega (arith, so.none);
  goes = so.goes;
  unclean = so.unclean;
  near = λ y gray. elim (so.near y gray) [
    | inl waits ↦ inl waits
    | inr rest ↦ elim rest [
      | inl ahead ↦ inr (inl ahead)
      | inr here ↦ inr (inr (scanned_cell c.scan found y here))
    ]
  ];
})
scan_traces colours n c st k found may (inr so) =
    absurd (false≢true (sym (ap may_scan so.no_scan) ∙ may))

shade_traces : (colours : List Colour) (n : ℕ) (c : Collector) (st : List ℕ) (k child : ℕ)
    → may_shade c.scan ≡ true → c.clean ≡ false → Traces colours n c st k
    → Traces (slice_set colours child (shaded (colour_in colours child))) n
    (record c { scan = on_scan scan_shaded c.scan }) (child ∷ st) (k + 0)
shade_traces colours n c st k child may unclean (inl so) = inl (record {
  none = omega (arith, so.none);
  goes = so.goes;
  unclean = λ clean. absurd (false≢true (sym unclean ∙ clean));
  near = colour_each (λ y found. found ≡ colour.Gray
      → Near (child ∷ st) c.cursor (on_scan scan_shaded c.scan) y) colours child
      (shaded (colour_in colours child)) (λ gray. inl (inl refl))
      (λ y gray. elim (so.near y gray) [
        | inl waits ↦ inl (inr waits)
        | inr rest ↦ elim rest [
          | inl ahead ↦ inr (inl ahead)
          | inr here ↦ inr (inr (shaded_cell c.scan y here))
        ]
      ]);
})
shade_traces colours n c st k child may unclean (inr so) =
    absurd (false≢true (sym (ap may_shade so.no_scan) ∙ may))

blacken_traces : (colours : List Colour) (n : ℕ) (c : Collector) (st : List ℕ) (k : ℕ)
    (scan : Scanning) → c.scan ≡ Some scan → scan.cell < length colours → c.clean ≡ false
    → Traces colours n c st k
    → Traces (slice_set colours scan.cell colour.Black) n (record c { scan = None }) st (k + 0)
blacken_traces colours n c st k scan is there unclean (inl so) = inl (record {
  none = omega (arith, so.none);
  goes = so.goes;
  unclean = λ clean. absurd (false≢true (sym unclean ∙ clean));
  near = colour_else (λ y found. found ≡ colour.Gray → Near st c.cursor None y) colours scan.cell
      colour.Black there (λ gray. let no = gray in absurd cc)
      (λ y other gray. elim (so.near y gray) [
        | inl waits ↦ inl waits
        | inr rest ↦ elim rest [
          | inl ahead ↦ inr (inl ahead)
          | inr here ↦ absurd (other (sym
              (subst (λ (sc : Option Scanning). IsScanned sc y) is here)))
        ]
      ]);
})
blacken_traces colours n c st k scan is there unclean (inr so) =
    absurd (let no = sym so.no_scan ∙ is in cc)

-- Events.

answered_phase : (g : Stage) (colours : List Colour) (n : ℕ) (c : Collector) (st : List ℕ) (k i : ℕ)
    (b : Bool) → PhaseAt g colours n c st k → PhaseAt g colours n (answered_by c i b) st k
answered_phase g colours n c st k i false so = so
answered_phase stage.Idle colours n c st k i true so = so
answered_phase stage.Sync1 colours n c st k i true so = so
answered_phase stage.Clear colours n c st k i true so = so
answered_phase stage.Sync2 colours n c st k i true so = so
answered_phase stage.Trace colours n c st k i true so = so
answered_phase stage.Sweep colours n c st k i true so = so

busy_sweeps : (n position : ℕ) (sweep : Sweeping) (g : Stage) → StageFits n position sweep g
    → is_fresh sweep ≡ false → g ≡ stage.Sweep
busy_sweeps n position sweep stage.Sweep fits busy = refl
busy_sweeps n position sweep stage.Idle fits busy =
    absurd (false≢true (sym busy ∙ ap is_fresh fits.1))
busy_sweeps n position sweep stage.Sync1 fits busy =
    absurd (false≢true (sym busy ∙ ap is_fresh fits.1))
busy_sweeps n position sweep stage.Clear fits busy =
    absurd (false≢true (sym busy ∙ ap is_fresh fits.1))
busy_sweeps n position sweep stage.Sync2 fits busy =
    absurd (false≢true (sym busy ∙ ap is_fresh fits.1))
busy_sweeps n position sweep stage.Trace fits busy =
    absurd (false≢true (sym busy ∙ ap is_fresh fits.1))

anchor_gray : (s : State) → IsConsistent s → s.control.stage ≡ stage.Sync2
    → s.collector.anchor_marked ≡ true → colour_of s 0 ≡ colour.Gray
anchor_gray s k sync2 marked = by_colour (colour_of s 0) refl
  where
    not_white : colour_of s 0 ≢ colour.White
    not_white = k.tracing.anchor_marked
        (ap (λ (g : Stage). anchor_counts g s.collector.anchor_marked) sync2 ∙ marked)

    not_black : colour_of s 0 ≢ colour.Black
    not_black = k.tracing.cleared 0 (ap (λ (g : Stage). is_cleared g s.collector.cursor 0) sync2)

    by_colour : (x : Colour) → colour_of s 0 ≡ x → colour_of s 0 ≡ colour.Gray
    by_colour colour.Blue is = absurd (false≢true
        (sym (ap (λ (x : Colour). is_live x (unswept s.control s.collector.sweep 0)) is)
        ∙ k.cells.anchor_live))
    by_colour colour.White is = absurd (not_white is)
    by_colour colour.Gray is = is
    by_colour colour.Black is = absurd (not_black is)

add_none : (k : ℕ) → k + 0 ≡ k
add_none k = omega arith

none_is : (scan : Option Scanning) → is_none scan ≡ true → scan ≡ None
none_is None h = refl
none_is (Some scan) h = absurd (false≢true h)

there_is : (may : Option Scanning → Bool) → may None ≡ false → (scan : Option Scanning)
    → may scan ≡ true → (x : Scanning) × (scan ≡ Some x)
there_is may none None h = absurd (false≢true (sym none ∙ h))
there_is may none (Some scan) h = (scan, refl)

not_false : (b : Bool) → not b ≡ false → b ≡ true
not_false true h = refl
not_false false h = absurd (false≢true (sym h))

wipes_busy : (sweep : Sweeping) → may_wipe sweep ≡ true → is_fresh sweep ≡ false
wipes_busy sweeping.Fresh h = absurd (false≢true h)
wipes_busy (sweeping.Wiping k) h = refl
wipes_busy sweeping.BlackFound h = absurd (false≢true h)
wipes_busy sweeping.Done h = absurd (false≢true h)

frees_busy : (sweep : Sweeping) → may_free sweep ≡ true → is_fresh sweep ≡ false
frees_busy sweeping.Fresh h = absurd (false≢true h)
frees_busy (sweeping.Wiping k) h = refl
frees_busy sweeping.BlackFound h = absurd (false≢true h)
frees_busy sweeping.Done h = absurd (false≢true h)

whitens_busy : (sweep : Sweeping) → is_black_found sweep ≡ true → is_fresh sweep ≡ false
whitens_busy sweeping.Fresh h = absurd (false≢true h)
whitens_busy (sweeping.Wiping k) h = absurd (false≢true h)
whitens_busy sweeping.BlackFound h = refl
whitens_busy sweeping.Done h = absurd (false≢true h)

-- how far the work is in this state, with this stack
abbrev pub work_at : State → Stack → Work
work_at s st = record { cells = s.cells; control = s.control; part = s.collector; stack = st }

module _ (s : State) (st : Stack) (k : ℕ) (shaped : IsShaped s) (consistent : IsConsistent s)
    (so : Phase s st.cells k) where
  abbrev now : Stage → Type 0
  now g = PhaseAt g s.colours s.cells s.collector st.cells k

  so_at : (g : Stage) → s.control.stage ≡ g → now g
  so_at g is = subst now is so

  as_before : {j : ℕ} → k ≡ j → k + 0 ≡ j
  as_before is = omega (arith, is)

  post_phase : (target : Stage) → can s (event.Post target) ≡ true
      → goes_on (event.Post target) ≡ true
      → Phase (after s (event.Post target)) st.cells (k + 0)
  post_phase stage.Idle may on = absurd (false≢true on)
  post_phase stage.Sync1 may on =
      absurd (so_at stage.Idle (same_stage_is s.control.stage stage.Idle (and_parts _ _ may).0))
  post_phase stage.Clear may on =
      as_before (so_at stage.Sync1
      (same_stage_is s.control.stage stage.Sync1 (and_parts _ _ may).0))
  post_phase stage.Sync2 may on =
      as_before (so_at stage.Clear
      (same_stage_is s.control.stage stage.Clear (and_parts _ _ may).0))
  post_phase stage.Trace may on =
      let parts = and_parts _ _ may in
      let sync2 = same_stage_is s.control.stage stage.Sync2 (and_parts _ _ parts.0).0 in
      let early = so_at stage.Sync2 sync2 in
      inl (record {
        none = omega (arith, early);
        goes = shaped.cells_fit.some_cells;
        unclean = λ clean. (refl, anchor_gray s consistent sync2 parts.1);
        near = λ y gray. inr (inl (omega arith));
      })
  post_phase stage.Sweep may on =
      let parts = and_parts _ _ may in
      let more = and_parts _ _ parts.0 in
      let rest = and_parts _ _ (and_parts _ _ more.0).0 in
      let at_end : s.collector.cursor ≡ s.cells =
      eqb-true s.collector.cursor s.cells more.1 in
      let trace = so_at stage.Trace
      (same_stage_is s.control.stage stage.Trace rest.0) in
      elim trace [
        | inl first ↦ absurd (let goes = first.goes in omega (arith, goes, at_end))
        | inr later ↦ elim later.counted [
          | inl one ↦ absurd (false≢true (sym one.2 ∙ parts.1))
          | inr two ↦ elim two [
            | inl goes ↦ absurd (let lt = goes.1 in omega (arith, lt, at_end))
            | inr done ↦ omega (arith, done.0)
          ]
        ]
      ]

  -- at a stage that the event's condition has
  by_stage : (colours : List Colour) (c : Collector) (ys : List ℕ) (j : ℕ) (g : Stage)
      → s.control.stage ≡ g → PhaseAt g colours s.cells c ys j
      → PhaseAt s.control.stage colours s.cells c ys j
  by_stage colours c ys j g is there =
      subst (λ (x : Stage). PhaseAt x colours s.cells c ys j) (sym is) there

  sweeps_now : is_fresh s.collector.sweep ≡ false → s.control.stage ≡ stage.Sweep
  sweeps_now busy = busy_sweeps s.cells s.control.position s.collector.sweep s.control.stage
      shaped.control_fits.stage_fits busy

  abbrev work_in : Work
  work_in = work_at s st

  see_phase : (x : ℕ) (found : Found) → can s (event.See x) ≡ true
      → found ≡ found_by s (event.See x)
      → looks_next work_in (event.See x) ≡ true
      → Phase (after s (event.See x)) (looked_at x st).cells
      (k + cond (sees_last work_in (event.See x) found) 1 0)
  see_phase x found may is next =
      let parts = and_parts _ _ may in
      let more = and_parts _ _ parts.0 in
      let trace = same_stage_is s.control.stage stage.Trace (and_parts _ _ more.0).0 in
      subst (λ (f : Found). Phase (after s (event.See x)) (looked_at x st).cells
      (k + cond (sees_last work_in (event.See x) f) 1 0)) (sym is)
      (by_stage _ _ _ _ stage.Trace trace
      (sees_on s.colours s.cells s.collector st.cells k x shaped.cells_fit.colours_fit
      (ltb-true x s.cells parts.1) (none_is s.collector.scan more.1)
      (eqb-true x (next_of (restarted s.collector s.cells).cursor st.cells) next)
      (colour_of s x) refl (so_at stage.Trace trace)))

  shade_phase : can s event.Shade ≡ true → (true && not (has_room st)) ≡ false
      → Phase (after s event.Shade) (pushed (child_of s) st).cells (k + 0)
  shade_phase may room =
      let scan = there_is may_shade refl s.collector.scan may in
      let tracing = consistent.tracing.scans scan.0 scan.1 in
      subst (λ (b : Bool). Phase (after s event.Shade)
      (if b then record st { cells = child_of s ∷ st.cells } else st).cells (k + 0))
      (sym (not_false (has_room st) room))
      (by_stage _ _ _ _ stage.Trace tracing.traces
      (shade_traces s.colours s.cells s.collector st.cells k (child_of s) may tracing.unclean
      (so_at stage.Trace tracing.traces)))

  blacken_phase : can s event.Blacken ≡ true → Phase (after s event.Blacken) st.cells (k + 0)
  blacken_phase may =
      let scan = there_is may_blacken refl s.collector.scan may in
      let tracing = consistent.tracing.scans scan.0 scan.1 in
      let fits : scan.0.cell < s.cells =
      (subst (λ (sc : Option Scanning). ScanFits s.cells sc) scan.1 shaped.names_fit.scan_fits).0 in
      by_stage _ _ _ _ stage.Trace tracing.traces
      (subst (λ (x : ℕ). Traces (slice_set s.colours x colour.Black) s.cells
      (record s.collector { scan = None }) st.cells (k + 0))
      (sym (ap (λ (sc : Option Scanning). (scan_or_none sc).cell) scan.1))
      (blacken_traces s.colours s.cells s.collector st.cells k scan.0 scan.1
      (let fit = shaped.cells_fit.colours_fit in omega (arith, fits, fit)) tracing.unclean
      (so_at stage.Trace tracing.traces)))

  scan_phase : can s event.Scan ≡ true → Phase (after s event.Scan) st.cells (k + 0)
  scan_phase may =
      let scan = there_is may_scan refl s.collector.scan may in
      let tracing = consistent.tracing.scans scan.0 scan.1 in
      by_stage _ _ _ _ stage.Trace tracing.traces
      (scan_traces s.colours s.cells s.collector st.cells k _ may
      (so_at stage.Trace tracing.traces))

  in_sweep : (colours : List Colour) (c : Collector) → s.control.stage ≡ stage.Sweep
      → PhaseAt s.control.stage colours s.cells c st.cells (k + 0)
  in_sweep colours c is = by_stage _ _ _ _ stage.Sweep is (as_before (so_at stage.Sweep is))

  answered : {c : Collector} (i : ℕ) (b : Bool) → c ≡ answered_by s.collector i b
      → PhaseAt s.control.stage s.colours s.cells c st.cells (k + 0)
  answered {c} i b is =
      subst (λ (x : Collector × ℕ). PhaseAt s.control.stage s.colours s.cells x.0 st.cells x.1)
      (λ j. (sym is j, sym (add_none k) j))
      (answered_phase s.control.stage s.colours s.cells s.collector st.cells k i b so)

  phase_on : (e : Event) (found : Found) → maker e ≡ None → can s e ≡ true
      → found ≡ found_by s e → goes_on e ≡ true → looks_next work_in e ≡ true
      → (is_shade e && not (has_room st)) ≡ false
      → Phase (after s e) (stack_after st s.collector e).cells
      (k + cond (sees_last work_in e found) 1 0)
  phase_on (event.Begin i) found made may is on next room = let no = made in absurd cc
  phase_on (event.Look i) found made may is on next room = let no = made in absurd cc
  phase_on (event.Read i place f) found made may is on next room = let no = made in absurd cc
  phase_on (event.Fetch i place f) found made may is on next room = let no = made in absurd cc
  phase_on (event.Mark i place) found made may is on next room = let no = made in absurd cc
  phase_on (event.Write i place f old new) found made may is on next room =
      let no = made in absurd cc
  phase_on (event.Store i new) found made may is on next room = let no = made in absurd cc
  phase_on (event.Claim i c) found made may is on next room = let no = made in absurd cc
  phase_on (event.Fill i place f value) found made may is on next room =
      let no = made in absurd cc
  phase_on (event.Seal i place of) found made may is on next room = let no = made in absurd cc
  phase_on (event.Answer i) found made may is on next room = let no = made in absurd cc
  phase_on (event.Keep i n from copies) found made may is on next room =
      let no = made in absurd cc
  phase_on (event.End i) found made may is on next room = let no = made in absurd cc
  phase_on (event.Over i) found made may is on next room = let no = made in absurd cc
  phase_on (event.Post target) found made may is on next room = post_phase target may on
  phase_on (event.Duty b) found made may is on next room = absurd (false≢true on)
  phase_on (event.Poll i) found made may is on next room = answered i _ refl
  phase_on (event.AnswerOut i over) found made may is on next room = answered i _ refl
  phase_on event.ClearCell found made may is on next room =
      let clear = same_stage_is s.control.stage stage.Clear (and_parts _ _ may).0 in
      by_stage _ _ _ _ stage.Clear clear (as_before (so_at stage.Clear clear))
  phase_on event.Anchor found made may is on next room =
      let sync2 = same_stage_is s.control.stage stage.Sync2 (and_parts _ _ may).0 in
      by_stage _ _ _ _ stage.Sync2 sync2 (as_before (so_at stage.Sync2 sync2))
  phase_on (event.See x) found made may is on next room = see_phase x found may is next
  phase_on event.Scan found made may is on next room = scan_phase may
  phase_on event.Shade found made may is on next room = shade_phase may room
  phase_on event.Blacken found made may is on next room = blacken_phase may
  phase_on event.SweepLook found made may is on next room =
      in_sweep _ _ (same_stage_is s.control.stage stage.Sweep
      (and_parts _ _ (and_parts _ _ (and_parts _ _ may).0).0).0)
  phase_on event.Wipe found made may is on next room =
      in_sweep _ _ (sweeps_now (wipes_busy s.collector.sweep may))
  phase_on event.Free found made may is on next room =
      in_sweep _ _ (sweeps_now (frees_busy s.collector.sweep may))
  phase_on event.Whiten found made may is on next room =
      in_sweep _ _ (sweeps_now (whitens_busy s.collector.sweep may))
  phase_on event.Advance found made may is on next room =
      in_sweep _ _
      (same_stage_is s.control.stage stage.Sweep (and_parts _ _ (and_parts _ _ may).0).0)

-- Along a run.

pub work_goes : (s : State) (st : Stack) (t : Taken) → maker t.event ≡ None
    → t.found ≡ found_by s t.event
    → work_after (work_at s st) t
    ≡ work_at (after s t.event) (stack_after st s.collector t.event)
work_goes s st t made is =
    let framed = collector_framed s t.event made in λ j. record {
      cells = sym (as_large s t.event).cells j;
      control = sym framed.control j;
      part = (ap (λ (f : Found). collector_after s.cells s.control s.collector t.event f) is
          ∙ sym framed.collector) j;
      stack = stack_after st s.collector t.event;
    }

none_of : (b : Bool) (m : ℕ) → cond b 1 0 + m ≡ 0 → (b ≡ false) × (m ≡ 0)
none_of true m is = absurd (omega (arith, is))
none_of false m is = (refl, omega (arith, is))

phases : (s : State) (ts : List Taken) (st : Stack) (k : ℕ) → IsShaped s → IsConsistent s
    → AreOver s → Runs s ts → list_all (λ (t : Taken). goes_on t.event) ts ≡ true
    → count_along strays (work_at s st) ts ≡ 0 → count_along spills (work_at s st) ts ≡ 0
    → Phase s st.cells k
    → (end : List ℕ) × Phase (last s ts) end (k + count_along ends_pass (work_at s st) ts)
phases s [] st k shaped consistent over runs on straight room so =
    (st.cells, subst (λ (j : ℕ). Phase s st.cells j) (sym (add_none k)) so)
phases s (t ∷ ts) st k shaped consistent over runs on straight room so =
    let goes = and_parts (goes_on t.event) (list_all (λ (u : Taken). goes_on u.event) ts) on in
    let w = work_at s st in
    let first = none_of (strays w t) _ straight in
    let spare = none_of (spills w t) _ room in
    let made : maker t.event ≡ None =
    nobody_makes (maker t.event) (λ i. over_idle s t.event i (over i) runs.0) in
    let later = work_goes s st t made runs.1 in
    let more = stack_after st s.collector t.event in
    let rest = phases (after s t.event) ts more (k + cond (ends_pass w t) 1 0)
    (after_shaped s t.event shaped runs.0) (consistent_after s t.event shaped consistent runs.0)
    (λ i. over_after s t.event i (λ by. let no = sym made ∙ by in absurd cc) (over i)) runs.2 goes.1
    (sym (ap (λ (x : Work). count_along strays x ts) later) ∙ first.1)
    (sym (ap (λ (x : Work). count_along spills x ts) later) ∙ spare.1)
    (phase_on s st k shaped consistent so t.event t.found made runs.0 runs.1 goes.0
    (not_false (looks_next w t.event) first.0) spare.0) in (
      rest.0,
      subst (λ (j : ℕ). Phase (last s (t ∷ ts)) rest.0 j)
          (add_assoc k (cond (ends_pass w t) 1 0) (count_along ends_pass (work_at (after s t.event)
          more) ts)
          ∙ sym (ap (λ (x : Work).
          k + (cond (ends_pass w t) 1 0 + count_along ends_pass x ts)) later))
          rest.1,
    )

pub two_passes : (s : State) (ts : List Taken) (st : Stack) → IsShaped s → IsConsistent s
    → AreOver s → Runs s ts → list_all (λ (t : Taken). goes_on t.event) ts ≡ true
    → count_along strays (work_at s st) ts ≡ 0 → count_along spills (work_at s st) ts ≡ 0
    → s.control.stage ≡ stage.Sync1 → (last s ts).control.stage ≡ stage.Sweep
    → count_along ends_pass (work_at s st) ts ≡ 2
two_passes s ts st shaped consistent over runs on straight room sync1 sweep =
    let so = phases s ts st 0 shaped consistent over runs on straight room
    (subst (λ (g : Stage). PhaseAt g s.colours s.cells s.collector st.cells 0) (sym sync1) refl) in
    let done : 0 + count_along ends_pass (work_at s st) ts ≡ 2 =
    subst (λ (g : Stage). PhaseAt g (last s ts).colours (last s ts).cells (last s ts).collector so.0
    (0 + count_along ends_pass (work_at s st) ts)) sweep so.1 in
    omega (arith, done)
