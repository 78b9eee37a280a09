-- Runs of events that the seat was told in one call, as stretches.
use Rattle.std.proofs.Common.{◌≡◌, ◌<◌, ◌≤◌, ◌+◌, ◌==◌, ◌&&◌, ℕ, Bool, true, false, not}
use Rattle.std.proofs.Common.{Option, Some, None, is_none, List, [], ◌∷◌, ◌++◌, length, inl, inr}
use Rattle.std.proofs.Common.{refl, sym, ◌∙◌, ap, subst, arith, eq-eqb, ne_eqb}
use Rattle.std.proofs.lemmas.Bool.{and_parts, cases_lt, not-true}
use Rattle.std.proofs.lemmas.List.Folds.{list_all-append}
use Rattle.std.specs.List.{list_all}
use Rattle.std.specs.Prelude.{IfSome}
use Rattle.cell_heap.specs.Runs.{TellsAll, cell_or, clear_over, finds_gray, finds_white, see_over}
use Rattle.cell_heap.specs.Runs.{sweep_at, sweep_over}
use Rattle.cell_heap.specs.Telling.{FindsKnown, collector_tells}
use Rattle.cell_heap.proofs.InARow.{goes_by, goes_on}
use Rattle.cell_words.specs.declared.colours.Colour.{Colour}
use Rattle.cell_words.specs.declared.colours.Colour.TheVariants as colour
use Rattle.core_machine.specs.Collector.{Collector, restarted}
use Rattle.core_machine.specs.Words.{is_gray}
use Rattle.core_machine.specs.declared.events.Event.TheVariants as event
use Rattle.core_machine.specs.declared.events.Found.TheVariants as finds
use Rattle.core_machine.specs.declared.events.Taken.{Taken}
use Rattle.heap_rule.specs.Rule.{took}
use Rattle.collector.specs.Bound.{Bound, cells_of, part_of, takes}
use Rattle.collector.specs.Counting.{Does, goes_on as ends_none, nothing, passes_one}
use Rattle.collector.specs.Stack.{down_to, looked_at, next_of, without}
use Rattle.collector.proofs.Counted.{is_still}
use Rattle.collector.proofs.Joining.{does_after, does_none, does_still}
use Rattle.collector.proofs.Scanning.{does_look}

-- it counts for nothing, and ends no cycle
abbrev pub stays_on : Taken → Bool
stays_on t = ends_none t.event && is_still t.event

abbrev pub all_stay_on : List Taken → Bool
all_stay_on events = list_all (λ (t : Taken). stays_on t) events

pub stay_append : (xs ys : List Taken) → all_stay_on xs ≡ true → all_stay_on ys ≡ true
    → all_stay_on (xs ++ ys) ≡ true
stay_append xs ys first second =
    list_all-append (λ (t : Taken). stays_on t) xs ys
    ∙ ap (λ (b : Bool). b && all_stay_on ys) first
    ∙ second

module _ {P : Type 0} where
  pub does_run : (a b : Bound P) (xs : List Taken) → b.heap ≡ a.heap → b.stack ≡ a.stack
      → TellsAll a.seat xs b.seat → all_stay_on xs ≡ true → Does nothing a b
  does_run a b [] heap stack told on =
      let same : a ≡ b =
      (λ j. record { heap = sym heap j; seat = sym told j; stack = sym stack j }) in
      subst (λ (x : Bound P). Does nothing a x) same (does_none a)
  does_run a b (x ∷ xs) heap stack told on =
      let parts = and_parts (stays_on x) (all_stay_on xs) on in
      let one = and_parts (ends_none x.event) (is_still x.event) parts.0 in
      let m = takes a x.event x.found in
      does_after nothing a m b
      (does_still a m x.event x.found one.0 one.1 refl told.0)
      (does_run m b xs heap stack told.1 parts.1)

-- The sweep.

one_stays : (k : Colour) → all_stay_on (sweep_at k ++ took event.Advance finds.Stored ∷ []) ≡ true
one_stays colour.Blue = refl
one_stays colour.White = refl
one_stays colour.Gray = refl
one_stays colour.Black = refl

over_stays : (ks : List Colour) → all_stay_on (sweep_over ks) ≡ true
over_stays [] = refl
over_stays (k ∷ ks) =
    stay_append (sweep_at k ++ took event.Advance finds.Stored ∷ []) (sweep_over ks) (one_stays k)
    (over_stays ks)

white_stays : (white : Option ℕ) → all_stay_on (finds_white white) ≡ true
white_stays None = refl
white_stays (Some cell) = refl

pub sweep_stays : (ks : List Colour) (white : Option ℕ)
    → all_stay_on (sweep_over ks ++ finds_white white) ≡ true
sweep_stays ks white =
    stay_append (sweep_over ks) (finds_white white) (over_stays ks) (white_stays white)

-- Clearing.

pub clear_stays : (ks : List Colour) → all_stay_on (clear_over ks) ≡ true
clear_stays [] = refl
clear_stays (k ∷ ks) = clear_stays ks

-- A pass of tracing, while nothing waits on the stack.

cell_fits : (gray : Option ℕ) (cells : ℕ) → IfSome gray (λ cell. cell < cells)
    → cell_or gray cells ≤ cells
cell_fits None cells there = omega arith
cell_fits (Some cell) cells there = omega (arith, there)

module _ {P : Type 0} where
  empty_is : (a : Bound P) (cell : ℕ) → a.stack.cells ≡ []
      → a ≡ record a { stack = looked_at cell a.stack }
  empty_is a cell empty = λ j. record a {
    stack = record a.stack {
      cells = (empty ∙ sym (ap (λ (xs : List ℕ). without cell (down_to cell xs)) empty)) j;
    };
  }

  next_is : (a : Bound P) (cell : ℕ) → (part_of a).cursor ≡ cell → cell < cells_of a
      → a.stack.cells ≡ []
      → cell ≡ next_of (restarted (part_of a) (cells_of a)).cursor a.stack.cells
  next_is a cell is there empty =
      sym is
      ∙ sym (ap (λ (x : Collector). x.cursor) (goes_on (part_of a) (cells_of a) cell is there))
      ∙ sym (ap (λ (xs : List ℕ). next_of (restarted (part_of a) (cells_of a)).cursor xs) empty)

  -- a look at a cell that is not gray, by the pass that has come to it
  look_by : (a : Bound P) (cell : ℕ) (k : Colour) → (part_of a).cursor ≡ cell
      → cell < cells_of a → a.stack.cells ≡ [] → is_gray k ≡ false
      → FindsKnown a.seat.me (event.See cell) (finds.Colour k)
      → Does (passes_one (cell + 1 == cells_of a)) a (takes a (event.See cell) (finds.Colour k))
  look_by a cell k is there empty other known =
      does_look a a (takes a (event.See cell) (finds.Colour k)) cell (finds.Colour k)
      (cell + 1 == cells_of a) (empty_is a cell empty) refl known
      (next_is a cell is there empty)
      (ap (λ (b : Bool). not b
      && ((cell == (restarted (part_of a) (cells_of a)).cursor) && (cell + 1 == cells_of a))) other
      ∙ ap (λ (b : Bool). b && (cell + 1 == cells_of a))
      (eq-eqb cell _ (sym is
      ∙ sym (ap (λ (x : Collector). x.cursor) (goes_on (part_of a) (cells_of a) cell is there)))))

  -- and at a gray one
  look_gray : (a b : Bound P) (cell : ℕ) → (part_of a).cursor ≡ cell → cell < cells_of a
      → a.stack.cells ≡ [] → b ≡ takes a (event.See cell) (finds.Colour colour.Gray)
      → FindsKnown a.seat.me (event.See cell) (finds.Colour colour.Gray) → Does nothing a b
  look_gray a b cell is there empty told known =
      does_look a a b cell (finds.Colour colour.Gray) false (empty_is a cell empty) told known
      (next_is a cell is there empty) refl

  bound_is : (a b : Bound P) (cell : ℕ) (k : Colour) → b.heap ≡ a.heap → b.stack ≡ a.stack
      → b.seat ≡ collector_tells a.seat (event.See cell) (finds.Colour k)
      → b ≡ takes a (event.See cell) (finds.Colour k)
  bound_is a b cell k heap stack told =
      λ j. record { heap = heap j; seat = told j; stack = stack j }

  -- the last look of a run
  look_last : (ks : List Colour) (cell : ℕ) (k : Colour) (gray : Option ℕ) (a b : Bound P)
      → (part_of a).cursor ≡ cell → cell < cells_of a → cells_of a ≤ cell + 1
      → a.stack.cells ≡ [] → is_gray k ≡ false
      → FindsKnown a.seat.me (event.See cell) (finds.Colour k)
      → cell + length (k ∷ ks) ≡ cell_or gray (cells_of a)
      → IfSome gray (λ c. c < cells_of a) → b.heap ≡ a.heap → b.stack ≡ a.stack
      → TellsAll (collector_tells a.seat (event.See cell) (finds.Colour k))
      (see_over (cell + 1) ks ++ finds_gray gray) b.seat
      → Does (passes_one (is_none gray)) a b
  look_last [] cell k None a b is there last empty other known many within heap stack told =
      let ends : (cell + 1 == cells_of a) ≡ true =
      eq-eqb (cell + 1) (cells_of a) (omega (arith, there, last)) in
      subst (λ (x : Bound P). Does (passes_one true) a x)
      (sym (bound_is a b cell k heap stack told))
      (subst (λ (x : Bool). Does (passes_one x) a (takes a (event.See cell) (finds.Colour k))) ends
      (look_by a cell k is there empty other known))
  look_last [] cell k (Some c) a b is there last empty other known many within heap stack told =
      absurd (omega (arith, many, within, last))
  look_last (x ∷ xs) cell k gray a b is there last empty other known many within heap stack told =
      absurd (omega (arith, many, cell_fits gray (cells_of a) within, last))

  pub does_see : (ks : List Colour) (cell : ℕ) (gray : Option ℕ) (a b : Bound P)
      → (part_of a).cursor ≡ cell → cell < cells_of a → a.stack.cells ≡ []
      → list_all (λ found. not (is_gray found)) ks ≡ true
      → cell + length ks ≡ cell_or gray (cells_of a)
      → IfSome gray (λ c. c < cells_of a) → b.heap ≡ a.heap → b.stack ≡ a.stack
      → TellsAll a.seat (see_over cell ks ++ finds_gray gray) b.seat
      → Does (passes_one (is_none gray)) a b
  does_see [] cell None a b is there empty none many within heap stack told =
      absurd (omega (arith, many, there))
  does_see [] cell (Some c) a b is there empty none many within heap stack told =
      let here : cell ≡ c = omega (arith, many) in
      look_gray a b c (is ∙ here) within empty (bound_is a b c colour.Gray heap stack told.1)
      told.0
  does_see (k ∷ ks) cell gray a b is there empty none many within heap stack told =
      let parts = and_parts (not (is_gray k)) (list_all (λ found. not (is_gray found)) ks) none in
      let other = not-true (is_gray k) parts.0 in
      elim (cases_lt (cell + 1) (cells_of a)) [
        | inl more ↦
            let m = takes a (event.See cell) (finds.Colour k) in
            let goes : (cell + 1 == cells_of a) ≡ false =
            ne_eqb (cell + 1) (cells_of a) (omega (arith, more)) in
            does_after (passes_one (is_none gray)) a m b
            (subst (λ (x : Bool). Does (passes_one x) a m) goes
            (look_by a cell k is there empty other told.0))
            (does_see ks (cell + 1) gray m b
            (ap (λ (x : Collector). x.cursor)
            (goes_by (part_of a) (cells_of a) cell k is there other))
            more empty parts.1 (omega (arith, many)) within heap stack told.1)
        | inr last ↦
            look_last ks cell k gray a b is there last empty other told.0 many within heap stack
            told.1
      ]
