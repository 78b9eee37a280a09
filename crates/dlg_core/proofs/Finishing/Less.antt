-- Each event leaves the part less that it is for. The lemmas speak of the parts of a state that
-- `left` is read from.
use Rattle.std.proofs.Common.{if◌then◌else◌, ◌≡◌, ◌≢◌, ◌==◌, ℕ, ◌+◌, ◌-◌, ◌*◌, ◌<◌, ◌≤◌, Bool, true}
use Rattle.std.proofs.Common.{false, not, ◌&&◌, cond, List, length, map, get_or, Option, Some}
use Rattle.std.proofs.Common.{None, refl, sym, ap, subst, ◌∙◌, arith, eq-eqb}
use Rattle.std.specs.List.{count_by}
use Rattle.std.proofs.Math.ListN.{set}
use Rattle.std.proofs.lemmas.Bool.{and_from, eqb-true, ne_eqb}
use Rattle.std.proofs.lemmas.List.{length-map}
use Rattle.std.proofs.lemmas.List.Sums.{count_by-le-length, sum_by-set}
use Rattle.std.proofs.lemmas.Nat.{mul-le}
use Rattle.cell_words.specs.declared.colours.Colour.{Colour}
use Rattle.cell_words.specs.declared.colours.Colour.TheVariants as colour
use Rattle.cell_words.specs.declared.fields.Field.{Field}
use Rattle.cell_words.specs.declared.fields.Field.TheVariants as field
use Rattle.core_machine.specs.Collector.{Collector, nobody_answered, passed, restarted, scanned}
use Rattle.core_machine.specs.Collector.{scanning_from, seen, sweep_of, wiped}
use Rattle.core_machine.specs.State.{colour_in}
use Rattle.core_machine.specs.Words.{shaded}
use Rattle.core_machine.specs.declared.progress.Scanning.{Scanning}
use Rattle.core_machine.specs.declared.progress.Sweeping.{Sweeping}
use Rattle.core_machine.specs.declared.progress.Sweeping.TheVariants as sweeping
use Rattle.dlg_core.specs.Left.{cells_left, is_left, place_done, scan_left, trace_left, unanswered}

-- Counts after one element was replaced.

abbrev pub weight : Bool → ℕ
weight b = cond b 1 0

count_set : {X : Type 0} (p : X → Bool) (xs : List X) (i : ℕ) (y d : X) → i < length xs
    → count_by p (set xs i y) + weight (p (get_or xs i d)) ≡ count_by p xs + weight (p y)
count_set p xs i y d within = sum_by-set (λ x. weight (p x)) xs i y d within

-- one mutator less has not answered
pub answered_less : (answered : List Bool) (i : ℕ) → i < length answered
    → get_or answered i true ≡ false
    → unanswered (set answered i true) + 1 ≡ unanswered answered
answered_less answered i within not_yet =
    omega (arith, count_set not answered i true true within, ap (λ b. weight (not b)) not_yet)

-- at the beginning of a handshake
pub nobody_few : (answered : List Bool) → unanswered (nobody_answered answered) ≤ length answered
nobody_few answered =
    omega (
      arith,
      count_by-le-length not (map (λ _. false) answered),
      length-map answered (λ (_ : Bool). false),
    )

-- one cell less is left
pub blackened_less : (colours : List Colour) (c : ℕ) → c < length colours
    → colour_in colours c ≡ colour.Gray
    → cells_left (set colours c colour.Black) + 1 ≡ cells_left colours
blackened_less colours c within gray =
    omega (
      arith,
      count_set is_left colours c colour.Black colour.Blue within,
      ap
          (λ x. weight (is_left x)) gray,
    )

-- so where a cell is gray, one is left
pub gray_left : (colours : List Colour) (c : ℕ) → c < length colours
    → colour_in colours c ≡ colour.Gray
    → 0 < cells_left colours
gray_left colours c within gray = let less = blackened_less colours c within gray in omega arith

shaded_left : (x : Colour) → is_left (shaded x) ≡ is_left x
shaded_left colour.Blue = refl
shaded_left colour.White = refl
shaded_left colour.Gray = refl
shaded_left colour.Black = refl

-- as many are left
pub shaded_same : (colours : List Colour) (c : ℕ) → c < length colours
    → cells_left (set colours c (shaded (colour_in colours c))) ≡ cells_left colours
shaded_same colours c within =
    omega (
      arith,
      count_set is_left colours c (shaded (colour_in colours c)) colour.Blue within,
      ap weight (shaded_left (colour_in colours c)),
    )

-- Passes.

times_more : (j w : ℕ) → (j + 1) * w ≡ j * w + w
times_more j w = omega arith

-- what a cell is worth
one_apart : (k w : ℕ) → 0 < k → k * w ≡ (k - 1) * w + w
one_apart k w some =
    let one : k ≡ (k - 1) + 1 = omega arith in
    ap (λ m. m * w) one ∙ times_more (k - 1) w

met_less : (cells rest p q : ℕ) → q ≡ p + (cells + 12) → p + cells + rest + 11 + 1 ≤ q + rest
met_less cells rest p q apart = omega arith

met_again_less : (cells rest p q : ℕ) → q ≡ p + (cells + 12)
    → p + cells + rest + 11 + 1 ≤ q + cells + rest
met_again_less cells rest p q apart = omega arith

-- a gray cell is met: it pays for a pass and for its scan
gray_less : (cells k : ℕ) (clean : Bool) (cursor cell : ℕ) (scan : Option Scanning) → scan ≡ None
    → 0 < k
    → trace_left cells k false cursor (Some (scanning_from cell)) + 1
    ≤ trace_left cells k clean cursor scan
gray_less cells k true cursor cell None none some =
    met_less cells (cells - cursor) ((k - 1) * (cells + 12)) (k * (cells + 12))
    (one_apart k (cells + 12) some)
gray_less cells k false cursor cell None none some =
    met_again_less cells (cells - cursor) ((k - 1) * (cells + 12)) (k * (cells + 12))
    (one_apart k (cells + 12) some)
gray_less cells k clean cursor cell (Some x) none some = absurd cc

rest_less : (p cells cursor : ℕ) → cursor < cells
    → p + (cells - (cursor + 1)) + 1 ≤ p + (cells - cursor)
rest_less p cells cursor lt = omega arith

-- a pass goes on by one cell
pass_step : (cells k : ℕ) (clean : Bool) (cursor : ℕ) (scan : Option Scanning) → scan ≡ None
    → cursor < cells
    → trace_left cells k clean (cursor + 1) scan + 1 ≤ trace_left cells k clean cursor scan
pass_step cells k true cursor None none lt = rest_less (k * (cells + 12)) cells cursor lt
pass_step cells k false cursor None none lt = rest_less (k * (cells + 12) + cells) cells cursor lt
pass_step cells k clean cursor (Some x) none lt = absurd cc

-- of a collector
abbrev pub trace_of : ℕ → ℕ → Collector → ℕ
trace_of cells k c = trace_left cells k c.clean c.cursor c.scan

passed_less : (cells k : ℕ) (c : Collector) → c.scan ≡ None → c.cursor < cells
    → trace_of cells k (passed c c.cursor) + 1 ≤ trace_of cells k c
passed_less cells k c none lt =
    rw (eq-eqb c.cursor c.cursor refl) (pass_step cells k c.clean c.cursor c.scan none lt)

-- the cell that the pass has come to is looked at
seen_less : (cells k : ℕ) (c : Collector) (found : Colour) → c.scan ≡ None → c.cursor < cells
    → (found ≡ colour.Gray → 0 < k)
    → trace_of cells k (seen c c.cursor found) + 1 ≤ trace_of cells k c
seen_less cells k c colour.Blue none lt some = passed_less cells k c none lt
seen_less cells k c colour.White none lt some = passed_less cells k c none lt
seen_less cells k c colour.Gray none lt some =
    gray_less cells k c.clean c.cursor c.cursor c.scan none (some refl)
seen_less cells k c colour.Black none lt some = passed_less cells k c none lt

-- in a pass that goes on
pub see_on_less : (cells k : ℕ) (c : Collector) (found : Colour) → c.scan ≡ None → c.cursor < cells
    → (found ≡ colour.Gray → 0 < k)
    → trace_of cells k (seen (restarted c cells) c.cursor found) + 1 ≤ trace_of cells k c
see_on_less cells k c found none lt some =
    rw (ne_eqb c.cursor cells (λ e. omega arith)) (seen_less cells k c found none lt some)

pass_whole : (cells k : ℕ) (clean : Bool) (cursor : ℕ) (scan : Option Scanning) → scan ≡ None
    → clean ≡ false
    → cursor ≡ cells → trace_left cells k true 0 scan ≤ trace_left cells k clean cursor scan
pass_whole cells k true cursor scan none unclean end = absurd cc
pass_whole cells k false cursor None none unclean end = whole_less (k * (cells + 12)) cells cursor
  where
    whole_less : (p cells cursor : ℕ) → p + (cells - 0) ≤ p + cells + (cells - cursor)
    whole_less p cells cursor = omega arith
pass_whole cells k false cursor (Some x) none unclean end = absurd cc

restarts : (cells : ℕ) (c : Collector) → c.cursor ≡ cells → c.clean ≡ false
    → record c { cursor = 0; clean = true } ≡ restarted c cells
restarts cells c end unclean =
    sym (ap (λ b. if b then record c { cursor = 0; clean = true } else c)
    (and_from (c.cursor == cells) (not c.clean) (eq-eqb c.cursor cells end) (ap not unclean)))

-- in a pass that starts over
pub see_again_less : (cells k : ℕ) (c : Collector) (found : Colour) → c.scan ≡ None → 0 < cells
    → c.cursor ≡ cells
    → c.clean ≡ false → (found ≡ colour.Gray → 0 < k)
    → trace_of cells k (seen (restarted c cells) 0 found) + 1 ≤ trace_of cells k c
see_again_less cells k c found none room end unclean some =
    let less = seen_less cells k (record c { cursor = 0; clean = true }) found none room some in
    let whole = pass_whole cells k c.clean c.cursor c.scan none unclean end in
    subst (λ d. trace_of cells k (seen d 0 found) + 1 ≤ trace_of cells k c)
    (restarts cells c end unclean)
    (omega arith)

-- A look at a cell of a pass does not pass the last one.

passed_fits : (cells : ℕ) (c : Collector) (cell : ℕ) → cell < cells → c.cursor ≤ cells
    → (passed c cell).cursor ≤ cells
passed_fits cells c cell there fits =
    elim (cell == c.cursor)
    as (λ b. (cell == c.cursor) ≡ b
    → (if b then record c { cursor = c.cursor + 1 } else c).cursor ≤ cells) [
      | true ↦ λ e. let same = eqb-true cell c.cursor e in omega arith
      | false ↦ λ e. fits
    ] refl

seen_plain_fits : (cells : ℕ) (c : Collector) (cell : ℕ) (found : Colour) → cell < cells
    → c.cursor ≤ cells
    → (seen c cell found).cursor ≤ cells
seen_plain_fits cells c cell colour.Blue there fits = passed_fits cells c cell there fits
seen_plain_fits cells c cell colour.White there fits = passed_fits cells c cell there fits
seen_plain_fits cells c cell colour.Gray there fits = fits
seen_plain_fits cells c cell colour.Black there fits = passed_fits cells c cell there fits

restarted_fits : (cells : ℕ) (c : Collector) → c.cursor ≤ cells → (restarted c cells).cursor ≤ cells
restarted_fits cells c fits =
    elim ((c.cursor == cells) && not c.clean)
    as (λ b. (if b then record c { cursor = 0; clean = true } else c).cursor ≤ cells) [
      | true ↦ omega arith
      | false ↦ fits
    ]

pub seen_fits : (cells : ℕ) (c : Collector) (cell : ℕ) (found : Colour) → cell < cells
    → c.cursor ≤ cells
    → (seen (restarted c cells) cell found).cursor ≤ cells
seen_fits cells c cell found there fits =
    seen_plain_fits cells (restarted c cells) cell found there (restarted_fits cells c fits)

-- Scans.

scanned_at : (next : ℕ) (child : Option ℕ) (x : Scanning) (found : Field) → x.next ≡ next
    → x.child ≡ child → next < 5 → child ≡ None
    → scan_left (scanned x found).next (scanned x found).child + 1 ≤ scan_left next child
scanned_at next None x field.Null same nothing lt none = rw (same, nothing) (omega arith)
scanned_at next None x (field.Num n) same nothing lt none = rw (same, nothing) (omega arith)
scanned_at next None x (field.Cell c) same nothing lt none = rw same (omega arith)
scanned_at next (Some child) x found same nothing lt none = absurd cc

-- a field is loaded
pub scanned_less : (x : Scanning) (found : Field) → x.next < 5 → x.child ≡ None
    → scan_left (scanned x found).next (scanned x found).child + 1 ≤ scan_left x.next x.child
scanned_less x found lt none = scanned_at x.next x.child x found refl refl lt none

-- the child is shaded
pub shade_less : (next : ℕ) (child : Option ℕ) (c : ℕ) → child ≡ Some c → next < 5
    → scan_left (next + 1) None + 1 ≤ scan_left next child
shade_less next None c is lt = absurd cc
shade_less next (Some child) c is lt = omega arith

-- a scan that goes on
pub scan_step : (cells k : ℕ) (clean : Bool) (cursor : ℕ) (x y : Scanning)
    → scan_left y.next y.child + 1 ≤ scan_left x.next x.child
    → trace_left cells k clean cursor (Some y) + 1 ≤ trace_left cells k clean cursor (Some x)
scan_step cells k clean cursor x y less =
    more_less ((k - 1) * (cells + 12) + cells + (cells - cursor)) (scan_left y.next y.child)
    (scan_left x.next x.child) less
  where
    more_less : (p a b : ℕ) → a + 1 ≤ b → p + a + 1 ≤ p + b
    more_less p a b less = omega arith

-- and one that ends
pub end_step : (cells j k : ℕ) (clean : Bool) (cursor : ℕ) (x : Scanning) → j + 1 ≡ k
    → clean ≡ false
    → x.child ≡ None
    → trace_left cells j clean cursor None + 1 ≤ trace_left cells k clean cursor (Some x)
end_step cells j k true cursor x one unclean none = absurd cc
end_step cells j k false cursor x one unclean none =
    let same : k - 1 ≡ j = omega arith in
    let last : 1 ≤ scan_left x.next x.child = rw none (omega arith) in
    all_less (j * (cells + 12)) ((k - 1) * (cells + 12)) cells (cells - cursor)
    (scan_left x.next x.child) (ap (λ m. m * (cells + 12)) same) last
  where
    all_less : (p q cells rest a : ℕ) → q ≡ p → 1 ≤ a
        → p + cells + rest + 1 ≤ q + cells + rest + a
    all_less p q cells rest a same last = omega arith

-- a whole tracing, where no cell is under scan
pub trace_few : (cells k cursor : ℕ) (scan : Option Scanning) → scan ≡ None → k ≤ cells
    → trace_left cells k true cursor scan ≤ cells * (cells + 12) + cells
trace_few cells k cursor None none few =
    all_few (k * (cells + 12)) (cells * (cells + 12)) cells cursor
    (mul-le k (cells + 12) cells (cells + 12) few (omega arith))
  where
    all_few : (p q cells cursor : ℕ) → p ≤ q → p + (cells - cursor) ≤ q + cells
    all_few p q cells cursor few = omega arith
trace_few cells k cursor (Some x) none few = absurd cc

scan_most : (next : ℕ) (child : Option ℕ) → scan_left next child ≤ 11
scan_most next None = omega arith
scan_most next (Some c) = omega arith

-- any tracing
pub trace_most : (cells k : ℕ) (clean : Bool) (cursor : ℕ) (scan : Option Scanning) → k ≤ cells
    → trace_left cells k clean cursor scan ≤ cells * (cells + 12) + 2 * cells + 11
trace_most cells k clean cursor scan few =
    most clean scan (mul-le k (cells + 12) cells (cells + 12) few (omega arith))
    (mul-le (k - 1) (cells + 12) cells (cells + 12) (omega arith) (omega arith))
  where
    all : (p q a cells cursor : ℕ) → p ≤ q → a ≤ 11
        → p + cells + (cells - cursor) + a ≤ q + 2 * cells + 11
    all p q a cells cursor less few = omega arith

    most : (clean : Bool) (scan : Option Scanning)
        → k * (cells + 12) ≤ cells * (cells + 12)
        → (k - 1) * (cells + 12) ≤ cells * (cells + 12)
        → trace_left cells k clean cursor scan ≤ cells * (cells + 12) + 2 * cells + 11
    most true None less fewer =
        let some = all (k * (cells + 12)) (cells * (cells + 12)) 0 cells cursor less
        (omega arith) in
        omega arith
    most false None less fewer =
        let some = all (k * (cells + 12)) (cells * (cells + 12)) 0 cells cursor less
        (omega arith) in
        omega arith
    most clean (Some x) less fewer =
        all ((k - 1) * (cells + 12)) (cells * (cells + 12)) (scan_left x.next x.child) cells cursor
        fewer (scan_most x.next x.child)

-- The sweep: more of the cell's events are done.

-- where the cell is one of those that are left
pub place_step : (rest old new : ℕ) → 9 ≤ rest → old + 1 ≤ new → new ≤ 8
    → (rest - new) + 1 + 1 ≤ (rest - old) + 1
place_step rest old new room more few = omega arith

pub advance_step : (cells position : ℕ) → position < cells
    → (9 * (cells - (position + 1)) - 0) + 1 + 1 ≤ (9 * (cells - position) - 8) + 1
advance_step cells position lt = omega arith

-- an event on the cell at the position
pub record DoesMore (old new : Sweeping) : Type 0 where
  pub more : place_done old + 1 ≤ place_done new
  pub few : place_done new ≤ 8

pub looked_more : (found : Colour) → found ≢ colour.Gray → DoesMore sweeping.Fresh (sweep_of found)
looked_more colour.Blue other = record { more = omega arith; few = omega arith }
looked_more colour.White other = record { more = omega arith; few = omega arith }
looked_more colour.Gray other = absurd (other refl)
looked_more colour.Black other = record { more = omega arith; few = omega arith }

pub wiped_more : (k : ℕ) → k < 6 → DoesMore (sweeping.Wiping k) (wiped (sweeping.Wiping k))
wiped_more k lt = record { more = omega arith; few = omega arith }

pub freed_more : (k : ℕ) → k ≤ 6 → DoesMore (sweeping.Wiping k) sweeping.Done
freed_more k le = record { more = omega arith; few = omega arith }

pub whitened_more : DoesMore sweeping.BlackFound sweeping.Done
whitened_more = record { more = omega arith; few = omega arith }
