-- Where a claim found the heap full, each cell that is no first row was claimed.
--
-- The stretch of that claim found each cell used. So an event of the run did, and the cell was a
-- first row or was claimed before it (FoundUsedWasClaimed). A claim gets one cell, so there are as
-- many claims that got one as cells that were claimed; and each of them is counted.
use Rattle.std.proofs.Common.{◌≡◌, ◌≢◌, ◌<◌, ◌≤◌, ◌+◌, ◌==◌}
use Rattle.std.proofs.Common.{◌⊎◌, ◌++◌, ◌∙◌, ℕ, Bool, true, false, cond, List}
use Rattle.std.proofs.Common.{[], ◌∷◌, length, Option, Some, inl, inr, refl, sym, ap}
use Rattle.std.proofs.Common.{subst, arith}
use Rattle.std.specs.List.{list_any}
use Rattle.std.proofs.lemmas.Bool.{and_parts, eqb-true, or_cases, or_left, or_right}
use Rattle.std.proofs.lemmas.List.{get_or_append_left, length-append}
use Rattle.std.proofs.lemmas.List.Folds.{list_any-append, list_any_at}
use mathlib.Core.Option.{some}
use lib.ListN.{get_elem?}
use Rattle.cell_words.specs.declared.colours.Colour.{Colour}
use Rattle.cell_words.specs.declared.colours.Colour.TheVariants as colour
use Rattle.closed_heap.proofs.Counting.{below_all}
use Rattle.closed_heap.proofs.Getting.{claims_along, gets_cell, gets_this, got_few}
use Rattle.closed_heap.proofs.Getting.{start_claims, start_paired}
use Rattle.core_machine.specs.declared.events.Event.{Event}
use Rattle.core_machine.specs.declared.events.Event.TheVariants as event
use Rattle.core_machine.specs.declared.events.Found.{Found}
use Rattle.core_machine.specs.declared.events.Found.TheVariants as finds
use Rattle.core_machine.specs.declared.events.Taken.{Taken}
use Rattle.core_machine.specs.Next.{maker}
use Rattle.core_machine.specs.Own.{no_own}
use Rattle.core_machine.specs.Run.{last}
use Rattle.core_machine.specs.Trail.{same_maker, trail_of}
use Rattle.dlg_core.specs.Sums.{IsClaimed, claims_of}
use Rattle.heap_rule.specs.Boxes.{Map}
use Rattle.heap_rule.specs.Laws.{Ended, FoundUsedWasClaimed}
use Rattle.heap_rule.specs.Shape.{Shape, start}
use Rattle.heap_rule.specs.declared.view.Place.TheVariants as places
use Rattle.heap_rule.specs.declared.view.Share.{Share}
use Rattle.heap_rule.specs.declared.view.View.{View}
use Rattle.trails.specs.Claims.{IsFull, claims_used, finds_used, found_used, is_used}
use Rattle.trails.specs.Marks.{Mark, looked, marks_of}
use Rattle.trails.proofs.Claims.{used_shown}

-- what some event of a trail did some event of the run did
of_trail : (p : Taken → Bool) (who : Option ℕ) (ts : List Taken)
    → list_any p (trail_of who ts) ≡ true → list_any p ts ≡ true
of_trail p who [] any = any
of_trail p who (t ∷ ts) any =
    by_maker (same_maker who (maker t.event)) (λ there. of_trail p who ts there) any
  where
    by_maker : (b : Bool) → (list_any p (trail_of who ts) ≡ true → list_any p ts ≡ true)
        → list_any p (cond b (t ∷ trail_of who ts) (trail_of who ts)) ≡ true
        → list_any p (t ∷ ts) ≡ true
    by_maker true on any = elim (or_cases (p t) (list_any p (trail_of who ts)) any) [
      | inl here ↦ or_left (p t) (list_any p ts) here
      | inr there ↦ or_right (p t) (list_any p ts) (on there)
    ]
    by_maker false on any = or_right (p t) (list_any p ts) (on any)

-- an event of the list passes
record Passes (p : Taken → Bool) (ts : List Taken) : Type 0 where
  before : List Taken
  passing : Taken
  later : List Taken
  split : ts ≡ before ++ (passing ∷ later)
  passes : p passing ≡ true

passes_there : (p : Taken → Bool) (ts : List Taken) → list_any p ts ≡ true → Passes p ts
passes_there p [] any = absurd cc
passes_there p (t ∷ ts) any = elim (or_cases (p t) (list_any p ts) any) [
  | inl here ↦ record { before = []; passing = t; later = ts; split = refl; passes = here }
  | inr there ↦
      let rest = passes_there p ts there in
      record {
        before = t ∷ rest.before;
        passing = rest.passing;
        later = rest.later;
        split = ap (λ (us : List Taken). t ∷ us) rest.split;
        passes = rest.passes;
      }
]

-- a claim that found the cell used
record TriesUsed (c : ℕ) (e : Event) (found : Found) : Type 0 where
  claimer : ℕ
  shade : Colour
  claims : e ≡ event.Claim claimer c
  found_is : found ≡ finds.Colour shade
  used : shade ≢ colour.Blue

not_blue : (x : Colour) → is_used x ≡ true → x ≢ colour.Blue
not_blue colour.Blue is e = absurd cc
not_blue x is e = absurd cc

tries_used : (c : ℕ) (e : Event) (found : Found) → claims_used c e found ≡ true
    → TriesUsed c e found
tries_used c (event.Claim i d) (finds.Colour x) is =
    let parts = and_parts (d == c) (is_used x) is in
    record {
      claimer = i;
      shade = x;
      claims = ap (λ (n : ℕ). event.Claim i n) (eqb-true d c parts.0);
      found_is = refl;
      used = not_blue x parts.1;
    }
tries_used c e found is = absurd cc

-- what was claimed in the first of the events was so in all of them
claimed_on : (ts before later : List Taken) (t : Taken) (c : ℕ) → ts ≡ before ++ (t ∷ later)
    → IsClaimed before c → IsClaimed ts c
claimed_on ts before later t c split is =
    let there = is.2 in
    let more = length-append before (t ∷ later) in
    let lt : is.0 < length (before ++ (t ∷ later)) = omega (arith, there, more) in
    subst (λ (us : List Taken). IsClaimed us c) (sym split) (
      is.0,
      is.1,
      lt,
      get_or_append_left before (t ∷ later) is.1 is.0 there ∙ is.3,
      is.4,
    )

-- some event got what was claimed
claimed_got : (ts : List Taken) (c : ℕ) → IsClaimed ts c → list_any (gets_this c) ts ≡ true
claimed_got ts c is =
    list_any_at (gets_this c) ts is.0 is.1 is.2
    (ap (λ (u : Taken). gets_this c u) is.3 ∙ gets_cell c is.1 is.4)

-- the stretch found the cell used, and so the trail has such an event
used_in_trail : (cells c : ℕ) (trail : List Taken) (before stretch after : List Mark)
    → marks_of trail ≡ before ++ (stretch ++ after) → IsFull cells stretch → c < cells
    → list_any (finds_used c) trail ≡ true
used_in_trail cells c trail before stretch after split full lt =
    let p = found_used c in
    let found : list_any p full.after ≡ true = full.all_used c lt in
    let inner : list_any p stretch ≡ true =
    ap (λ (ms : List Mark). list_any p ms) full.look
    ∙ list_any-append p full.before (looked full.control ∷ full.after)
    ∙ or_right (list_any p full.before) (list_any p (looked full.control ∷ full.after)) found in
    let outer : list_any p (stretch ++ after) ≡ true =
    list_any-append p stretch after ∙ or_left (list_any p stretch) (list_any p after) inner in
    let whole : list_any p (marks_of trail) ≡ true =
    ap (λ (ms : List Mark). list_any p ms) split
    ∙ list_any-append p before (stretch ++ after)
    ∙ or_right (list_any p before) (list_any p (stretch ++ after)) outer in
    sym (used_shown no_own c trail) ∙ whole

-- a cell that was found used is a first row, or was claimed
claimed_or_first : (h : Shape) (run : List Taken) (c : ℕ) → FoundUsedWasClaimed h run
    → list_any (finds_used c) run ≡ true → (c < length h.first) ⊎ IsClaimed run c
claimed_or_first h run c claimed any =
    let is = passes_there (finds_used c) run any in
    let tries = tries_used c is.passing.event is.passing.found is.passes in
    elim (claimed is.before is.later is.passing tries.claimer c tries.shade is.split tries.claims
    tries.found_is tries.used) [
      | inl first ↦ inl first
      | inr before ↦ inr (claimed_on run is.before is.later is.passing c is.split before)
    ]

module _ {S P : Type 0} {opens : ℕ → ℕ → P} {holding : Map → List P → Type 0} {fixed : ℕ → Bool}
    (h : Shape) (words : List ℕ) (v : View P) (ended : Ended opens holding fixed h S words v)
    (i : ℕ) (share : Share P) (before stretch after : List Mark)
    (at : get_elem? v.places i ≡ some (places.Joined share))
    (split : marks_of share.trail ≡ before ++ (stretch ++ after))
    (full : IsFull h.cells stretch) where
  -- each cell that is no first row was claimed
  pub each_claimed : (c : ℕ) → length h.first ≤ c → c < h.cells
      → IsClaimed ended.shows.run c
  each_claimed c low lt =
      let run = ended.shows.run in
      let joined = ended.collector.joined i share at in
      let any : list_any (finds_used c) run ≡ true =
      of_trail (finds_used c) (Some i) run
      (ap (λ (ts : List Taken). list_any (finds_used c) ts) joined.trail
      ∙ used_in_trail h.cells c share.trail before stretch after split full lt) in
      elim (claimed_or_first h run c ended.shows.found_claimed any) [
        | inl first ↦ absurd (omega (arith, first, low))
        | inr is ↦ is
      ]

  -- so they were got by as many events at least, each of which counts as a claim
  pub all_claimed : h.cells ≤ claims_of ended.shows.core + length h.first
  all_claimed =
      let e = ended.shows in
      let from = start h e.core.rooms in
      let got = below_all (λ c. list_any (gets_this c) e.run) (length h.first) h.cells
      (λ c low lt. claimed_got e.run c (each_claimed c low lt)) in
      let few = got_few h.cells e.run in
      let counted = claims_along from e.run (start_paired h e.core.rooms) e.last_of.legal in
      let none = start_claims h e.core.rooms in
      let same : claims_of (last from e.run) ≡ claims_of e.core = ap claims_of e.last_of.ends in
      omega (arith, got, few, counted, none, same)
