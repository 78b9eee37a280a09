-- A cell that is not free is one of the first rows, or a claim got it: no other event takes a
-- colour from blue.
use Rattle.std.proofs.Common.{◌≡◌, ◌≢◌, ◌⊎◌, inl, inr, ℕ, zero, suc, true, List, [], ◌∷◌, length}
use Rattle.std.proofs.Common.{replicate, Option, Some, None, ◌-◌, ◌≤◌, IsTrue, refl, sym, ◌∙◌, ap}
use Rattle.std.proofs.Common.{arith}
use Rattle.std.specs.Prelude.{slice_set}
use Rattle.std.proofs.lemmas.Bool.{cases_lt, cases_eq}
use Rattle.std.proofs.lemmas.List.{length-replicate, get_or-set_other}
use Rattle.cell_words.specs.declared.colours.Colour.{Colour}
use Rattle.cell_words.specs.declared.colours.Colour.TheVariants as colour
use Rattle.cell_words.specs.declared.fields.Field.{Field}
use Rattle.core_machine.specs.declared.events.Found.TheVariants as finds
use Rattle.core_machine.specs.declared.events.Event.{Event}
use Rattle.core_machine.specs.declared.events.Event.TheVariants as event
use Rattle.core_machine.specs.declared.events.Taken.{Taken}
use Rattle.core_machine.specs.declared.progress.Scanning.{Scanning}
use Rattle.core_machine.specs.State.{State, opening, colour_in, colour_of}
use Rattle.core_machine.specs.Tracing.{may_blacken, scan_or_none, child_of}
use Rattle.core_machine.specs.Words.{shaded, cleared}
use Rattle.core_machine.specs.InRange.{IsShaped}
use Rattle.core_machine.specs.Next.{can, found_by, after}
use Rattle.core_machine.specs.Run.{Runs, last}
use Rattle.core_machine.proofs.Ranges.Events.{after_shaped}
use Rattle.dlg_core.specs.Consistent.{IsConsistent}
use Rattle.dlg_core.specs.FirstRows.{are_first_rows, AreRows}
use Rattle.dlg_core.specs.Runs.{taken_from}
use Rattle.dlg_core.specs.Sums.{IsClaimed, StaysClaimed}
use Rattle.dlg_core.proofs.Each.{colour_each}
use Rattle.dlg_core.proofs.Starts.{opening_consistent, same_everywhere, back_of}
use Rattle.dlg_core.proofs.Step.{consistent_after}
use Rattle.dlg_core.proofs.Throughout.{rows_shaped}
use Rattle.dlg_core.proofs.Truths.{black_found_is}

-- a colour changes, and a blue one does not
blue_set : (colours : List Colour) (p : ℕ) (x : Colour) (c : ℕ)
    → (colour_in colours p ≡ colour.Blue → x ≡ colour.Blue)
    → colour_in colours c ≡ colour.Blue → colour_in (slice_set colours p x) c ≡ colour.Blue
blue_set colours p x c fits blue =
    colour_each (λ d y. colour_in colours d ≡ colour.Blue → y ≡ colour.Blue) colours p x fits
    (λ d h. h) c blue

blackened : (s : State) (scan : Option Scanning) (c : ℕ) → IsConsistent s → s.collector.scan ≡ scan
    → may_blacken scan ≡ true
    → colour_of s c ≡ colour.Blue
    → colour_in (slice_set s.colours (scan_or_none scan).cell colour.Black) c ≡ colour.Blue
blackened s None c consistent is h blue = absurd cc
blackened s (Some x) c consistent is h blue =
    blue_set s.colours x.cell colour.Black c
    (λ b. absurd (let gray = (consistent.tracing.scans x is).gray in cc)) blue

-- a free cell stays free at every event but a claim of it
pub blue_after : (s : State) (e : Event) (c : ℕ) → IsConsistent s → can s e ≡ true
    → ((i : ℕ) → e ≢ event.Claim i c)
    → colour_of s c ≡ colour.Blue → colour_of (after s e) c ≡ colour.Blue
blue_after s (event.Mark i place) c consistent h other blue = blue_set s.colours _ _ c
    (λ b. ap shaded b) blue
blue_after s (event.Claim i d) c consistent h other blue =
    get_or-set_other s.colours d c _ colour.Blue
    (λ same. other i (ap (λ n. event.Claim i n) (sym same))) ∙ blue
blue_after s event.ClearCell c consistent h other blue = blue_set s.colours _ _ c
    (λ b. ap cleared b) blue
blue_after s event.Anchor c consistent h other blue = blue_set s.colours _ _ c
    (λ b. ap shaded b) blue
blue_after s event.Shade c consistent h other blue = blue_set s.colours (child_of s) _ c
    (λ b. ap shaded b) blue
blue_after s event.Blacken c consistent h other blue = blackened s s.collector.scan c consistent
    refl h blue
blue_after s event.Free c consistent h other blue = blue_set s.colours s.control.position
    colour.Blue c (λ b. refl) blue
blue_after s event.Whiten c consistent h other blue =
    blue_set s.colours s.control.position colour.White c
    (λ b. absurd (let black = consistent.sweep.found_black
    (black_found_is s.collector.sweep h) in cc)) blue
blue_after s _ c consistent h other blue = blue

-- an event is a claim of the cell, or it is not
is_claim : (e : Event) (c : ℕ) → ((i : ℕ) × (e ≡ event.Claim i c)) ⊎ ((i : ℕ) → e ≢ event.Claim i c)
is_claim (event.Claim i d) c = elim (cases_eq d c) [
  | inl same ↦ inl (i, ap (λ n. event.Claim i n) same)
  | inr other ↦ inr (λ j e. other cc)
]
is_claim _ c = inr (λ i e. cc)

later_claimed : (t : Taken) (ts : List Taken) (c : ℕ) → IsClaimed ts c → IsClaimed (t ∷ ts) c
later_claimed t ts c r = let lt = r.2 in (suc r.0, r.1, omega arith, r.3, r.4)

-- along a run a cell that is not free was not, or was claimed
pub used_along : (s : State) (ts : List Taken) (c : ℕ) → IsShaped s → IsConsistent s → Runs s ts
    → colour_of (last s ts) c ≢ colour.Blue → (colour_of s c ≢ colour.Blue) ⊎ IsClaimed ts c
used_along s [] c range consistent runs used = inl used
used_along s (t ∷ ts) c range consistent runs used =
    elim (used_along (after s t.event) ts c (after_shaped s t.event range runs.0)
    (consistent_after s t.event range consistent runs.0) runs.2 used) [
      | inr claimed ↦ inr (later_claimed t ts c claimed)
      | inl still ↦ elim (colour_of s c)
          as (λ x. colour_of s c ≡ x → (colour_of s c ≢ colour.Blue) ⊎ IsClaimed (t ∷ ts) c) [
            | colour.White ↦ λ e. inl (λ blue. cc)
            | colour.Gray ↦ λ e. inl (λ blue. cc)
            | colour.Black ↦ λ e. inl (λ blue. cc)
            | colour.Blue ↦ λ e. elim (is_claim t.event c) [
              | inl claim ↦ inr (
                zero,
                t,
                omega arith,
                refl,
                record {
                  claimer = claim.0;
                  claims = claim.1;
                  found = runs.1 ∙ ap (found_by s) claim.1 ∙ ap (λ x. finds.Colour x) e;
                },
              )
              | inr other ↦ absurd (still (blue_after s t.event c consistent runs.0 other e))
            ]
          ] refl
    ]

pub every_used_claimed : (cells : ℕ) (rooms : List ℕ) (first : List (List Field))
    (events : List Event)
    → AreRows first → IsTrue (are_first_rows first) → length first ≤ cells
    → StaysClaimed (length first) (opening cells rooms first) events
every_used_claimed cells rooms first events six rows few t c leads used =
    let s = opening cells rooms first in
    let n = length first in
    let long : length (replicate n colour.White) ≡ n = length-replicate n colour.White in
    elim (used_along s (taken_from s events) c (rows_shaped cells rooms first six rows few)
    (opening_consistent cells rooms first few rows) leads.runs
    (λ blue. used (ap (λ u. colour_of u c) (sym leads.ends) ∙ blue))) [
      | inr claimed ↦ inr claimed
      | inl first_used ↦ elim (cases_lt c n) [
        | inl lt ↦ inl lt
        | inr past ↦ absurd
            (first_used
            (back_of (replicate n colour.White)
            (replicate (cells - n) colour.Blue) c colour.Blue colour.Blue
            (omega arith) (λ j. same_everywhere (cells - n) j colour.Blue)))
      ]
    ]
