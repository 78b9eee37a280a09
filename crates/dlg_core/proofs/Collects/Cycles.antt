-- The theorem: the set is followed from a state in which no sweep goes on; two whole cycles count
-- two cycles that end, and then the set has no cell.
use Rattle.std.proofs.Common.{◌≡◌, ◌≢◌, inl, inr, ℕ, true, false, get_or, List, [], ◌∷◌, ◌++◌, ◌+◌}
use Rattle.std.proofs.Common.{◌≤◌, refl, sym, subst, ap, arith}
use Rattle.std.proofs.lemmas.Bool.{cases_lt}
use Rattle.std.proofs.lemmas.List.{append-nil, get_or_past}
use Rattle.cell_words.specs.declared.controls.Stage.TheVariants as stage
use Rattle.cell_words.specs.declared.fields.Field.TheVariants as field
use Rattle.core_machine.specs.declared.events.Event.{Event}
use Rattle.core_machine.specs.declared.events.Event.TheVariants as event
use Rattle.core_machine.specs.Places.{holds}
use Rattle.core_machine.specs.State.{State, field_of, freed_of, presence_of, held_of}
use Rattle.core_machine.specs.InRange.{IsShaped}
use Rattle.core_machine.specs.Next.{after}
use Rattle.core_machine.proofs.Conditions.{post_sync1_needs}
use Rattle.dlg_core.specs.Collects.{IsGarbage, IsFreedSince, IsCycle, AreTwoCycles, Collects}
use Rattle.dlg_core.specs.Consistent.{IsConsistent}
use Rattle.dlg_core.specs.Kept.{IsKept}
use Rattle.dlg_core.specs.Reachable.{anchor, held, named}
use Rattle.dlg_core.specs.Runs.{LeadsTo}
use Rattle.dlg_core.proofs.Collects.Events.{followed_after}
use Rattle.dlg_core.proofs.Collects.Followed.{IsFollowed}
use Rattle.dlg_core.proofs.Longer.{leads_apart}
use Rattle.dlg_core.proofs.Throughout.{along_run, shaped_along, consistent_along}

-- Cycles that end are counted.

pub cycles_after : (s : State) (e : Event) → s.control.cycles ≤ (after s e).control.cycles
cycles_after s (event.Post stage.Idle) = omega arith
cycles_after s (event.Post stage.Sync1) = omega arith
cycles_after s (event.Post stage.Clear) = omega arith
cycles_after s (event.Post stage.Sync2) = omega arith
cycles_after s (event.Post stage.Trace) = omega arith
cycles_after s (event.Post stage.Sweep) = omega arith
cycles_after s _ = omega arith

pub cycles_along : (s : State) (events : List Event) (t : State) → LeadsTo s events t
    → s.control.cycles ≤ t.control.cycles
cycles_along s [] t leads = let e = ap (λ u. u.control.cycles) leads.ends in omega arith
cycles_along s (e ∷ events) t leads =
    let one = cycles_after s e in
    let rest = cycles_along
    (after s e) events t record { runs = leads.runs.2; ends = leads.ends } in
    omega arith

-- a whole cycle is one more
pub cycle_counts : (s : State) (events : List Event) (t : State) → IsCycle events
    → LeadsTo s events t
    → s.control.cycles + 1 ≤ t.control.cycles
cycle_counts s events t cycle leads =
    let r = leads_apart s (event.Post stage.Sync1 ∷ cycle.between) (event.Post stage.Idle ∷ []) t
    (subst (λ es. LeadsTo s es t) cycle.whole leads) in
    let before = cycles_along s (event.Post stage.Sync1 ∷ cycle.between) r.0 r.1 in
    let last : r.0.control.cycles + 1 ≡ t.control.cycles = ap (λ u. u.control.cycles) r.2.ends in
    omega arith

-- a cycle begins while the collector is idle
pub cycle_begins : (s : State) (events : List Event) (t : State) → IsCycle events
    → LeadsTo s events t → s.control.stage ≡ stage.Idle
cycle_begins s events t cycle leads =
    let h = (subst (λ es. LeadsTo s es t) cycle.whole leads).runs.0 in
    (post_sync1_needs s h).now

-- two of them are two more, whatever follows
pub two_cycles_more : (s : State) (first between next after : List Event) (t : State)
    → AreTwoCycles first between next
    → LeadsTo s (first ++ (between ++ (next ++ after))) t → s.control.cycles + 2 ≤ t.control.cycles
two_cycles_more s first between next after t cycles leads =
    let a = leads_apart s first (between ++ (next ++ after)) t leads in
    let b = leads_apart a.0 between (next ++ after) t a.2 in
    let d = leads_apart b.0 next after t b.2 in
    let one = cycle_counts s first a.0 cycles.one a.1 in
    let rest = cycles_along a.0 between b.0 b.1 in
    let two = cycle_counts b.0 next d.0 cycles.other d.1 in
    let more = cycles_along d.0 after t d.2 in
    omega arith

pub two_cycles_count : (s : State) (first between next : List Event) (t : State)
    → AreTwoCycles first between next
    → LeadsTo s (first ++ (between ++ next)) t → s.control.cycles + 2 ≤ t.control.cycles
two_cycles_count s first between next t cycles leads =
    two_cycles_more s first between next [] t cycles
    (subst (λ es. LeadsTo s (first ++ (between ++ es)) t) (sym (append-nil next)) leads)

-- who holds a cell is in
pub inside_of : (s : State) (i c : ℕ) → IsConsistent s → holds (held_of s i) c ≡ true
    → (presence_of s i).inside ≡ true
inside_of s i c k h =
    elim (presence_of s i).inside
    as (λ b. (presence_of s i).inside ≡ b → (presence_of s i).inside ≡ true) [
      | true ↦ λ e. e
      | false ↦ λ e. absurd
          (let none : holds (held_of s i) c
          ≡ false = ap (λ ps. holds ps c) (k.mutators.out i e).0 in cc)
    ] refl

-- The start: what is not garbage is reachable or blue, and names no garbage.
pub followed_from : (s : State) → IsShaped s → IsConsistent s → s.control.stage ≢ stage.Sweep
    → IsFollowed s s
followed_from s range k other = record {
  grown = (λ c. omega arith);
  apart = record {
    anchor = (λ left. left.garbage.unreachable (anchor refl));
    held = (λ i c h left. left.garbage.unreachable (held i (inside_of s i c k h) h));
    named = (λ c d f n left. record {
      garbage = record {
        there = elim (cases_lt c s.cells) [
          | inl lt ↦ lt
          | inr past ↦ absurd (
              let none : field_of s c f ≡ field.Null
              = ap (λ row. get_or row f field.Null)
              (get_or_past s.rows c []
              (let fit = range.cells_fit.rows_fit in omega arith)) in cc)
        ];
        not_free = (λ blue. let none = k.cells.blue_null c f blue in cc);
        unreachable = (λ r. left.garbage.unreachable (named f r n));
      };
      unfreed = refl;
    });
    not_blue = (λ c left. left.garbage.not_free);
  };
  way = record {
    swept = (λ first now. absurd (other now));
    white = (λ next. absurd (omega arith));
    no_child = (λ next. absurd (omega arith));
    ahead = (λ next. absurd (omega arith));
    gone = (λ far. absurd (omega arith));
  };
}

-- at the end none is left
pub freed_then : (old new : State) (c : ℕ) → IsFollowed old new
    → old.control.cycles + 2 ≤ new.control.cycles → IsGarbage old c
    → IsFreedSince old new c
freed_then old new c k two garbage = elim (cases_lt (freed_of old c) (freed_of new c)) [
  | inl lt ↦ lt
  | inr ge ↦ absurd
      (let le = k.grown c in k.way.gone two c record { garbage = garbage; unfreed = omega arith })
]

pub garbage_freed : (old : State) (events : List Event) (new : State) (c : ℕ) → IsShaped old
    → IsConsistent old
    → old.control.stage ≢ stage.Sweep → LeadsTo old events new
    → old.control.cycles + 2 ≤ new.control.cycles
    → IsGarbage old c → IsFreedSince old new c
garbage_freed old events new c range k other leads two garbage =
    freed_then old new c
    (along_run (IsFollowed old) (followed_after old) old events new leads range k
    (followed_from old range k other)) two garbage

pub collects : (s : State) (events : List Event) → IsShaped s → IsConsistent s → Collects s events
collects s events range k before first between next after old new c split cycles leads both garbage
    =
    let idle = cycle_begins old first
    (leads_apart old first (between ++ next) new both).0 cycles.one
    (leads_apart old first (between ++ next) new both).1 in
    garbage_freed old (first ++ (between ++ next)) new c (shaped_along s before old leads range k)
    (consistent_along s before old leads range k)
    (λ e. cc) both (two_cycles_count old first between next new cycles both) garbage

pub kept_collects : (s : State) (events : List Event) → IsKept s → Collects s events
kept_collects s events k = collects s events k.range.shape k.consistent
