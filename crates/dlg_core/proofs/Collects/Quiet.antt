-- When mutators do no more: a cell that is free stays free, and what the anchor reaches it reaches
-- on. So a cell that is not free after two whole cycles was not free before and not freed
-- meanwhile; hence it was no garbage, and with no held cell it was reachable from the anchor.
--
-- Wipe  the cell is not live, so the anchor does not reach it.
-- Free  the cell is free from then on.
use Rattle.std.proofs.Common.{◌≡◌, ◌≢◌, ◌⊎◌, inl, inr, ℕ, Bool, true, false, if◌then◌else◌, List}
use Rattle.std.proofs.Common.{[], ◌∷◌, ◌++◌, Option, Some, None, slice_index, ◌+◌, refl, sym, subst}
use Rattle.std.proofs.Common.{◌∙◌, ap, arith}
use Rattle.std.specs.Prelude.{slice_set}
use Rattle.std.proofs.lemmas.Bool.{cases_lt, cases_eq}
use Rattle.std.proofs.lemmas.List.{get_or_past, get_or-set_same, get_or-set_other}
use Rattle.std.proofs.lemmas.List.Elements.{All-nil, All-cons, All-head, All-tail}
use Rattle.cell_words.specs.declared.colours.Colour.{Colour}
use Rattle.cell_words.specs.declared.colours.Colour.TheVariants as colour
use Rattle.cell_words.specs.declared.controls.Stage.{Stage}
use Rattle.cell_words.specs.declared.controls.Stage.TheVariants as stage
use Rattle.cell_words.specs.declared.fields.Field.{Field}
use Rattle.cell_words.specs.declared.fields.Field.TheVariants as field
use Rattle.cell_words.specs.declared.presences.Presence.{Presence}
use Rattle.cell_words.specs.declared.presences.Status.{Status}
use Rattle.core_machine.specs.declared.events.Event.{Event}
use Rattle.core_machine.specs.declared.events.Event.TheVariants as event
use Rattle.core_machine.specs.declared.progress.Scanning.{Scanning}
use Rattle.core_machine.specs.declared.progress.Sweeping.TheVariants as sweeping
use Rattle.core_machine.specs.Collector.{posted}
use Rattle.core_machine.specs.Handshakes.{wanted_of}
use Rattle.core_machine.specs.State.{State, colour_in, colour_of, freed_of, presence_in}
use Rattle.core_machine.specs.State.{presence_of, no_presence, set_field}
use Rattle.core_machine.specs.Sweep.{wiped_count}
use Rattle.core_machine.specs.Tracing.{may_blacken, scan_or_none, child_of}
use Rattle.core_machine.specs.Words.{shaded, cleared, same_status, may_answer_out, answered_out}
use Rattle.core_machine.specs.InRange.{IsShaped}
use Rattle.core_machine.specs.Next.{can, after, maker}
use Rattle.core_machine.proofs.Ranges.Events.{after_shaped}
use Rattle.dlg_core.specs.Collects.{AreOut, AreOver, IsGarbage, IsFreedSince, AreCollectors}
use Rattle.dlg_core.specs.Collects.{IsFromAnchor, IsTidy, IsOver, LeavesNoGarbage, DoesNoMore}
use Rattle.dlg_core.specs.Consistent.{IsConsistent}
use Rattle.dlg_core.specs.Facts.{live}
use Rattle.dlg_core.specs.Reachable.{Reach, Reachable, anchor, named, reach_in}
use Rattle.dlg_core.specs.Runs.{LeadsTo}
use Rattle.dlg_core.proofs.Changes.Noted.{answered_each, look_each}
use Rattle.dlg_core.proofs.Changes.Shade.{wiped_not_live}
use Rattle.dlg_core.proofs.Collects.Cycles.{cycle_begins, two_cycles_more, garbage_freed}
use Rattle.dlg_core.proofs.Longer.{leads_apart}
use Rattle.dlg_core.proofs.Computes.{into, reach-sound, reach-complete}
use Rattle.dlg_core.proofs.Each.{colour_each, presence_each, field_elsewhere}
use Rattle.dlg_core.proofs.Step.{consistent_after}
use Rattle.dlg_core.proofs.Truths.{free_is, black_found_is, wipe_is}
use Rattle.dlg_core.proofs.Changes.Sweep.{position_below}

-- what holds since an old state, while the collector alone goes on
pub record Rests (old : State) (presences : List Presence) (rows : List (List Field))
    (colours : List Colour) (times_freed : List ℕ) : Type 0 where
  pub out : (i : ℕ) → (presence_in presences i).inside ≡ false
  pub reach : (c : ℕ) → IsFromAnchor old c → Reach rows [] [] c
  pub settled : (c : ℕ) → (colour_in colours c ≡ colour.Blue)
      ⊎ ((colour_of old c ≢ colour.Blue) × (slice_index times_freed c ≡ freed_of old c))

abbrev pub RestsIn : State → State → Type 0
RestsIn old s = Rests old s.presences s.rows s.colours s.collector.times_freed

-- a colour changes, and a blue one does not
pub colour_rests : (old s : State) (c : ℕ) (x : Colour)
    → (colour_of s c ≡ colour.Blue → x ≡ colour.Blue) → RestsIn old s
    → Rests old s.presences s.rows (slice_set s.colours c x) s.collector.times_freed
colour_rests old s c x fits k = record {
  out = k.out;
  reach = k.reach;
  settled = colour_each
      (λ d y. (y ≡ colour.Blue)
      ⊎ ((colour_of old d ≢ colour.Blue) × (freed_of s d ≡ freed_of old d))) s.colours c x
      (elim (k.settled c) [ inl blue ↦ inl (fits blue) | inr other ↦ inr other ]) k.settled;
}

pub post_rests : (old s : State) (target : Stage) → RestsIn old s
    → Rests old s.presences s.rows s.colours (posted s.collector target).times_freed
post_rests old s stage.Idle k = k
post_rests old s stage.Sync1 k = k
post_rests old s stage.Clear k = k
post_rests old s stage.Sync2 k = k
post_rests old s stage.Trace k = k
post_rests old s stage.Sweep k = k

-- an answer for a mutator that is out leaves it out, and over as it was
pub answered_flags : (wanted : Status) (over : Bool) (p : Presence)
    → ((answered_out wanted over p).inside ≡ p.inside)
    × ((answered_out wanted over p).over ≡ p.over)
answered_flags wanted over p =
    elim (may_answer_out wanted over p)
    as (λ b. ((if b then record p { status = wanted } else p).inside ≡ p.inside)
    × ((if b then record p { status = wanted } else p).over ≡ p.over))
    [ true ↦ (refl, refl) | false ↦ (refl, refl) ]

pub answer_out_rests : (old s : State) (i : ℕ) (over : Bool) → RestsIn old s
    → RestsIn old (after s (event.AnswerOut i over))
answer_out_rests old s i over k =
    let p = answered_out (wanted_of s) over (presence_of s i) in
    answered_each
    (λ c. Rests old (slice_set s.presences i p) s.rows s.colours c.times_freed) s.collector i
    (may_answer_out (wanted_of s) over (presence_of s i)) (λ answered. record {
      out = presence_each (λ j q. q.inside ≡ false) s.presences i p
          ((answered_flags (wanted_of s) over (presence_of s i)).0 ∙ k.out i) k.out;
      reach = k.reach;
      settled = k.settled;
    })

pub blacken_rests : (old s : State) (scan : Option Scanning) → IsConsistent s
    → s.collector.scan ≡ scan → may_blacken scan ≡ true
    → RestsIn old s
    → Rests old s.presences s.rows
    (slice_set s.colours (scan_or_none scan).cell colour.Black) s.collector.times_freed
blacken_rests old s None consistent is h k = absurd cc
blacken_rests old s (Some x) consistent is h k =
    colour_rests old s x.cell colour.Black
    (λ blue. absurd (let gray = (consistent.tracing.scans x is).gray in cc)) k

pub wipe_rests : (old s : State) → IsShaped s → IsConsistent s → can s event.Wipe ≡ true
    → RestsIn old s
    → RestsIn old (after s event.Wipe)
wipe_rests old s range consistent h k =
    let p = s.control.position in
    let r = wipe_is s.collector.sweep h in
    let dead = wiped_not_live s range r.0 r.1 (consistent.sweep.wipes r.0 r.1).white in
    let rows = set_field s.rows p (wiped_count s.collector.sweep) field.Null in
    let still : (c : ℕ) → IsFromAnchor s c
    → (live s.colours s.control s.collector.sweep c ≡ true) × Reach rows [] [] c
    = into s.rows [] []
    (λ c. (live s.colours s.control s.collector.sweep c ≡ true) × Reach rows [] [] c)
    (consistent.cells.anchor_live, anchor refl)
    (λ i c inside has. absurd cc)
    (λ c d f before n.
    let other : c ≢ p = (λ here. absurd (
    let alive : live s.colours s.control s.collector.sweep p ≡ true
    = subst (λ m. live s.colours s.control s.collector.sweep m ≡ true) here before.0 in cc)) in (
      (consistent.cells.names_live c d f before.0 n).0,
      named f before.1
          (field_elsewhere s.rows p (wiped_count s.collector.sweep) field.Null c other f ∙ n),
    )) in
    record {
      out = k.out;
      reach = (λ c from. (still c (k.reach c from)).1);
      settled = k.settled;
    }

pub free_rests : (old s : State) → IsShaped s → IsConsistent s → can s event.Free ≡ true
    → RestsIn old s
    → RestsIn old (after s event.Free)
free_rests old s range consistent h k =
    let p = s.control.position in
    let times = s.collector.times_freed in
    let lt = position_below s (sweeping.Wiping 6) range (free_is s.collector.sweep h) (λ e. cc) in
    record {
      out = k.out;
      reach = k.reach;
      settled = (λ c. elim (cases_eq c p) [
        | inl here ↦ inl (ap (colour_in (slice_set s.colours p colour.Blue)) here
            ∙ get_or-set_same s.colours p colour.Blue colour.Blue lt)
        | inr other ↦ elim (k.settled c) [
          | inl blue ↦ inl (get_or-set_other s.colours p c colour.Blue colour.Blue other ∙ blue)
          | inr left ↦ inr
              (left.0, get_or-set_other times p c (slice_index times p + 1) 0 other ∙ left.1)
        ]
      ]);
    }

pub rests_after : (old s : State) (e : Event) → IsShaped s → IsConsistent s → can s e ≡ true
    → maker e ≡ None → RestsIn old s
    → RestsIn old (after s e)
rests_after old s (event.Post target) range consistent h by k = post_rests old s target k
rests_after old s (event.Duty on) range consistent h by k = k
rests_after old s (event.Poll i) range consistent h by k =
    answered_each (λ c. Rests old s.presences s.rows s.colours c.times_freed) s.collector i
    (same_status (presence_of s i).status (wanted_of s)) (λ answered. k)
rests_after old s (event.AnswerOut i over) range consistent h by k = answer_out_rests old s i over k
rests_after old s event.ClearCell range consistent h by k = colour_rests old s s.collector.cursor _
    (λ blue. ap cleared blue) k
rests_after old s event.Anchor range consistent h by k = colour_rests old s 0 _
    (λ blue. ap shaded blue) k
rests_after old s (event.See c) range consistent h by k =
    look_each (λ d. Rests old s.presences s.rows s.colours d.times_freed) s.collector s.cells c
    (colour_of s c)
    (λ cursor clean. k) (λ cursor. k)
rests_after old s event.Scan range consistent h by k = k
rests_after old s event.Shade range consistent h by k = colour_rests old s (child_of s) _
    (λ blue. ap shaded blue) k
rests_after old s event.Blacken range consistent h by k = blacken_rests old s s.collector.scan
    consistent refl h k
rests_after old s event.SweepLook range consistent h by k = k
rests_after old s event.Wipe range consistent h by k = wipe_rests old s range consistent h k
rests_after old s event.Free range consistent h by k = free_rests old s range consistent h k
rests_after old s event.Whiten range consistent h by k =
    colour_rests old s s.control.position colour.White
    (λ blue. absurd
    (let black = consistent.sweep.found_black (black_found_is s.collector.sweep h) in cc)) k
rests_after old s event.Advance range consistent h by k = k
rests_after old s _ range consistent h by k = absurd cc

pub rests_along : (old s : State) (events : List Event) (t : State) → LeadsTo s events t
    → AreCollectors events → IsShaped s → IsConsistent s
    → RestsIn old s → RestsIn old t
rests_along old s [] t leads by range consistent k = subst (RestsIn old) leads.ends k
rests_along old s (e ∷ events) t leads by range consistent k =
    let h = leads.runs.0 in
    let P : Event → Type 0 = (λ x. maker x ≡ None) in
    rests_along old (after s e) events t record { runs = leads.runs.2; ends = leads.ends }
    (All-tail P e events by)
    (after_shaped s e range h) (consistent_after s e range consistent h)
    (rests_after old s e range consistent h (All-head P e events by) k)

-- with all mutators out, what is reachable is so from the anchor
pub from_anchor : (s : State) → AreOut s → (c : ℕ) → Reachable s c → IsFromAnchor s c
from_anchor s out c r =
    into s.rows s.presences s.owns (IsFromAnchor s) (anchor refl)
    (λ i d inside has. absurd (let outside = out i in cc))
    (λ d e f before n. named f before n) c r

pub rests_from : (s : State) → AreOut s → RestsIn s s
rests_from s out = record {
  out = out;
  reach = (λ c from. from);
  settled = (λ c. elim (colour_of s c) as (λ x. colour_of s c ≡ x → (colour_of s c ≡ colour.Blue)
      ⊎ ((colour_of s c ≢ colour.Blue) × (freed_of s c ≡ freed_of s c))) [
        | colour.Blue ↦ λ e. inl e
        | colour.White ↦ λ e. inr ((λ blue. cc), refl)
        | colour.Gray ↦ λ e. inr ((λ blue. cc), refl)
        | colour.Black ↦ λ e. inr ((λ blue. cc), refl)
      ] refl);
}

pub tidy_then : (old t : State) → IsShaped old → AreOut old → RestsIn old t
    → ((c : ℕ) → IsGarbage old c → IsFreedSince old t c) → IsTidy t
tidy_then old t range out k freed c used = elim (k.settled c) [
  | inl blue ↦ absurd (used blue)
  | inr left ↦
      elim (reach_in old.rows [] [] c) as (λ b. reach_in old.rows [] [] c ≡ b → IsFromAnchor t c) [
        | true ↦ λ e. k.reach c (reach-sound old.rows [] [] c e)
        | false ↦ λ e. absurd (
            let lt = freed c record {
              there = elim (cases_lt c old.cells) [
                | inl below ↦ below
                | inr past ↦ absurd
                    (left.0 (get_or_past old.colours c colour.Blue
                    (let fit = range.cells_fit.colours_fit in omega arith)))
              ];
              not_free = left.0;
              unreachable = (λ r. let h = reach-complete old.rows [] [] c
                  (from_anchor old out c r) in cc);
            } in
            let same = left.1 in omega arith)
      ] refl
]

pub leaves_no_garbage : (s : State) (events : List Event) → IsShaped s → IsConsistent s → AreOut s
    → AreCollectors events → LeavesNoGarbage s events
leaves_no_garbage s events range consistent out by first between next rest t split cycles leads =
    let run = subst (λ es. LeadsTo s es t) split leads in
    let start = leads_apart s first (between ++ (next ++ rest)) t run in
    let idle = cycle_begins s first start.0 cycles.one start.1 in
    tidy_then s t range out (rests_along s s events t leads by range consistent (rests_from s out))
    (λ c garbage. garbage_freed s events t c range consistent (λ e. cc) leads
    (two_cycles_more s first between next rest t cycles run) garbage)

-- Who is over.

-- who is out for good can make no event
pub over_idle : (s : State) (e : Event) (i : ℕ) → IsOver s i → can s e ≡ true → maker e ≢ Some i
over_idle s (event.Begin j) i over h by = let a = over.0 in let b = over.1 in let same : j
    ≡ i = cc in let no = rw (same, a, b) at h in cc
over_idle s (event.Look j) i over h by = let a = over.0 in let same : j
    ≡ i = cc in let no = rw (same, a) at h in cc
over_idle s (event.Read j place f) i over h by = let a = over.0 in let same : j
    ≡ i = cc in let no = rw (same, a) at h in cc
over_idle s (event.Fetch j place f) i over h by = let a = over.0 in let same : j
    ≡ i = cc in let no = rw (same, a) at h in cc
over_idle s (event.Mark j place) i over h by = let a = over.0 in let same : j
    ≡ i = cc in let no = rw (same, a) at h in cc
over_idle s (event.Write j place f x y) i over h by = let a = over.0 in let same : j
    ≡ i = cc in let no = rw (same, a) at h in cc
over_idle s (event.Store j x) i over h by = let a = over.0 in let same : j
    ≡ i = cc in let no = rw (same, a) at h in cc
over_idle s (event.Claim j c) i over h by = let a = over.0 in let same : j
    ≡ i = cc in let no = rw (same, a) at h in cc
over_idle s (event.Fill j place f x) i over h by = let a = over.0 in let same : j
    ≡ i = cc in let no = rw (same, a) at h in cc
over_idle s (event.Seal j place x) i over h by = let a = over.0 in let same : j
    ≡ i = cc in let no = rw (same, a) at h in cc
over_idle s (event.Answer j) i over h by = let a = over.0 in let same : j
    ≡ i = cc in let no = rw (same, a) at h in cc
over_idle s (event.Keep j count from copies) i over h by = let a = over.0 in let same : j
    ≡ i = cc in let no = rw (same, a) at h in cc
over_idle s (event.End j) i over h by = let a = over.0 in let same : j
    ≡ i = cc in let no = rw (same, a) at h in cc
over_idle s (event.Over j) i over h by = let a = over.0 in let b = over.1 in let same : j
    ≡ i = cc in let no = rw (same, a, b) at h in cc
over_idle s _ i over h by = absurd cc

-- another one's presence changes
pub over_beside : (s : State) (i j : ℕ) (p : Presence) → Some j ≢ Some i → IsOver s i
    → IsOver (record s { presences = slice_set s.presences j p }) i
over_beside s i j p other over =
    let same : presence_in (slice_set s.presences j p) i ≡ presence_of s i
    = get_or-set_other s.presences j i p no_presence (λ e. other (ap (λ n. Some n) (sym e))) in
    (ap (λ q. q.inside) same ∙ over.0, ap (λ q. q.over) same ∙ over.1)

pub over_after : (s : State) (e : Event) (i : ℕ) → maker e ≢ Some i → IsOver s i
    → IsOver (after s e) i
over_after s (event.Begin j) i other over = over_beside s i j _ other over
over_after s (event.Answer j) i other over = over_beside s i j _ other over
over_after s (event.End j) i other over = over_beside s i j _ other over
over_after s (event.Over j) i other over = over_beside s i j _ other over
over_after s (event.AnswerOut j over_too) i other over =
    let same = answered_flags (wanted_of s) over_too (presence_of s j) in
    presence_each (λ n q. n ≡ i → (q.inside ≡ false) × (q.over ≡ true)) s.presences j _
    (λ here. (
      same.0 ∙ subst (λ n. (presence_of s n).inside ≡ false) (sym here) over.0,
      same.1 ∙ subst (λ n. (presence_of s n).over ≡ true) (sym here) over.1,
    ))
    (λ n here. subst (IsOver s) (sym here) over) i refl
over_after s _ i other over = over

pub over_along : (s : State) (events : List Event) (i : ℕ) → IsOver s i → DoesNoMore s events i
over_along s [] i over t
    leads = (All-nil (λ e. maker e ≢ Some i), subst (λ u. IsOver u i) leads.ends over)
over_along s (e ∷ events) i over t leads =
    let by = over_idle s e i over leads.runs.0 in
    let rest = over_along (after s e) events i
    (over_after s e i by over) t record { runs = leads.runs.2; ends = leads.ends } in
    (All-cons (λ x. maker x ≢ Some i) e events by rest.0, rest.1)

-- where all are over the collector goes on alone
pub nobody_makes : (by : Option ℕ) → ((i : ℕ) → by ≢ Some i) → by ≡ None
nobody_makes None none = refl
nobody_makes (Some i) none = absurd (none i refl)

pub over_collectors : (s : State) (events : List Event) (t : State) → AreOver s → LeadsTo s events t
    → AreCollectors events
over_collectors s [] t over leads = All-nil (λ e. maker e ≡ None)
over_collectors s (e ∷ events) t over leads =
    let by : (i : ℕ) → maker e ≢ Some i = (λ i. over_idle s e i (over i) leads.runs.0) in
    All-cons (λ x. maker x ≡ None) e events (nobody_makes (maker e) by)
    (over_collectors (after s e) events t
    (λ i. over_after s e i (by i) (over i)) record { runs = leads.runs.2; ends = leads.ends })

pub over_leaves_no_garbage : (s : State) (events : List Event) → IsShaped s → IsConsistent s
    → AreOver s → LeavesNoGarbage s events
over_leaves_no_garbage s events range consistent over first between next rest t split cycles leads =
    leaves_no_garbage s events range consistent (λ i. (over i).0)
    (over_collectors s events t over leads)
    first between next rest t split cycles leads
