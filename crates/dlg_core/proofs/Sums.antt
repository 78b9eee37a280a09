-- The sums on claims: the first rows and all claims are the cells that are not free and all that
-- were freed.
--
-- A colour that goes from blue adds a cell in use, and comes with a claim; one that goes to blue
-- takes one away, and comes with a freed count. Every other event leaves both sides as they are.
use Rattle.std.proofs.Common.{◌≡◌, inl, inr, ℕ, true, false, cond, not, IsTrue, List, ◌++◌, ◌*◌}
use Rattle.std.proofs.Common.{Option, Some, None, length, replicate, ◌+◌, ◌-◌, ◌<◌, ◌≤◌, arith}
use Rattle.std.proofs.Common.{refl, sym, subst, ◌∙◌, ap}
use Rattle.std.specs.Prelude.{slice_set, slice_index, take}
use Rattle.std.proofs.Math.ListN.{set}
use Rattle.std.specs.List.{sum}
use Rattle.std.proofs.lemmas.Bool.{cases_lt}
use Rattle.std.proofs.lemmas.List.{set_past}
use Rattle.std.proofs.lemmas.List.Folds.{sum_by-replicate}
use Rattle.std.proofs.lemmas.List.Sums.{sum_by-set, sum_by-append}
use Rattle.cell_words.specs.declared.colours.Colour.{Colour}
use Rattle.cell_words.specs.declared.colours.Colour.TheVariants as colour
use Rattle.cell_words.specs.declared.controls.Stage.{Stage}
use Rattle.cell_words.specs.declared.controls.Stage.TheVariants as stage
use Rattle.cell_words.specs.declared.fields.Field.{Field}
use Rattle.cell_words.specs.declared.fields.Field.TheVariants as field
use Rattle.core_machine.specs.declared.events.Event.{Event}
use Rattle.core_machine.specs.declared.events.Event.TheVariants as event
use Rattle.core_machine.specs.declared.progress.Scanning.{Scanning}
use Rattle.core_machine.specs.declared.progress.Sweeping.TheVariants as sweeping
use Rattle.core_machine.specs.Collector.{posted}
use Rattle.core_machine.specs.Own.{Own, no_own, having_read, having_claimed}
use Rattle.core_machine.specs.State.{State, opening, colour_in, colour_of, field_of, own_in, own_of}
use Rattle.core_machine.specs.State.{presence_of, target_of}
use Rattle.core_machine.specs.Tracing.{may_blacken, scan_or_none, child_of}
use Rattle.core_machine.specs.Words.{shaded, cleared, claimed, is_blue, same_status, may_answer_out}
use Rattle.core_machine.specs.Words.{born_colour}
use Rattle.core_machine.specs.Handshakes.{wanted_of}
use Rattle.core_machine.specs.InRange.{IsShaped}
use Rattle.core_machine.specs.Next.{can, after}
use Rattle.core_machine.proofs.Conditions.{claim_needs}
use Rattle.core_machine.proofs.Ranges.Mutators.{born-blue}
use Rattle.dlg_core.specs.Consistent.{IsConsistent}
use Rattle.dlg_core.specs.FirstRows.{are_first_rows, AreRows}
use Rattle.dlg_core.specs.Sums.{is_used, used_in, claims_in, Balances, IsBalanced, StaysBalanced}
use Rattle.dlg_core.proofs.Changes.Noted.{answered_each, look_each}
use Rattle.dlg_core.proofs.Starts.{opening_consistent}
use Rattle.dlg_core.proofs.Throughout.{along_run, rows_shaped}
use Rattle.core_machine.proofs.OneOperation.{inside_there}
use Rattle.dlg_core.proofs.Truths.{free_is, black_found_is}
use Rattle.dlg_core.proofs.Changes.Sweep.{position_below}

-- What a change does to the sums.

abbrev pub weight : Colour → ℕ
weight x = cond (is_used x) 1 0

-- another colour: the cell counts by it
pub used_set : (colours : List Colour) (c : ℕ) (x : Colour) → c < length colours
    → used_in (set colours c x) + weight (colour_in colours c) ≡ used_in colours + weight x
used_set colours c x lt = sum_by-set weight colours c x colour.Blue lt

-- where it is blue as the old one is, or is not as it is not, nothing changes
pub used_same : (colours : List Colour) (c : ℕ) (x : Colour)
    → is_used x ≡ is_used (colour_in colours c)
    → used_in (set colours c x) ≡ used_in colours
used_same colours c x e = elim (cases_lt c (length colours)) [
  | inl lt ↦ let n = used_set colours c x lt in let w : weight x
      ≡ weight (colour_in colours c) = ap (λ b. cond b 1 0) e in omega arith
  | inr past ↦ ap used_in (set_past colours c x past)
]

pub claims_set : (owns : List Own) (i : ℕ) (own : Own) → i < length owns
    → claims_in (set owns i own) + (own_in owns i).claims ≡ claims_in owns + own.claims
claims_set owns i own lt = sum_by-set (λ o. o.claims) owns i own no_own lt

pub claims_same : (owns : List Own) (i : ℕ) (own : Own) → own.claims ≡ (own_in owns i).claims
    → claims_in (set owns i own) ≡ claims_in owns
claims_same owns i own e = elim (cases_lt i (length owns)) [
  | inl lt ↦ let n = claims_set owns i own lt in omega arith
  | inr past ↦ ap claims_in (set_past owns i own past)
]

-- one mutator's part changes, and not its claims
pub own_balances : (first : ℕ) (colours : List Colour) (owns : List Own) (times : List ℕ)
    (number i : ℕ) (own : Own)
    → own.claims ≡ (own_in owns i).claims → Balances first colours owns times number
    → Balances first colours (slice_set owns i own) times number
own_balances first colours owns times number i own e k = record {
  claims = ap (λ n. first + n) (claims_same owns i own e) ∙ k.claims;
  frees = k.frees;
}

-- a colour changes, and not whether the cell is free
pub colour_balances : (first : ℕ) (colours : List Colour) (owns : List Own) (times : List ℕ)
    (number c : ℕ) (x : Colour)
    → is_used x ≡ is_used (colour_in colours c) → Balances first colours owns times number
    → Balances first (slice_set colours c x) owns times number
colour_balances first colours owns times number c x e k = record {
  claims = k.claims ∙ sym (ap (λ n. n + number) (used_same colours c x e));
  frees = k.frees;
}

-- What events leave.

pub shaded_used : (x : Colour) → is_used (shaded x) ≡ is_used x
shaded_used colour.Blue = refl
shaded_used colour.White = refl
shaded_used colour.Gray = refl
shaded_used colour.Black = refl

pub cleared_used : (x : Colour) → is_used (cleared x) ≡ is_used x
cleared_used colour.Blue = refl
cleared_used colour.White = refl
cleared_used colour.Gray = refl
cleared_used colour.Black = refl

pub read_claims : (own : Own) (x : Field) → (having_read own x).claims ≡ own.claims
read_claims own field.Null = refl
read_claims own (field.Num n) = refl
read_claims own (field.Cell c) = refl

-- a claim of a blue cell, and one that finds another colour
pub claim_balances : (first : ℕ) (s : State) (i c : ℕ) (born found : Colour) → i < length s.owns
    → c < length s.colours
    → colour_of s c ≡ found → is_blue born ≡ false → IsBalanced first s
    → Balances first (slice_set s.colours c (claimed found born))
    (slice_set s.owns i (having_claimed (own_of s i) c found))
    s.collector.times_freed s.collector.number_freed
claim_balances first s i c born colour.Blue own cell e fresh k =
    let used = used_set s.colours c born cell in
    let old : weight (colour_of s c) ≡ 0 = ap weight e in
    let new : weight born ≡ 1 = ap (λ b. cond (not b) 1 0) fresh in
    let owned = claims_set s.owns i (having_claimed (own_of s i) c colour.Blue) own in
    let before = k.claims in
    record { claims = omega arith; frees = k.frees }
claim_balances first s i c born colour.White own cell e fresh k =
    colour_balances first s.colours
    (slice_set s.owns i (own_of s i)) s.collector.times_freed s.collector.number_freed c
    colour.White
    (sym (ap is_used e))
    (own_balances first s.colours s.owns s.collector.times_freed s.collector.number_freed i
    (own_of s i) refl k)
claim_balances first s i c born colour.Gray own cell e fresh k =
    colour_balances first s.colours
    (slice_set s.owns i (own_of s i)) s.collector.times_freed s.collector.number_freed c
    colour.Gray
    (sym (ap is_used e))
    (own_balances first s.colours s.owns s.collector.times_freed s.collector.number_freed i
    (own_of s i) refl k)
claim_balances first s i c born colour.Black own cell e fresh k =
    colour_balances first s.colours
    (slice_set s.owns i (own_of s i)) s.collector.times_freed s.collector.number_freed c
    colour.Black
    (sym (ap is_used e))
    (own_balances first s.colours s.owns s.collector.times_freed s.collector.number_freed i
    (own_of s i) refl k)

pub claim_balanced : (first : ℕ) (s : State) (i c : ℕ) → IsShaped s → can s (event.Claim i c) ≡ true
    → IsBalanced first s
    → IsBalanced first (after s (event.Claim i c))
claim_balanced first s i c range h k =
    let needs = claim_needs s i c h in
    claim_balances first s i c (born_colour (presence_of s i).status (own_of s i).mode c)
    (colour_of s c)
    (subst (λ n. i < n) (sym range.mutators_fit.owns_fit) (inside_there s range i needs.inside))
    (subst (λ n. c < n) (sym range.cells_fit.colours_fit) needs.cell)
    refl (born-blue (presence_of s i).status (own_of s i).mode c) k

-- the cell was white, and one cell in use goes
pub free_balanced : (first : ℕ) (s : State) → IsShaped s → IsConsistent s → can s event.Free ≡ true
    → IsBalanced first s
    → IsBalanced first (after s event.Free)
free_balanced first s range consistent h k =
    let p = s.control.position in
    let is = free_is s.collector.sweep h in
    let lt = position_below s (sweeping.Wiping 6) range is (λ e. cc) in
    let there : p < length s.collector.times_freed
    = (let a = range.cells_fit.colours_fit in let b = range.cells_fit.freed_fit in omega arith) in
    let used = used_set s.colours p colour.Blue lt in
    let old : weight (colour_of s p) ≡ 1 = ap weight (consistent.sweep.wipes 6 is).white in
    let counted : sum
    (set s.collector.times_freed p (slice_index s.collector.times_freed p + 1)) + slice_index
    s.collector.times_freed p
    ≡ sum s.collector.times_freed + (slice_index s.collector.times_freed p + 1)
    = sum_by-set (λ x. x) s.collector.times_freed p
    (slice_index s.collector.times_freed p + 1) 0 there in
    let claims = k.claims in
    let frees = k.frees in
    record { claims = omega arith; frees = omega arith }

pub blacken_balanced : (first : ℕ) (s : State) (x : Scanning) → IsConsistent s
    → s.collector.scan ≡ Some x → IsBalanced first s
    → Balances first
    (slice_set s.colours x.cell colour.Black) s.owns s.collector.times_freed
    s.collector.number_freed
blacken_balanced first s x consistent is k =
    colour_balances first s.colours s.owns s.collector.times_freed s.collector.number_freed x.cell
    colour.Black
    (sym (ap is_used (consistent.tracing.scans x is).gray)) k

pub blacken_balanced_at : (first : ℕ) (s : State) (scan : Option Scanning) → IsConsistent s
    → s.collector.scan ≡ scan
    → may_blacken scan ≡ true → IsBalanced first s
    → Balances first
    (slice_set s.colours (scan_or_none scan).cell colour.Black) s.owns s.collector.times_freed
    s.collector.number_freed
blacken_balanced_at first s None consistent is h k = absurd cc
blacken_balanced_at first s (Some x) consistent is h k = blacken_balanced first s x consistent is k

pub post_balanced : (first : ℕ) (s : State) (target : Stage) → IsBalanced first s
    → Balances first s.colours s.owns (posted s.collector target).times_freed
    (posted s.collector target).number_freed
post_balanced first s stage.Idle k = k
post_balanced first s stage.Sync1 k = k
post_balanced first s stage.Clear k = k
post_balanced first s stage.Sync2 k = k
post_balanced first s stage.Trace k = k
post_balanced first s stage.Sweep k = k

-- Each event keeps the sums.

pub balanced_after : (first : ℕ) (s : State) (e : Event) → IsShaped s → IsConsistent s
    → can s e ≡ true → IsBalanced first s
    → IsBalanced first (after s e)
balanced_after first s e range consistent h k =
    let own : (i : ℕ) (o : Own) → o.claims ≡ (own_of s i).claims
    → Balances first s.colours
    (slice_set s.owns i o) s.collector.times_freed s.collector.number_freed
    = (λ i o same. own_balances first s.colours s.owns s.collector.times_freed
    s.collector.number_freed i o same k) in
    let tinted : (c : ℕ) (x : Colour) → is_used x ≡ is_used (colour_of s c)
    → Balances first
    (slice_set s.colours c x) s.owns s.collector.times_freed s.collector.number_freed
    = (λ c x same. colour_balances first s.colours s.owns s.collector.times_freed
    s.collector.number_freed c x same k) in
    elim e as (λ e. can s e ≡ true → IsBalanced first (after s e)) [
      | event.Begin i ↦ λ h. own i _ refl
      | event.Look i ↦ λ h. own i _ refl
      | event.Read i place f ↦ λ h. own i _
          (read_claims (own_of s i) (field_of s (target_of s i place) f))
      | event.Fetch i place f ↦ λ h. own i _
          (read_claims (own_of s i) (field_of s (target_of s i place) f))
      | event.Mark i place ↦ λ h. own_balances first _ s.owns s.collector.times_freed
          s.collector.number_freed i _ refl
          (tinted (target_of s i place) _ (shaded_used (colour_of s (target_of s i place))))
      | event.Write i place f old new ↦ λ h. own i _ refl
      | event.Store i new ↦ λ h. own i _ refl
      | event.Claim i c ↦ λ h. claim_balanced first s i c range h k
      | event.Fill i place f value ↦ λ h. k
      | event.Seal i place kind ↦ λ h. k
      | event.Answer i ↦ λ h. own i _ refl
      | event.Keep i count from copies ↦ λ h. own i _ refl
      | event.End i ↦ λ h. own i _ refl
      | event.Over i ↦ λ h. k
      | event.Post target ↦ λ h. post_balanced first s target k
      | event.Duty on ↦ λ h. k
      | event.Poll i ↦ λ h. answered_each
          (λ c. Balances first s.colours s.owns c.times_freed c.number_freed) s.collector i
          (same_status (presence_of s i).status (wanted_of s)) (λ answered. k)
      | event.AnswerOut i over ↦ λ h. answered_each
          (λ c. Balances first s.colours s.owns c.times_freed c.number_freed) s.collector i
          (may_answer_out (wanted_of s) over (presence_of s i)) (λ answered. k)
      | event.ClearCell ↦ λ h. tinted s.collector.cursor _
          (cleared_used (colour_of s s.collector.cursor))
      | event.Anchor ↦ λ h. tinted 0 _ (shaded_used (colour_of s 0))
      | event.See c ↦ λ h. look_each
          (λ d. Balances first s.colours s.owns d.times_freed d.number_freed) s.collector s.cells c
          (colour_of s c) (λ cursor clean. k) (λ cursor. k)
      | event.Scan ↦ λ h. k
      | event.Shade ↦ λ h. tinted (child_of s) _ (shaded_used (colour_of s (child_of s)))
      | event.Blacken ↦ λ h. blacken_balanced_at first s s.collector.scan consistent refl h k
      | event.SweepLook ↦ λ h. k
      | event.Wipe ↦ λ h. k
      | event.Free ↦ λ h. free_balanced first s range consistent h k
      | event.Whiten ↦ λ h. tinted s.control.position colour.White
          (sym (ap is_used (consistent.sweep.found_black (black_found_is s.collector.sweep h))))
      | event.Advance ↦ λ h. k
    ] h

-- At the opening the first rows are in use, and nothing was claimed or freed.
pub opening_balanced : (cells : ℕ) (rooms : List ℕ) (first : List (List Field))
    → IsBalanced (length first) (opening cells rooms first)
opening_balanced cells rooms first =
    let n = length first in
    let whole : used_in (replicate n colour.White ++ replicate (cells - n) colour.Blue)
    ≡ used_in (replicate n colour.White) + used_in (replicate (cells - n) colour.Blue)
    = sum_by-append weight (replicate n colour.White) (replicate (cells - n) colour.Blue) in
    let white : used_in (replicate n colour.White)
    ≡ n * 1 = sum_by-replicate weight n colour.White in
    let blue : used_in (replicate (cells - n) colour.Blue)
    ≡ (cells - n) * 0 = sum_by-replicate weight (cells - n) colour.Blue in
    let none : claims_in (replicate (length rooms) no_own)
    ≡ length rooms * 0 = sum_by-replicate (λ o. o.claims) (length rooms) no_own in
    let never : sum (replicate cells 0) ≡ cells * 0 = sum_by-replicate (λ x. x) cells 0 in
    record { claims = omega arith; frees = omega arith }

pub every_run_balanced : (cells : ℕ) (rooms : List ℕ) (first : List (List Field))
    (events : List Event)
    → AreRows first → IsTrue (are_first_rows first) → length first ≤ cells
    → StaysBalanced (length first) (opening cells rooms first) events
every_run_balanced cells rooms first events six rows few k t leads =
    along_run (IsBalanced (length first)) (balanced_after (length first))
    (opening cells rooms first) (take k events) t leads
    (rows_shaped cells rooms first six rows few) (opening_consistent cells rooms first few rows)
    (opening_balanced cells rooms first)
