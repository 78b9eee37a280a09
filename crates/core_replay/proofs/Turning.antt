-- A turn that goes on leaves less to do: dlg_core has that of the plain collector's events. The
-- number that falls is `left` of its specs/Left, which goes on to the end of the cycle. That a
-- Blacken leaves a cell less rests on a fact of the core's invariant: the cell under scan is gray.
use Rattle.std.proofs.Common.{◌≡◌, ℕ, ◌+◌, ◌^◌, ◌≤◌, Bool, true, false, length}
use Rattle.std.proofs.Common.{Option, Some, None, refl, sym, subst, arith}
use Rattle.std.proofs.lemmas.Nat.{mul-le}
use Rattle.core_machine.specs.declared.events.Event.{Event}
use Rattle.core_machine.specs.declared.events.Event.TheVariants as event
use Rattle.core_machine.specs.Next.{can, after, when}
use Rattle.core_machine.specs.State.{State}
use Rattle.core_replay.specs.Standing.{HasFallen, IsReplayed, Standing, counted, taken_by}
use Rattle.core_replay.specs.Turns.{Ends, Stopped, is_post, looked, turn_of, turned}
use Rattle.dlg_core.specs.Left.{left, left_behind}
use Rattle.dlg_core.specs.Plain.{next_plain_of}
use Rattle.dlg_core.specs.PlainCycle.{behind_look, ends_cycle, look_before, turn_with}
use Rattle.dlg_core.proofs.Finishing.Falls as falls
use Rattle.dlg_core.proofs.Finishing.Handshakes.{LeavesAll, plain_falls}

-- What a turn is, by what its events found.

pub turn_without : (p : Standing) → next_plain_of p.core ≡ None → turn_of p ≡ Ends (Stopped p)
unfolding turn_of
turn_without p none = rw none refl

pub turn_unlooked : (p : Standing) (e : Event) → next_plain_of p.core ≡ Some e
    → looked p (look_before e) ≡ None
    → turn_of p ≡ Ends (Stopped p)
unfolding turn_of
turn_unlooked p e plain none = rw (plain, none) refl

pub turn_refused : (p q : Standing) (e : Event) → next_plain_of p.core ≡ Some e
    → looked p (look_before e) ≡ Some q
    → taken_by q e ≡ None → turn_of p ≡ Ends (Stopped q)
unfolding turn_of
turn_refused p q e plain look none = rw (plain, look, none) refl

pub turn_taken : (p q r : Standing) (e : Event) → next_plain_of p.core ≡ Some e
    → looked p (look_before e) ≡ Some q
    → taken_by q e ≡ Some r → turn_of p ≡ turned (is_post e) q (Some r)
unfolding turn_of
turn_taken p q r e plain look take = rw (plain, look, take) refl

-- What a turn leaves.

when_taken : (happens : Bool) (s : State) (taken : ℕ) (q : Standing)
    → counted taken (when happens s) ≡ Some q
    → (happens ≡ true) × (record { core = s; taken = taken + 1 } ≡ q)
when_taken true s taken q is = (refl, cc)
when_taken false s taken q is = absurd cc

-- by the look before the event
falls_by : (p q r : Standing) (e : Event) (look : Option Event) → LeavesAll p.core look
    → (can p.core e ≡ true
    → left (after p.core e) + length (behind_look look e) ≤ left p.core)
    → looked p look ≡ Some q → taken_by q e ≡ Some r → HasFallen p r
falls_by p q r e None leaves less looks takes =
    let same : p ≡ q = cc in
    let done = when_taken (can p.core e) (after p.core e) p.taken r
    (subst (λ x. taken_by x e ≡ Some r) (sym same) takes) in
    let fewer = less done.0 in
    subst (HasFallen p) done.1 (omega arith, omega arith)
falls_by p q r e (Some look) leaves less looks takes =
    let polled = when_taken (can p.core look) (after p.core look) p.taken q looks in
    let stays : record { core = p.core; taken = p.taken + 1 } ≡ q
    = subst (λ (s : State). record { core = s; taken = p.taken + 1 } ≡ q) leaves polled.1 in
    let from : taken_by (record { core = p.core; taken = p.taken + 1 }) e ≡ Some r
    = subst (λ x. taken_by x e ≡ Some r) (sym stays) takes in
    let done = when_taken (can p.core e) (after p.core e) (p.taken + 1) r from in
    let fewer = less done.0 in
    subst (HasFallen p) done.1 (omega arith, omega arith)

-- an event that does not post ends no cycle
no_end : (e : Event) → is_post e ≡ false → ends_cycle e ≡ false
no_end (event.Post target) other = absurd cc
no_end _ other = refl

pub turn_falls : (p q r : Standing) (e : Event) → IsReplayed p.core → next_plain_of p.core ≡ Some e
    → looked p (look_before e) ≡ Some q → taken_by q e ≡ Some r → is_post e ≡ false → HasFallen p r
turn_falls p q r e replayed plain looks takes other =
    let turn = plain_falls p.core e replayed.kept plain in
    falls_by p q r e (look_before e) turn.look
    (subst (λ b. can p.core e ≡ true
    → left_behind b (after p.core e) + length (turn_with e) ≤ left p.core) (no_end e other)
    turn.less) looks takes

-- How much there can be to do.

pub left_few : (s : State) → IsReplayed s → left s + 2 ≤ 2 ^ 18
left_few s r =
    let few = falls.left_few s r.kept in
    let cells = r.few_cells in
    let mutators = r.few_mutators in
    let square = mul-le s.cells s.cells 256 256 cells cells in
    omega arith
