-- All events keep the ranges, and the opening has them.
use Rattle.std.proofs.Common.{◌≡◌, ◌≤◌, Bool, true, false, Some, Result, Ok, Err, refl, sym, ap}
use Rattle.std.proofs.Common.{subst}
use Rattle.core_machine.specs.declared.events.Event.{Event}
use Rattle.core_machine.specs.declared.events.Event.TheVariants as event
use Rattle.core_machine.specs.InRange.{IsShaped, InRange}
use Rattle.core_machine.specs.Takes.{Takes}
use Rattle.core_machine.specs.Next.{can, after, when, next}
use Rattle.core_machine.specs.State.{State, greatest_cells}
use Rattle.core_machine.proofs.Ranges.Collecting as collecting
use Rattle.core_machine.proofs.Ranges.Mutators as mutators

pub after_shaped : (s : State) (e : Event) → IsShaped s → can s e ≡ true → IsShaped (after s e)
after_shaped s (event.Begin i) r can = mutators.begin_keeps s r i
after_shaped s (event.Look i) r can = mutators.look_keeps s r i
after_shaped s (event.Read i place f) r can = mutators.read_keeps s r i place f
after_shaped s (event.Fetch i place f) r can = mutators.fetch_keeps s r i place f can
after_shaped s (event.Mark i place) r can = mutators.mark_keeps s r i place
after_shaped s
    (event.Write i place f old new) r can = mutators.write_keeps s r i place f old new can
after_shaped s (event.Store i new) r can = mutators.store_keeps s r i new can
after_shaped s (event.Claim i c) r can = mutators.claim_keeps s r i c can
after_shaped s (event.Fill i place f value) r can = mutators.fill_keeps s r i place f value can
after_shaped s (event.Seal i place kind) r can = mutators.seal_keeps s r i place kind
after_shaped s (event.Answer i) r can = mutators.answer_keeps s r i
after_shaped s (event.Keep i count from copies) r can = mutators.keep_keeps s r i count from copies
after_shaped s (event.End i) r can = mutators.end_keeps s r i
after_shaped s (event.Over i) r can = mutators.over_keeps s r i
after_shaped s (event.Post target) r can = collecting.post_keeps s r target can
after_shaped s (event.Duty on) r can = collecting.duty_keeps s r on
after_shaped s (event.Poll i) r can = collecting.poll_keeps s r i
after_shaped s (event.AnswerOut i over) r can = collecting.answer_out_keeps s r i over
after_shaped s event.ClearCell r can = collecting.clear_keeps s r can
after_shaped s event.Anchor r can = collecting.anchor_keeps s r
after_shaped s (event.See c) r can = collecting.see_keeps s r c can
after_shaped s event.Scan r can = collecting.scan_keeps s r can
after_shaped s event.Shade r can = collecting.shade_keeps s r can
after_shaped s event.Blacken r can = collecting.blacken_keeps s r can
after_shaped s event.SweepLook r can = collecting.sweep_look_keeps s r can
after_shaped s event.Wipe r can = collecting.wipe_keeps s r can
after_shaped s event.Free r can = collecting.free_keeps s r can
after_shaped s event.Whiten r can = collecting.whiten_keeps s r can
after_shaped s event.Advance r can = collecting.advance_keeps s r can

-- no event makes or unmakes a cell or a mutator
pub after_sizes : (s : State) (e : Event)
    → ((after s e).cells ≡ s.cells) × ((after s e).mutators ≡ s.mutators)
after_sizes s (event.Begin i) = (refl, refl)
after_sizes s _ = (refl, refl)

-- so the ranges stay
pub after_keeps : (s : State) (e : Event) → InRange s → can s e ≡ true → InRange (after s e)
after_keeps s e r can = record {
  shape = after_shaped s e r.shape can;
  few_cells = subst (λ n. n ≤ greatest_cells) (sym (after_sizes s e).0) r.few_cells;
}

-- an event that happens has its successor
pub when_some : (b : Bool) (t u : State) → when b t ≡ Some u → (b ≡ true) × (t ≡ u)
when_some true t u is = (refl, cc)
when_some false t u is = cc

-- whatever a call of one event answers, the ranges stay
pub takes_in_range : {U E : Type 0} (result : Result U E) (old new : State) (e : Event)
    → InRange old
    → Takes result old (next old e) new → InRange new
takes_in_range (Ok done) old new e r is =
    let happens = when_some (can old e) (after old e) new is in
    subst InRange happens.1 (after_keeps old e r happens.0)
takes_in_range (Err refusal) old new e r is = subst InRange (sym is.1) r

pub takes_sizes : {U E : Type 0} (result : Result U E) (old new : State) (e : Event)
    → Takes result old (next old e) new → (new.cells ≡ old.cells) × (new.mutators ≡ old.mutators)
takes_sizes (Ok done) old new e is =
    let happens = when_some (can old e) (after old e) new is in
    subst (λ (t : State). (t.cells ≡ old.cells) × (t.mutators ≡ old.mutators)) happens.1
    (after_sizes old e)
takes_sizes (Err refusal) old new e is =
    (ap (λ (t : State). t.cells) is.1, ap (λ (t : State). t.mutators) is.1)
