-- Every event keeps the invariant: a line a kind, each with its argument in Events.
use Rattle.std.proofs.Common.{◌≡◌, true}
use Rattle.core_machine.specs.declared.events.Event.{Event}
use Rattle.core_machine.specs.declared.events.Event.TheVariants as event
use Rattle.core_machine.specs.State.{State}
use Rattle.core_machine.specs.InRange.{IsShaped}
use Rattle.core_machine.specs.Next.{can, after}
use Rattle.dlg_core.specs.Consistent.{IsConsistent}
use Rattle.dlg_core.proofs.Events.Answer.{answer_keeps}
use Rattle.dlg_core.proofs.Events.Blacken.{blacken_keeps}
use Rattle.dlg_core.proofs.Events.Claim.{claim_keeps}
use Rattle.dlg_core.proofs.Events.Clear.{clear_keeps, anchor_keeps}
use Rattle.dlg_core.proofs.Events.Holding.{look_keeps, read_keeps, fetch_keeps, keep_keeps}
use Rattle.dlg_core.proofs.Events.Mark.{mark_keeps}
use Rattle.dlg_core.proofs.Events.Post.{post_keeps}
use Rattle.dlg_core.proofs.Events.Presence.{begin_keeps, end_keeps, over_keeps}
use Rattle.dlg_core.proofs.Events.Seal.{seal_keeps}
use Rattle.dlg_core.proofs.Events.Sweep.{sweep_look_keeps, wipe_keeps, free_keeps, whiten_keeps}
use Rattle.dlg_core.proofs.Events.Sweep.{advance_keeps}
use Rattle.dlg_core.proofs.Events.Trace.{see_keeps, scan_keeps, shade_keeps}
use Rattle.dlg_core.proofs.Events.Waiting.{duty_keeps, poll_keeps, answer_out_keeps}
use Rattle.dlg_core.proofs.Events.Write.{write_keeps, store_keeps, fill_keeps}

pub consistent_after : (s : State) (e : Event) → IsShaped s → IsConsistent s → can s e ≡ true
    → IsConsistent (after s e)
consistent_after s (event.Begin i) range k h = begin_keeps s i k h
consistent_after s (event.Look i) range k h = look_keeps s i range k h
consistent_after s (event.Read i place f) range k h = read_keeps s i place f k h
consistent_after s (event.Fetch i place f) range k h = fetch_keeps s i place f k h
consistent_after s (event.Mark i place) range k h = mark_keeps s i place range k h
consistent_after s
    (event.Write i place f old new) range k h = write_keeps s i place f old new range k h
consistent_after s (event.Store i new) range k h = store_keeps s i new range k h
consistent_after s (event.Claim i c) range k h = claim_keeps s i c range k h
consistent_after s (event.Fill i place f value) range k h = fill_keeps s i place f value range k h
consistent_after s (event.Seal i place kind) range k h = seal_keeps s i place kind range k h
consistent_after s (event.Answer i) range k h = answer_keeps s i range k h
consistent_after s (event.Keep i count from copies) range k h = keep_keeps s i count from copies k h
consistent_after s (event.End i) range k h = end_keeps s i k h
consistent_after s (event.Over i) range k h = over_keeps s i k h
consistent_after s (event.Post target) range k h = post_keeps s target range k h
consistent_after s (event.Duty on) range k h = duty_keeps s on k
consistent_after s (event.Poll i) range k h = poll_keeps s i k
consistent_after s (event.AnswerOut i over) range k h = answer_out_keeps s i over range k h
consistent_after s event.ClearCell range k h = clear_keeps s range k h
consistent_after s event.Anchor range k h = anchor_keeps s range k h
consistent_after s (event.See c) range k h = see_keeps s c k h
consistent_after s event.Scan range k h = scan_keeps s k h
consistent_after s event.Shade range k h = shade_keeps s range k h
consistent_after s event.Blacken range k h = blacken_keeps s range k h
consistent_after s event.SweepLook range k h = sweep_look_keeps s range k h
consistent_after s event.Wipe range k h = wipe_keeps s range k h
consistent_after s event.Free range k h = free_keeps s range k h
consistent_after s event.Whiten range k h = whiten_keeps s range k h
consistent_after s event.Advance range k h = advance_keeps s range k h
