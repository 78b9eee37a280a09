-- Every event keeps what holds of the set that is followed: a line a kind.
use Rattle.std.proofs.Common.{◌≡◌, true}
use Rattle.core_machine.specs.declared.events.Event.{Event}
use Rattle.core_machine.specs.declared.events.Event.TheVariants as event
use Rattle.core_machine.specs.Own.{looked, spent, ended}
use Rattle.core_machine.specs.State.{State, own_of, held_of}
use Rattle.core_machine.specs.InRange.{IsShaped}
use Rattle.core_machine.specs.Next.{can, after}
use Rattle.core_machine.proofs.Conditions.{read_needs, fetch_needs, mark_needs}
use Rattle.dlg_core.specs.Consistent.{IsConsistent}
use Rattle.dlg_core.proofs.Collects.Followed.{IsFollowed}
use Rattle.dlg_core.proofs.Collects.Mutating.{own_followed, beside_followed, begin_followed}
use Rattle.dlg_core.proofs.Collects.Mutating.{unmark_followed, read_followed, fetch_followed}
use Rattle.dlg_core.proofs.Collects.Mutating.{mark_followed, keep_followed, write_followed}
use Rattle.dlg_core.proofs.Collects.Mutating.{store_followed, fill_followed}
use Rattle.dlg_core.proofs.Collects.Mutating.{seal_followed, claim_followed}
use Rattle.dlg_core.proofs.Collects.Posting.{post_followed, duty_followed, poll_followed}
use Rattle.dlg_core.proofs.Collects.Posting.{answer_out_followed}
use Rattle.dlg_core.proofs.Collects.Sweeping.{look_followed, wipe_followed, free_followed}
use Rattle.dlg_core.proofs.Collects.Sweeping.{whiten_followed, advance_followed}
use Rattle.dlg_core.proofs.Collects.Tracing.{clear_followed, see_followed, scan_followed}
use Rattle.dlg_core.proofs.Collects.Tracing.{shade_followed, blacken_followed}
use Rattle.dlg_core.proofs.HeldLists.{holds_unmark}

pub followed_after : (old s : State) (e : Event) → IsShaped s → IsConsistent s → can s e ≡ true
    → IsFollowed old s
    → IsFollowed old (after s e)
followed_after old s (event.Begin i) range consistent h k = begin_followed old s i k
followed_after old s (event.Look i) range consistent h k =
    unmark_followed old s i (looked (own_of s i) s.control) (λ c. holds_unmark (held_of s i) c) k
followed_after old s (event.Read i place f) range consistent h k =
    read_followed old s i place f (read_needs s i place f h).there k
followed_after old s (event.Fetch i place f) range consistent h k =
    fetch_followed old s i place f (fetch_needs s i place f h).there k
followed_after old s (event.Mark i place) range consistent h k =
    mark_followed old s i place (mark_needs s i place h).there k
followed_after old s
    (event.Write i place f expected value) range consistent h k = write_followed old s i place f
    expected value h k
followed_after old s (event.Store i new) range consistent h k = store_followed old s i new h k
followed_after old s (event.Claim i c) range consistent h k = claim_followed old s i c k
followed_after old s
    (event.Fill i place f value) range consistent h k = fill_followed old s i place f value h k
followed_after old s
    (event.Seal i place kind) range consistent h k = seal_followed old s i place kind k
followed_after old s (event.Answer i) range consistent h k =
    unmark_followed old s i (spent (own_of s i)) (λ c. holds_unmark (held_of s i) c) k
followed_after old s
    (event.Keep i count from copies) range consistent h k = keep_followed old s i count from copies
    k
followed_after old s (event.End i) range consistent h k = own_followed old s i (ended (own_of s i))
    (λ c held left. cc) k
followed_after old s (event.Over i) range consistent h k = k
followed_after old s
    (event.Post target) range consistent h k = post_followed old s target range consistent h k
followed_after old s (event.Duty on) range consistent h k = duty_followed old s on k
followed_after old s (event.Poll i) range consistent h k = poll_followed old s i k
followed_after old s
    (event.AnswerOut i over) range consistent h k = answer_out_followed old s i over k
followed_after old s event.ClearCell range consistent h k = clear_followed old s h k
followed_after old s event.Anchor range consistent h k = beside_followed old s 0 _ k.apart.anchor k
followed_after old s (event.See c) range consistent h k = see_followed old s c k
followed_after old s event.Scan range consistent h k = scan_followed old s consistent h k
followed_after old s event.Shade range consistent h k = shade_followed old s consistent h k
followed_after old s event.Blacken range consistent h k = blacken_followed old s consistent h k
followed_after old s event.SweepLook range consistent h k = look_followed old s h k
followed_after old s event.Wipe range consistent h k = wipe_followed old s h k
followed_after old s event.Free range consistent h k = free_followed old s range consistent h k
followed_after old s event.Whiten range consistent h k = whiten_followed old s range consistent h k
followed_after old s event.Advance range consistent h k = advance_followed old s h k
