-- What no event of a run touches: the cell that is being wiped is not reachable, so a record that
-- is reachable keeps its fields.
use Rattle.std.proofs.Common.{◌≡◌, ◌≢◌, ℕ, Bool, true, false, not, refl, sym, ◌∙◌, ap, subst}
use Rattle.cell_words.specs.declared.fields.Field.{Field}
use Rattle.cell_words.specs.declared.fields.Field.TheVariants as field
use Rattle.core_machine.specs.declared.events.Event.{Event}
use Rattle.core_machine.specs.declared.events.Event.TheVariants as event
use Rattle.core_machine.specs.declared.progress.Sweeping.TheVariants as sweeping
use Rattle.core_machine.specs.InRange.{IsShaped}
use Rattle.core_machine.specs.Next.{can, after}
use Rattle.core_machine.specs.State.{State, field_in, field_of, own_of, target_of, begun_of}
use Rattle.core_machine.specs.State.{set_field}
use Rattle.core_machine.specs.Sweep.{wiped_count}
use Rattle.core_machine.specs.Words.{is_box_kind, is_raw_kind}
use Rattle.core_machine.proofs.Conditions.{write_needs, store_needs, fill_needs, seal_needs}
use Rattle.core_machine.proofs.Frames.{set_field_other}
use Rattle.dlg_core.specs.Consistent.{IsConsistent}
use Rattle.dlg_core.specs.Facts.{is_live, live, unswept}
use Rattle.dlg_core.specs.Reachable.{Reachable}
use Rattle.dlg_core.proofs.Changes.Shade.{here_unswept}
use Rattle.dlg_core.proofs.Safety.{reachable_live}
use Rattle.dlg_core.proofs.Truths.{wipe_is, begun_is}
use Rattle.dlg_core.proofs.Changes.Sweep.{busy_now}

-- the cell that is being wiped is not live
pub wiping_not_live : (s : State) (k : ℕ) → IsShaped s → IsConsistent s → s.collector.sweep
    ≡ sweeping.Wiping k
    → live s.colours s.control s.collector.sweep s.control.position ≡ false
wiping_not_live s k range consistent is =
    let now = busy_now s (sweeping.Wiping k) range is (λ e. cc) in
    let ahead : unswept s.control s.collector.sweep s.control.position ≡ true =
    here_unswept s.control s.collector.sweep now (λ done. let no = sym is ∙ done in cc) in
    ap (λ x. is_live x (unswept s.control s.collector.sweep s.control.position))
    (consistent.sweep.wipes k is).white
    ∙ ap not ahead

-- so it is not reachable
pub wiping_not_reachable : (s : State) (k : ℕ) → IsShaped s → IsConsistent s → s.collector.sweep
    ≡ sweeping.Wiping k
    → ¬ (Reachable s s.control.position)
wiping_not_reachable s k range consistent is reachable =
    let dead = wiping_not_live s k range consistent is in
    let alive = reachable_live s consistent s.control.position reachable in
    cc

-- a field of another cell is written
beside : (s : State) (x g c f : ℕ) (value : Field) → c ≢ x
    → field_in (set_field s.rows x g value) c f ≡ field_of s c f
beside s x g c f value other = set_field_other s.rows x g c f value (λ is same. other is)

-- the kind of this cell is not that of the other
apart : (s : State) (c x : ℕ) (test : Field → Bool) (one other : Bool) → test (field_of s c 5) ≡ one
    → test (field_of s x 5) ≡ other
    → (one ≡ other → ⊥) → c ≢ x
apart s c x test one other here there differs is =
    differs (sym here ∙ ap (λ (d : ℕ). test (field_of s d 5)) is ∙ there)

-- a record that is reachable keeps its fields at every event
pub record_kept : (s : State) (e : Event) (c f : ℕ) → IsShaped s → IsConsistent s → can s e ≡ true
    → Reachable s c
    → field_of s c 5 ≡ field.Num 1 → field_of (after s e) c f ≡ field_of s c f
record_kept s (event.Write i place g old new) c f range k h reachable is =
    let x = target_of s i place in
    beside s x g c f _ (apart s c x is_box_kind false true (ap is_box_kind is)
    (write_needs s i place g old new h).box (λ e. cc))
record_kept s (event.Store i new) c f range k h reachable is =
    let write = begun_of s i in
    let begun = begun_is (own_of s i).pending (store_needs s i new h).begun in
    let x = target_of s i write.place in
    beside s x write.f c f _ (apart s c x is_box_kind false true (ap is_box_kind is)
    (k.cells.pendings i write begun).box (λ e. cc))
record_kept s (event.Fill i place g value) c f range k h reachable is =
    let x = target_of s i place in
    beside s x g c f _ (apart s c x is_raw_kind false true (ap is_raw_kind is)
    (fill_needs s i place g value h).raw (λ e. cc))
record_kept s (event.Seal i place kind) c f range k h reachable is =
    let x = target_of s i place in
    beside s x 5 c f _ (apart s c x is_raw_kind false true (ap is_raw_kind is)
    (seal_needs s i place h).raw (λ e. cc))
record_kept s event.Wipe c f range k h reachable is =
    let wiping = wipe_is s.collector.sweep h in
    beside s s.control.position (wiped_count s.collector.sweep) c f _
    (λ here. wiping_not_reachable s wiping.0 range k wiping.1 (subst (Reachable s) here reachable))
record_kept s _ c f range k h reachable is = refl
