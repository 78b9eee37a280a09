-- Clearing and tracing. In the first cycle they may do as they like with the set that is followed;
-- in the next one its cells are white and none is the child, so they pass it by.
--
-- ClearCell      a white cell stays white.
-- Scan           the cell under scan is gray, so it is outside, and what it names is.
-- Shade, Blacken the child and the cell under scan are outside.
use Rattle.std.proofs.Common.{◌≡◌, ◌≢◌, ℕ, true, not, Option, Some, None, is_none, ◌+◌, refl, ◌∙◌}
use Rattle.std.proofs.Common.{ap}
use Rattle.cell_words.specs.declared.colours.Colour.{Colour}
use Rattle.cell_words.specs.declared.colours.Colour.TheVariants as colour
use Rattle.cell_words.specs.declared.controls.Stage.TheVariants as stage
use Rattle.cell_words.specs.declared.fields.Field.{Field}
use Rattle.cell_words.specs.declared.fields.Field.TheVariants as field
use Rattle.core_machine.specs.declared.events.Event.TheVariants as event
use Rattle.core_machine.specs.declared.progress.Scanning.{Scanning}
use Rattle.core_machine.specs.Collector.{scanned, on_scan, scan_shaded}
use Rattle.core_machine.specs.State.{State, colour_of, field_of}
use Rattle.core_machine.specs.Tracing.{may_scan, may_shade, may_blacken, scan_or_none}
use Rattle.core_machine.specs.Tracing.{child_or_anchor}
use Rattle.core_machine.specs.Words.{shaded, cleared}
use Rattle.core_machine.specs.Next.{can, after}
use Rattle.core_machine.proofs.Conditions.{clear_needs}
use Rattle.dlg_core.specs.Consistent.{IsConsistent}
use Rattle.dlg_core.specs.Facts.{child_in}
use Rattle.dlg_core.proofs.Changes.Noted.{look_each}
use Rattle.dlg_core.proofs.Changes.Shade.{with_colour, shaded_blue, cleared_blue}
use Rattle.dlg_core.proofs.Collects.Changes.{colour_apart, colour_way, scan_way}
use Rattle.dlg_core.proofs.Collects.Followed.{Follows, IsLeftIn, IsFollowed}
use Rattle.dlg_core.proofs.Changes.Pass.{with_scan}

-- A colour changes outside of the sweep: no cell of the set becomes blue, and in the next cycle
-- none gets another colour than white.
pub colour_followed : (old s : State) (c : ℕ) (x : Colour) → s.control.stage ≢ stage.Sweep
    → (IsLeftIn old s c → x ≢ colour.Blue)
    → (s.control.cycles ≡ old.control.cycles + 1 → IsLeftIn old s c → x ≡ colour.White)
    → IsFollowed old s → IsFollowed old (with_colour s c x)
colour_followed old s c x other not_blue white k = record {
  grown = k.grown;
  apart = colour_apart (IsLeftIn old s) s.rows s.owns s.colours c x not_blue k.apart;
  way = colour_way
      (IsLeftIn old s) old.control.cycles s.colours s.control s.collector.sweep s.collector.scan c x
      (λ first now. absurd (other now)) white k.way;
}

pub scan_followed_to : (old s : State) (further : Option Scanning)
    → (s.control.cycles ≡ old.control.cycles + 1 → (c : ℕ) → child_in further ≡ Some c
    → IsLeftIn old s c → ⊥)
    → IsFollowed old s → IsFollowed old (with_scan s further)
scan_followed_to old s further fits k = record {
  grown = k.grown;
  apart = k.apart;
  way = scan_way
      (IsLeftIn old s) old.control.cycles s.colours s.control s.collector.sweep s.collector.scan
      further fits k.way;
}

pub clear_followed : (old s : State) → can s event.ClearCell ≡ true → IsFollowed old s
    → IsFollowed old (after s event.ClearCell)
clear_followed old s h k =
    let c = s.collector.cursor in
    let now = (clear_needs s h).now in
    colour_followed old s c (cleared (colour_of s c)) (λ e. cc)
    (λ left blue. k.apart.not_blue c left (cleared_blue (colour_of s c) blue))
    (λ next left. ap cleared (k.way.white next c left)) k

pub see_followed : (old s : State) (c : ℕ) → IsFollowed old s
    → IsFollowed old (after s (event.See c))
see_followed old s c k =
    look_each (λ d. Follows old s.colours s.rows s.owns s.control d.sweep d.scan d.times_freed)
    s.collector s.cells c (colour_of s c)
    (λ cursor clean. k) (λ cursor. scan_followed_to old s _ (λ next d e. absurd cc) k)

pub scan_followed_at : (old s : State) (x : Scanning) (found : Field) → IsConsistent s
    → s.collector.scan ≡ Some x
    → field_of s x.cell x.next ≡ found → IsFollowed old s
    → IsFollowed old (with_scan s (Some (scanned x found)))
scan_followed_at old s x field.Null consistent is e k =
    scan_followed_to old s _ (λ next c child. k.way.no_child next c (ap child_in is ∙ child)) k
scan_followed_at old s x (field.Num n) consistent is e k =
    scan_followed_to old s _ (λ next c child. k.way.no_child next c (ap child_in is ∙ child)) k
scan_followed_at old s x (field.Cell w) consistent is e k =
    scan_followed_to old s _ (λ next c child left.
    let same : w ≡ c = cc in
    let outer = k.apart.named x.cell c x.next (e ∙ ap (λ d. field.Cell d) same) left in
    let white = k.way.white next x.cell outer in
    let gray = (consistent.tracing.scans x is).gray in cc) k

pub scan_followed : (old s : State) → IsConsistent s → can s event.Scan ≡ true → IsFollowed old s
    → IsFollowed old (after s event.Scan)
scan_followed old s consistent h k =
    elim s.collector.scan as (λ scan. s.collector.scan ≡ scan → may_scan scan ≡ true
    → IsFollowed old
    (with_scan s
    (on_scan (λ x. scanned x (field_of s (scan_or_none scan).cell (scan_or_none scan).next))
    scan))) [
      | None ↦ λ is may. absurd cc
      | Some x ↦ λ is may. scan_followed_at old s x (field_of s x.cell x.next) consistent is refl k
    ] refl h

pub shade_followed_at : (old s : State) (x : Scanning) (child : Option ℕ) → IsConsistent s
    → s.collector.scan ≡ Some x
    → x.child ≡ child → not (is_none child) ≡ true → IsFollowed old s
    → IsFollowed old
    (with_scan
    (with_colour s (child_or_anchor child) (shaded (colour_of s (child_or_anchor child))))
    (Some (scan_shaded x)))
shade_followed_at old s x None consistent is e h k = absurd cc
shade_followed_at old s x (Some w) consistent is e h k =
    let t = with_colour s w (shaded (colour_of s w)) in
    let now = (consistent.tracing.scans x is).traces in
    scan_followed_to old t (Some (scan_shaded x)) (λ next c child. absurd cc)
    (colour_followed old s w (shaded (colour_of s w)) (λ sweeps. cc)
    (λ left blue. k.apart.not_blue w left (shaded_blue (colour_of s w) blue))
    (λ next left. absurd (k.way.no_child next w (ap child_in is ∙ e) left)) k)

pub shade_followed : (old s : State) → IsConsistent s → can s event.Shade ≡ true → IsFollowed old s
    → IsFollowed old (after s event.Shade)
shade_followed old s consistent h k =
    elim s.collector.scan as (λ scan. s.collector.scan ≡ scan → may_shade scan ≡ true
    → IsFollowed old (with_scan (with_colour s (child_or_anchor (scan_or_none scan).child)
    (shaded (colour_of s (child_or_anchor (scan_or_none scan).child))))
    (on_scan scan_shaded scan))) [
      | None ↦ λ is may. absurd cc
      | Some x ↦ λ is may. shade_followed_at old s x x.child consistent is refl may k
    ] refl h

pub blacken_followed_at : (old s : State) (x : Scanning) → IsConsistent s
    → s.collector.scan ≡ Some x → IsFollowed old s
    → IsFollowed old (with_scan (with_colour s x.cell colour.Black) None)
blacken_followed_at old s x consistent is k =
    let facts = consistent.tracing.scans x is in
    let now = facts.traces in
    let gray = facts.gray in
    scan_followed_to old (with_colour s x.cell colour.Black) None (λ next c child. absurd cc)
    (colour_followed old s x.cell colour.Black (λ sweeps. cc) (λ left blue. cc)
    (λ next left. let white = k.way.white next x.cell left in cc) k)

pub blacken_followed : (old s : State) → IsConsistent s → can s event.Blacken ≡ true
    → IsFollowed old s
    → IsFollowed old (after s event.Blacken)
blacken_followed old s consistent h k =
    elim s.collector.scan as (λ scan. s.collector.scan ≡ scan → may_blacken scan ≡ true
    → IsFollowed old (with_scan (with_colour s (scan_or_none scan).cell colour.Black) None)) [
      | None ↦ λ is may. absurd cc
      | Some x ↦ λ is may. blacken_followed_at old s x consistent is k
    ] refl h
