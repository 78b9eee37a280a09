-- The sweep: a cell of the set that is white is wiped and freed, and then it is in the set no more;
-- one that is black, in the first sweep, becomes white.
--
-- SweepLook, Advance  pass by a cell that is done: a blue one, or one that was dealt with.
-- Wipe                a field becomes null, so it names none of the set.
-- Free                the cell leaves the set, and names nothing any more.
-- Whiten              in the next sweep the cell is outside, since it was black.
use Rattle.std.proofs.Common.{◌≡◌, ◌≢◌, inl, inr, ℕ, true, false, not, slice_index, length, ◌+◌}
use Rattle.std.proofs.Common.{◌<◌, ◌≤◌, refl, sym, subst, ◌∙◌, ap, arith}
use Rattle.std.specs.Prelude.{slice_set}
use Rattle.std.proofs.lemmas.Bool.{cases_lt, not_from_false}
use Rattle.std.proofs.lemmas.List.{get_or-set_same, get_or-set_other}
use Rattle.cell_words.specs.declared.colours.Colour.{Colour}
use Rattle.cell_words.specs.declared.colours.Colour.TheVariants as colour
use Rattle.cell_words.specs.declared.controls.Control.{Control}
use Rattle.cell_words.specs.declared.fields.Field.TheVariants as field
use Rattle.core_machine.specs.declared.events.Event.TheVariants as event
use Rattle.core_machine.specs.declared.progress.Sweeping.{Sweeping}
use Rattle.core_machine.specs.declared.progress.Sweeping.TheVariants as sweeping
use Rattle.core_machine.specs.Collector.{sweep_of, wiped}
use Rattle.core_machine.specs.State.{State, colour_in, colour_of, field_of, freed_of}
use Rattle.core_machine.specs.Sweep.{is_done, wiped_count}
use Rattle.core_machine.specs.Words.{is_gray}
use Rattle.core_machine.specs.InRange.{IsShaped}
use Rattle.core_machine.specs.Next.{can, after}
use Rattle.core_machine.proofs.Conditions.{sweep_look_needs, advance_needs}
use Rattle.dlg_core.specs.Consistent.{IsConsistent}
use Rattle.dlg_core.specs.Facts.{unswept}
use Rattle.dlg_core.proofs.Changes.Field.{with_field}
use Rattle.dlg_core.proofs.Changes.Sweep.{at_position, same_unswept, unswept_elsewhere}
use Rattle.dlg_core.proofs.Changes.Sweep.{position_below}
use Rattle.dlg_core.proofs.Collects.Changes.{colour_apart, colour_way, colour_beside, sweep_way}
use Rattle.dlg_core.proofs.Collects.Changes.{fewer_way}
use Rattle.dlg_core.proofs.Collects.Followed.{Follows, IsLeft, IsLeftIn, IsFollowed}
use Rattle.dlg_core.proofs.Collects.Mutating.{field_followed}
use Rattle.dlg_core.proofs.Each.{set_each, null_beyond}
use Rattle.dlg_core.proofs.Events.Sweep.{advance_unswept}
use Rattle.dlg_core.proofs.Truths.{free_is, black_found_is, wipe_is}

-- The word on the cell at the position changes, and what is still to be swept is.
pub word_followed : (old s : State) (later : Control) (further : Sweeping)
    → later.cycles ≡ s.control.cycles
    → later.stage ≡ s.control.stage
    → ((c : ℕ) → IsLeftIn old s c → unswept s.control s.collector.sweep c ≡ true
    → unswept later further c ≡ true)
    → IsFollowed old s
    → Follows old s.colours s.rows s.owns later further s.collector.scan s.collector.times_freed
word_followed old s later further cycles now far k = record {
  grown = k.grown;
  apart = k.apart;
  way = sweep_way
      (IsLeftIn old s) old.control.cycles s.colours s.control later s.collector.sweep further
      s.collector.scan cycles now
      (λ c left black. far c left) (λ next c left. far c left) k.way;
}

-- SweepLook.

pub look_followed_at : (old s : State) (x : Colour) → is_done s.collector.sweep ≡ false
    → colour_of s s.control.position ≡ x
    → not (is_gray x) ≡ true → IsFollowed old s
    → Follows old s.colours s.rows s.owns s.control
    (sweep_of x) s.collector.scan s.collector.times_freed
look_followed_at old s colour.Blue undone is h k =
    word_followed old s s.control sweeping.Done refl refl (λ c left far.
    unswept_elsewhere s.control sweeping.Done s.collector.sweep c
    (λ here. k.apart.not_blue c left (ap (colour_of s) here ∙ is)) ∙ far) k
look_followed_at old s colour.White undone is h k =
    word_followed old s s.control (sweeping.Wiping 0) refl refl (λ c left far.
    same_unswept s.control (sweeping.Wiping 0) s.collector.sweep c (sym undone) ∙ far) k
look_followed_at old s colour.Gray undone is h k = absurd cc
look_followed_at old s colour.Black undone is h k =
    word_followed old s s.control sweeping.BlackFound refl refl (λ c left far.
    same_unswept s.control sweeping.BlackFound s.collector.sweep c (sym undone) ∙ far) k

pub look_followed : (old s : State) → can s event.SweepLook ≡ true → IsFollowed old s
    → IsFollowed old (after s event.SweepLook)
look_followed old s h k =
    let needs = sweep_look_needs s h in
    look_followed_at old s (colour_of s s.control.position) (ap is_done needs.fresh) refl
    (not_from_false _ needs.not_gray) k

-- Wipe.

pub wipe_followed : (old s : State) → can s event.Wipe ≡ true → IsFollowed old s
    → IsFollowed old (after s event.Wipe)
wipe_followed old s h k =
    let r = wipe_is s.collector.sweep h in
    let same : is_done (wiped s.collector.sweep) ≡ is_done s.collector.sweep
    = ap (λ w. is_done (wiped w)) r.1 ∙ sym (ap is_done r.1) in
    let t = with_field s s.control.position (wiped_count s.collector.sweep) field.Null in
    word_followed old t s.control (wiped s.collector.sweep) refl refl
    (λ c left far. same_unswept s.control (wiped s.collector.sweep) s.collector.sweep c same ∙ far)
    (field_followed old s s.control.position (wiped_count s.collector.sweep) field.Null
    (λ d is. absurd cc) k)

-- Free.

-- the cell that was freed is in the set no more
pub left_before : (old s : State) → s.control.position < length s.collector.times_freed
    → IsFollowed old s → (c : ℕ)
    → IsLeft old (slice_set s.collector.times_freed s.control.position
    (slice_index s.collector.times_freed s.control.position + 1)) c
    → (c ≢ s.control.position) × IsLeftIn old s c
left_before old s lt k c left =
    let p = s.control.position in
    let times = s.collector.times_freed in
    let apart : c ≢ p = (λ here.
    let more : slice_index (slice_set times p (slice_index times p + 1)) p ≡ slice_index times p + 1
    = get_or-set_same times p (slice_index times p + 1) 0 lt in
    let unfreed : slice_index (slice_set times p (slice_index times p + 1)) p ≡ freed_of old p
    = subst (λ n. slice_index (slice_set times p (slice_index times p + 1)) n ≡ freed_of old n) here
    left.unfreed in
    let grown = k.grown p in absurd (omega arith)) in (
      apart,
      record {
        garbage = left.garbage;
        unfreed = sym (get_or-set_other times p c (slice_index times p + 1) 0 apart) ∙ left.unfreed;
      },
    )

pub left_after : (old s : State) (c : ℕ) → c ≢ s.control.position → IsLeftIn old s c
    → IsLeft old (slice_set s.collector.times_freed s.control.position
    (slice_index s.collector.times_freed s.control.position + 1)) c
left_after old s c apart left = record {
  garbage = left.garbage;
  unfreed = get_or-set_other s.collector.times_freed s.control.position c
      (slice_index s.collector.times_freed s.control.position + 1) 0 apart ∙ left.unfreed;
}

pub free_followed : (old s : State) → IsShaped s → IsConsistent s → can s event.Free ≡ true
    → IsFollowed old s
    → IsFollowed old (after s event.Free)
free_followed old s range consistent h k =
    let p = s.control.position in
    let times = s.collector.times_freed in
    let is = free_is s.collector.sweep h in
    let wipes = consistent.sweep.wipes 6 is in
    let there : p < length times
    = (let lt = position_below s (sweeping.Wiping 6) range is (λ e. cc) in
    let a = range.cells_fit.colours_fit in let b = range.cells_fit.freed_fit in omega arith) in
    let less : ℕ → Type 0 = IsLeft old (slice_set times p (slice_index times p + 1)) in
    let before = left_before old s there k in
    let null : (f : ℕ) → field_of s p f ≡ field.Null = (λ f. elim (cases_lt f 6) [
      | inl six ↦ wipes.null f six
      | inr past ↦ null_beyond s p f range past
    ]) in
    let unlike : (c : ℕ) → less c → colour_in (slice_set s.colours p colour.Blue) c ≡ colour_of s c
    = (λ c left. get_or-set_other s.colours p c colour.Blue colour.Blue (before c left).0) in
    let far : (c : ℕ) → less c → unswept s.control s.collector.sweep c ≡ true
    → unswept s.control sweeping.Done c ≡ true
    = (λ c left ahead. unswept_elsewhere s.control sweeping.Done s.collector.sweep c
    (before c left).0 ∙ ahead) in
    record {
      grown = (λ c. set_each (λ d n. freed_of old d ≤ n) times p (slice_index times p + 1) 0
          (λ lt. let le = k.grown p in omega arith) k.grown c);
      apart = record {
        anchor = (λ left. k.apart.anchor (before 0 left).1);
        held = (λ i c held left. k.apart.held i c held (before c left).1);
        named = (λ c d f n left. left_after old s c
            (λ here. absurd
            (let none : field_of s c f ≡ field.Null = ap (λ b. field_of s b f) here
            ∙ null f in cc))
            (k.apart.named c d f n (before d left).1));
        not_blue = (λ c left blue. k.apart.not_blue c (before c left).1
            (sym (unlike c left) ∙ blue));
      };
      way = sweep_way less old.control.cycles
          (slice_set s.colours p colour.Blue) s.control s.control s.collector.sweep sweeping.Done
          s.collector.scan refl refl (λ c left black. far c left) (λ next c left. far c left)
          (colour_beside less old.control.cycles s.colours s.control s.collector.sweep
          s.collector.scan p colour.Blue
          (λ left. absurd ((before p left).0 refl))
          (fewer_way (IsLeftIn old s) less old.control.cycles s.colours s.control s.collector.sweep
          s.collector.scan
          (λ c left. (before c left).1) k.way));
    }

-- Whiten.

pub whiten_followed : (old s : State) → IsShaped s → IsConsistent s → can s event.Whiten ≡ true
    → IsFollowed old s
    → IsFollowed old (after s event.Whiten)
whiten_followed old s range consistent h k =
    let p = s.control.position in
    let is = black_found_is s.collector.sweep h in
    let black = consistent.sweep.found_black is in
    let lt = position_below s sweeping.BlackFound range is (λ e. cc) in
    let colours = slice_set s.colours p colour.White in
    let whitened : colour_in colours p
    ≡ colour.White = get_or-set_same s.colours p colour.White colour.Blue lt in
    let elsewhere : (c : ℕ) → c ≢ p → unswept s.control s.collector.sweep c ≡ true
    → unswept s.control sweeping.Done c ≡ true
    = (λ c other far. unswept_elsewhere s.control sweeping.Done s.collector.sweep c other ∙ far) in
    record {
      grown = k.grown;
      apart = colour_apart (IsLeftIn old s) s.rows s.owns s.colours p colour.White
          (λ left blue. cc) k.apart;
      way = sweep_way
          (IsLeftIn old s) old.control.cycles colours s.control s.control s.collector.sweep
          sweeping.Done s.collector.scan refl refl
          (λ c left dark. elsewhere c
          (λ here. absurd
          (let e : colour_in colours p
          ≡ colour.Black = subst (λ n. colour_in colours n ≡ colour.Black) here dark in cc)))
          (λ next c left. elsewhere c (λ here. absurd (let white = k.way.white next c left in
          let e : colour_of s p
          ≡ colour.White = subst (λ n. colour_of s n ≡ colour.White) here white in cc)))
          (colour_way (IsLeftIn old s) old.control.cycles s.colours s.control s.collector.sweep
          s.collector.scan p colour.White
          (λ first now left. inl refl) (λ next left. refl) k.way);
    }

-- Advance.

pub advance_followed : (old s : State) → can s event.Advance ≡ true → IsFollowed old s
    → IsFollowed old (after s event.Advance)
advance_followed old s h k =
    let is = (advance_needs s h).done in
    word_followed old s (at_position s.control (s.control.position + 1)) sweeping.Fresh refl refl
    (λ c left far. advance_unswept s c is ∙ far) k
