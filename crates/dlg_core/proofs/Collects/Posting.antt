-- The posts, and what the collector does while it waits: where a phase ends and the next one
-- begins.
--
-- Post(Sweep)  no cell is gray, so a cell of the set is white or black; every cell is still to be
--              swept.
-- Post(Idle)   no cell is still to be swept: so after the first sweep the set is white, and after
--              the next one it has no cell.
use Rattle.std.proofs.Common.{◌≡◌, ◌≢◌, ◌⊎◌, inl, inr, ℕ, Bool, true, false, Some, None, ◌+◌, ◌≤◌}
use Rattle.std.proofs.Common.{refl, sym, subst, ◌∙◌, arith}
use Rattle.std.proofs.lemmas.Bool.{cases_lt}
use Rattle.std.proofs.lemmas.List.{get_or_past}
use Rattle.cell_words.specs.declared.colours.Colour.{Colour}
use Rattle.cell_words.specs.declared.colours.Colour.TheVariants as colour
use Rattle.cell_words.specs.declared.controls.Control.{Control}
use Rattle.cell_words.specs.declared.controls.Stage.{Stage}
use Rattle.cell_words.specs.declared.controls.Stage.TheVariants as stage
use Rattle.core_machine.specs.declared.events.Event.TheVariants as event
use Rattle.core_machine.specs.Collector.{posted_control}
use Rattle.core_machine.specs.Handshakes.{wanted_of}
use Rattle.core_machine.specs.State.{State, colour_of, presence_of}
use Rattle.core_machine.specs.Words.{same_status, may_answer_out}
use Rattle.core_machine.specs.InRange.{IsShaped}
use Rattle.core_machine.specs.Next.{can, after}
use Rattle.core_machine.proofs.Conditions.{post_idle_needs}
use Rattle.dlg_core.specs.Consistent.{IsConsistent}
use Rattle.dlg_core.specs.Facts.{child_in, unswept}
use Rattle.dlg_core.proofs.Changes.Noted.{answered_each}
use Rattle.dlg_core.proofs.Collects.Changes.{sweep_way}
use Rattle.dlg_core.proofs.Collects.Followed.{Follows, IsLeftIn, IsFollowed}
use Rattle.dlg_core.proofs.Events.Post.{all_ahead, none_ahead, no_scan, no_gray_at_end}

-- a colour that is neither blue nor gray
pub white_or_black : (x : Colour) → x ≢ colour.Blue → x ≢ colour.Gray
    → (x ≡ colour.White) ⊎ (x ≡ colour.Black)
white_or_black colour.Blue b g = absurd (b refl)
white_or_black colour.White b g = inl refl
white_or_black colour.Gray b g = absurd (g refl)
white_or_black colour.Black b g = inr refl

-- The collector goes on to a stage in which it does not sweep.
pub later_followed : (old s : State) (later : Control) → later.cycles ≡ s.control.cycles
    → later.stage ≢ stage.Sweep
    → IsFollowed old s
    → Follows old s.colours s.rows s.owns later s.collector.sweep s.collector.scan
    s.collector.times_freed
later_followed old s later cycles other k = record {
  grown = k.grown;
  apart = k.apart;
  way = record {
    swept = (λ first now. absurd (other now));
    white = (λ next. k.way.white (sym cycles ∙ next));
    no_child = (λ next. k.way.no_child (sym cycles ∙ next));
    ahead = (λ next now. absurd (other now));
    gone = (λ far. k.way.gone (subst (λ n. old.control.cycles + 2 ≤ n) cycles far));
  };
}

pub sweep_followed : (old s : State) → IsShaped s → IsConsistent s
    → can s (event.Post stage.Sweep) ≡ true → IsFollowed old s
    → IsFollowed old (after s (event.Post stage.Sweep))
sweep_followed old s range consistent h k =
    let later : Control = record s.control { stage = stage.Sweep; position = 0 } in
    record {
      grown = k.grown;
      apart = k.apart;
      way = record {
        swept = (λ first now c left. elim (white_or_black (colour_of s c) (k.apart.not_blue c left)
            (no_gray_at_end s range consistent h c)) [
              | inl white ↦ inl white
              | inr black ↦ inr (black, all_ahead later c refl refl)
            ]);
        white = k.way.white;
        no_child = k.way.no_child;
        ahead = (λ next now c left. all_ahead later c refl refl);
        gone = k.way.gone;
      };
    }

pub idle_followed : (old s : State) → IsShaped s → IsConsistent s
    → can s (event.Post stage.Idle) ≡ true → IsFollowed old s
    → IsFollowed old (after s (event.Post stage.Idle))
idle_followed old s range consistent h k =
    let needs = post_idle_needs s h in
    let now = needs.now in
    let ended = needs.end in
    let other : s.control.stage ≢ stage.Trace = (λ e. cc) in
    -- every cell of the set is passed
    let passed : (c : ℕ) → IsLeftIn old s c → unswept s.control s.collector.sweep c ≡ false
    = (λ c left. elim (cases_lt c s.cells) [
      | inl lt ↦ none_ahead s.control s.collector.sweep c (omega arith)
      | inr past ↦ absurd (k.apart.not_blue c left
          (get_or_past s.colours c colour.Blue
          (let fit = range.cells_fit.colours_fit in omega arith)))
    ]) in
    record {
      grown = k.grown;
      apart = k.apart;
      way = record {
        swept = (λ first later. absurd cc);
        white = (λ next c left. elim (k.way.swept (omega arith) now c left) [
          | inl white ↦ white
          | inr far ↦ absurd (let never = passed c left in let ahead = far.1 in cc)
        ]);
        no_child = (λ next c child. absurd
            (elim s.collector.scan
            as (λ scan. s.collector.scan ≡ scan → child_in scan ≡ Some c → ⊥) [
              | None ↦ λ is e. cc
              | Some x ↦ λ is e. no_scan s consistent other x is
            ] refl child));
        ahead = (λ next later. absurd cc);
        gone = (λ far c left. elim (cases_lt s.control.cycles (old.control.cycles + 2)) [
          | inl lt ↦ absurd (
              let ahead = k.way.ahead (omega arith) now c left in
              let never = passed c left in cc)
          | inr done ↦ k.way.gone done c left
        ]);
      };
    }

pub post_followed : (old s : State) (target : Stage) → IsShaped s → IsConsistent s
    → can s (event.Post target) ≡ true
    → IsFollowed old s → IsFollowed old (after s (event.Post target))
post_followed old s stage.Idle range consistent h k = idle_followed old s range consistent h k
post_followed old s stage.Sync1 range consistent h k = later_followed old s
    (posted_control s.control stage.Sync1) refl (λ e. cc) k
post_followed old s stage.Clear range consistent h k = later_followed old s
    (posted_control s.control stage.Clear) refl (λ e. cc) k
post_followed old s stage.Sync2 range consistent h k = later_followed old s
    (posted_control s.control stage.Sync2) refl (λ e. cc) k
post_followed old s stage.Trace range consistent h k = later_followed old s
    (posted_control s.control stage.Trace) refl (λ e. cc) k
post_followed old s stage.Sweep range consistent h k = sweep_followed old s range consistent h k

-- Waiting.

pub duty_followed : (old s : State) (on : Bool) → IsFollowed old s
    → IsFollowed old (after s (event.Duty on))
duty_followed old s on k = record {
  grown = k.grown;
  apart = k.apart;
  way = sweep_way (IsLeftIn old s) old.control.cycles s.colours s.control
      (record s.control { duty = on })
      s.collector.sweep s.collector.sweep s.collector.scan refl refl (λ c left black far. far)
      (λ next c left far. far) k.way;
}

pub poll_followed : (old s : State) (i : ℕ) → IsFollowed old s
    → IsFollowed old (after s (event.Poll i))
poll_followed old s i k =
    answered_each
    (λ d. Follows old s.colours s.rows s.owns s.control d.sweep d.scan d.times_freed)
    s.collector i
    (same_status (presence_of s i).status (wanted_of s)) (λ answered. k)

pub answer_out_followed : (old s : State) (i : ℕ) (over : Bool) → IsFollowed old s
    → IsFollowed old (after s (event.AnswerOut i over))
answer_out_followed old s i over k =
    answered_each
    (λ d. Follows old s.colours s.rows s.owns s.control d.sweep d.scan d.times_freed)
    s.collector i
    (may_answer_out (wanted_of s) over (presence_of s i)) (λ answered. k)
