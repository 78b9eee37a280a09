-- Sets of white cells that are cut off from a tracing collector.
use Rattle.std.proofs.Common.{◌≡◌, ◌≢◌, ℕ, Bool, true, false, refl, ap, Some, None}
use Rattle.cell_words.specs.declared.colours.Colour.{Colour}
use Rattle.cell_words.specs.declared.colours.Colour.TheVariants as colour
use Rattle.core_machine.specs.State.{State, colour_of}
use Rattle.dlg_core.specs.Consistent.{IsConsistent, IsCutOff}
use Rattle.dlg_core.specs.Facts.{child_in}

pub is_white : Colour → Bool
is_white colour.Blue = false
is_white colour.White = true
is_white colour.Gray = false
is_white colour.Black = false

pub white_is_white : (x : Colour) → x ≡ colour.White → is_white x ≡ true
unfolding is_white
white_is_white x e = ap is_white e

pub is_white_is : (x : Colour) → is_white x ≡ true → x ≡ colour.White
unfolding is_white
is_white_is colour.White h = refl
is_white_is _ h = absurd cc

-- without a gray cell there is no scan, and so no child
pub child_needs_gray : (s : State) → IsConsistent s → ((d : ℕ) → colour_of s d ≢ colour.Gray)
    → (d : ℕ) → child_in s.collector.scan ≡ Some d → ⊥
child_needs_gray s k none d h =
    elim s.collector.scan as (λ x. s.collector.scan ≡ x → child_in x ≡ Some d → ⊥) [
      | None ↦ λ is e. absurd cc
      | Some y ↦ λ is e. none y.cell (k.tracing.scans y is).gray
    ] refl h

-- with no gray cell the white cells are cut off
pub white_cut_off : (s : State) → IsConsistent s → ((d : ℕ) → colour_of s d ≢ colour.Gray)
    → IsCutOff s.owns s.colours s.rows s.collector.scan (λ d. is_white (colour_of s d))
white_cut_off s k none = record {
  white = (λ d h. is_white_is (colour_of s d) h);
  child = (λ d h. absurd (child_needs_gray s k none d h));
  gray = (λ d e f gray unread n sure. absurd (none d gray));
  outside = (λ d e f white out n sure. absurd (let h = white_is_white (colour_of s d) white in cc));
}

-- what is outside in either case is outside, whether or not the case can be told
pub outside_either : (Case : Type 0) (in_set : Bool) → (Case → in_set ≡ false)
    → (¬ Case → in_set ≡ false) → in_set ≡ false
outside_either Case true here there = there (λ is. absurd (let out = here is in cc))
outside_either Case false here there = refl

-- a cell that is not white is in no set that is cut off
pub not_white_outside : (s : State) (set : ℕ → Bool) (c : ℕ)
    → IsCutOff s.owns s.colours s.rows s.collector.scan set
    → colour_of s c ≢ colour.White → set c ≡ false
not_white_outside s set c cut nowhite = elim (set c) as (λ b. set c ≡ b → set c ≡ false) [
  | true ↦ λ in_set. absurd (nowhite (cut.white c in_set))
  | false ↦ λ h. h
] refl
