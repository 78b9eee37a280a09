-- The invariant gives safety. By induction on the chain each reachable cell is live: the anchor and
-- what is held are, and what a live cell names is. A live cell is not blue.
use Rattle.std.proofs.Common.{◌≡◌, ◌≢◌, ℕ, Bool, true}
use Rattle.cell_words.specs.declared.colours.Colour.{Colour}
use Rattle.cell_words.specs.declared.colours.Colour.TheVariants as colour
use Rattle.core_machine.specs.State.{State, colour_of, own_in}
use Rattle.dlg_core.specs.Consistent.{IsConsistent}
use Rattle.dlg_core.specs.Facts.{is_live, live, unswept}
use Rattle.dlg_core.specs.Reachable.{Reachable}
use Rattle.dlg_core.specs.Safe.{IsSafe}
use Rattle.dlg_core.proofs.Computes.{into}
use Rattle.dlg_core.proofs.Each.{all_held}

-- a live cell is not blue
pub live_not_blue : (x : Colour) (ahead : Bool) → is_live x ahead ≡ true → x ≢ colour.Blue
live_not_blue colour.Blue ahead h e = absurd cc
live_not_blue colour.White ahead h e = absurd cc
live_not_blue colour.Gray ahead h e = absurd cc
live_not_blue colour.Black ahead h e = absurd cc

-- every reachable cell is live
pub reachable_live : (s : State) → IsConsistent s → (c : ℕ) → Reachable s c
    → live s.colours s.control s.collector.sweep c ≡ true
reachable_live s k c r =
    into s.rows s.presences s.owns
    (λ d. live s.colours s.control s.collector.sweep d ≡ true) k.cells.anchor_live
    (λ i d inside h. all_held (λ e. live s.colours s.control s.collector.sweep e ≡ true)
    (own_in s.owns i).held d (k.cells.held_live i) h)
    (λ d e f l n. (k.cells.names_live d e f l n).0) c r

pub consistent_safe : (s : State) → IsConsistent s → IsSafe s
consistent_safe s k = record {
  reached = (λ c r. live_not_blue (colour_of s c) (unswept s.control s.collector.sweep c)
      (reachable_live s k c r));
  wiped = (λ c f blue. k.cells.blue_null c f blue);
}
