-- What a bare seat of these tests knows before it fetches.
-- Source: this project's.
use Rattle.std.specs.Prelude.{◌≡◌, ◌≤◌, true, length, None, Some}
use Rattle.cell_words.specs.declared.controls.Control.{Control}
use Rattle.cell_words.specs.declared.write_barrier.Barrier.TheVariants as barrier
use Rattle.core_machine.specs.Words.{barrier_in, lets_store}
use Rattle.heap_rule.specs.declared.keeping.NoRule.{NoRule}
use Rattle.heap_rule.specs.declared.view.View.{View}
use Rattle.heap_rule.specs.Asks.{target}

-- it is in, holds the anchor alone, has begun no write, and found this by its look
pub record HasLooked (control : Control) (v : View NoRule) : Type 0 where
  pub inside : v.presence.inside ≡ true
  pub settled : v.own.pending ≡ None
  pub mode : v.own.mode ≡ Some control
  pub held : length v.own.held ≡ 1
  pub fits : 2 ≤ v.room

-- the same, and a store may be begun that marks nothing
pub record IsFree (v : View NoRule) : Type 0 where
  pub inside : v.presence.inside ≡ true
  pub settled : v.own.pending ≡ None
  pub nothing : barrier_in v.presence.status v.own.mode ≡ barrier.Nothing
  pub lets : lets_store v.presence.status v.own.mode ≡ true
  pub anchor : target v 0 ≡ 0
  pub held : length v.own.held ≡ 1
  pub fits : 2 ≤ v.room
