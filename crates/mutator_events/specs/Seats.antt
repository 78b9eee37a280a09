-- What the parts of a mutator's seat at run time say of its view. Marks, and whether a status word
-- says over, only the view knows: what a call stores needs neither.
-- Source: this project's.
use Rattle.std.specs.Prelude.{ℕ, ◌≡◌, ◌<◌, ◌≤◌, Bool, true, false, List, length, All}
use Rattle.std.specs.Prelude.{Option, Some, None, is_some}
use Rattle.cell_words.specs.Control.{IsValidControl, pack_control_of}
use Rattle.cell_words.specs.declared.controls.Control.{Control}
use Rattle.cell_words.specs.declared.presences.Presence.{Presence}
use Rattle.cell_words.specs.declared.presences.Status.{Status}
use Rattle.core_machine.specs.Own.{Own, no_own}
use Rattle.core_machine.specs.Places.{cell_at}
use Rattle.core_machine.specs.Trail.{own_along}
use Rattle.core_machine.specs.declared.pending.Pending.{Pending}
use Rattle.core_machine.specs.declared.places.Held.{Held}
use Rattle.heap_rule.specs.declared.known.Known.{Known}
use Rattle.heap_rule.specs.declared.view.Role.TheVariants as role
use Rattle.heap_rule.specs.declared.view.View.{View}
use Rattle.heap_rule.specs.Lore.{cells_in}
use Rattle.heap_rule.specs.Moves.{given_view}

-- the mode is the control whose word the last look found
abbrev pub HasLooked : Option Control → ℕ → Type 0
HasLooked mode looked = (control : Control) → mode ≡ Some control
    → IsValidControl control × (pack_control_of control ≡ looked)

-- the part that no word shows: its cells are cells of the heap, and no more than it has room for
pub record HasOwn (cells room : ℕ) (own : Own) (held : List ℕ) (looked claims : ℕ) : Type 0 where
  pub held_is : cells_in own.held ≡ held
  pub held_below : All (λ c. c < cells) held
  pub held_fits : length held ≤ room
  pub mode_is : HasLooked own.mode looked
  pub claims_is : own.claims ≡ claims

-- the presence: the status while it is in, since the collector may answer for it while it is out
pub record HasPresence (presence : Presence) (inside : Bool) (status : Status) : Type 0 where
  pub inside_is : presence.inside ≡ inside
  pub status_is : inside ≡ true → presence.status ≡ status
  pub not_over : inside ≡ true → presence.over ≡ false

-- something is known of each place, if no more than that it is held; and who is in holds the anchor
-- at the first place
pub record HasRoots (known : List Known) (held : List Held) (inside : Bool) : Type 0 where
  pub fit : length known ≡ length held
  pub some : inside ≡ true → 1 ≤ length held
  pub anchor : inside ≡ true → cell_at held 0 ≡ 0

-- the pending write: it goes to the place and the field of the payload that the seat keeps; and who
-- is out has none
pub record HasBegun (own : Own) (place f : ℕ) (inside : Bool) : Type 0 where
  pub pending_is : (write : Pending) → own.pending ≡ Some write
      → (write.place ≡ place) × (write.f ≡ f)
  pub there : is_some own.pending ≡ true → place < length own.held
  pub payload : is_some own.pending ≡ true → f ≤ 4
  pub idle : inside ≡ false → own.pending ≡ None

module _ {P : Type 0} where
  pub record IsMutator (me : View P) (number room : ℕ) (held : List ℕ) (looked : ℕ)
      (inside : Bool) (status : Status) (claims : ℕ) : Type 0 where
    pub role_is : me.role ≡ role.Mutator
    pub number_is : me.number ≡ number
    pub number_below : number < me.shape.mutators
    pub room_is : me.room ≡ room
    pub some_room : 1 ≤ room
    pub own : HasOwn me.shape.cells room me.own held looked claims
    pub presence : HasPresence me.presence inside status
    pub roots : HasRoots me.known me.own.held inside
    -- its own part is what its trail leaves
    pub left : me.own ≡ own_along no_own me.trail

  -- the view is what a mutator's seat is given when it is split off
  abbrev pub IsGiven : (ℕ → ℕ → P) → ℕ → ℕ → View P → Type 0
  IsGiven opens number room me = (giver : View P) × (me ≡ given_view opens number room giver)
