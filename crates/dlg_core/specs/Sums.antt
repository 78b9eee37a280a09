-- The books of the heap: cells that are claimed come from the free ones, and cells that are freed
-- go back to them, so at any moment the sums agree.
-- Source: this project's.
use Rattle.std.specs.Prelude.{ℕ, ◌≡◌, ◌≢◌, ◌⊎◌, ◌+◌, ◌<◌, Bool, not, List, take}
use Rattle.std.specs.List.{Any, sum, sum_by, count_by}
use Rattle.cell_words.specs.declared.colours.Colour.{Colour}
use Rattle.cell_words.specs.declared.colours.Colour.TheVariants.{Blue}
use Rattle.core_machine.specs.declared.events.Found.TheVariants as finds
use Rattle.core_machine.specs.declared.events.Event.{Event}
use Rattle.core_machine.specs.declared.events.Event.TheVariants.{Claim}
use Rattle.core_machine.specs.declared.events.Taken.{Taken}
use Rattle.core_machine.specs.Own.{Own}
use Rattle.core_machine.specs.State.{State, colour_of}
use Rattle.core_machine.specs.Words.{is_blue}
use Rattle.dlg_core.specs.Runs.{taken_from, LeadsTo}

-- the cell is not free
abbrev pub is_used : Colour → Bool
is_used colour = not (is_blue colour)

abbrev pub used_in : List Colour → ℕ
used_in colours = count_by is_used colours

-- how many cells are not free
abbrev pub used_count_of : State → ℕ
used_count_of s = used_in s.colours

abbrev pub claims_in : List Own → ℕ
claims_in owns = sum_by (λ own. own.claims) owns

-- how many cells all mutators have claimed, a cell as often as it was
abbrev pub claims_of : State → ℕ
claims_of s = claims_in s.owns

-- With so many first rows: these and all claims are the cells that are not free and all that were
-- freed, and each cell's count tells how often that was.
pub record Balances (first : ℕ) (colours : List Colour) (owns : List Own) (times_freed : List ℕ)
    (number_freed : ℕ) : Type 0 where
  pub claims : first + claims_in owns ≡ used_in colours + number_freed
  pub frees : number_freed ≡ sum times_freed

abbrev pub IsBalanced : ℕ → State → Type 0
IsBalanced first s = Balances first s.colours s.owns s.collector.times_freed
    s.collector.number_freed

-- in every state that the events pass on their way, as far as they can happen
abbrev pub StaysBalanced : ℕ → State → List Event → Type 0
StaysBalanced first s events = (k : ℕ) (t : State) → LeadsTo s (take k events) t
    → IsBalanced first t

-- Where the cells come from that are not free.

-- the event was a claim that got the cell: it found it free
pub record GetsCell (c : ℕ) (taken : Taken) : Type 0 where
  pub claimer : ℕ
  pub claims : taken.event ≡ Claim claimer c
  pub found : taken.found ≡ finds.Colour Blue

-- so was one of the events
abbrev pub IsClaimed : List Taken → ℕ → Type 0
IsClaimed ts c = Any (GetsCell c) ts

-- Behind the events every cell that is not free is one of so many first rows, or was claimed in
-- them.
abbrev pub StaysClaimed : ℕ → State → List Event → Type 0
StaysClaimed first s events = (t : State) (c : ℕ) → LeadsTo s events t → colour_of t c ≢ Blue
    → (c < first) ⊎ IsClaimed (taken_from s events) c
