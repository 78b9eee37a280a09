-- What a test leaves open in the collector's part: whether a mutator is noted as having answered,
-- and how far a look at a cell brings the pass. What holds of each outcome holds of it.
use Rattle.std.proofs.Common.{◌==◌, ◌&&◌, ℕ, Bool, true, false, not, List, Some, ◌+◌, if◌then◌else◌}
use Rattle.std.specs.Prelude.{slice_set}
use Rattle.cell_words.specs.declared.colours.Colour.{Colour}
use Rattle.cell_words.specs.declared.colours.Colour.TheVariants as colour
use Rattle.core_machine.specs.Collector.{Collector, answered_by, restarted, seen, passed}
use Rattle.core_machine.specs.Collector.{scanning_from}

pub answered_each : (P : Collector → Type 0) (c : Collector) (i : ℕ) (b : Bool)
    → ((answered : List Bool) → P (record c { answered = answered })) → P (answered_by c i b)
answered_each P c i true each = each (slice_set c.answered i true)
answered_each P c i false each = each c.answered

pub restarted_each : (P : Collector → Type 0) (c : Collector) (cells : ℕ)
    → ((cursor : ℕ) (clean : Bool) → P (record c { cursor = cursor; clean = clean }))
    → P (restarted c cells)
restarted_each P c cells each =
    elim ((c.cursor == cells) && not c.clean)
    as (λ b. P (if b then record c { cursor = 0; clean = true } else c)) [
      | true ↦ each 0 true
      | false ↦ each c.cursor c.clean
    ]

pub passed_each : (P : Collector → Type 0) (c : Collector) (cell : ℕ)
    → ((cursor : ℕ) → P (record c { cursor = cursor })) → P (passed c cell)
passed_each P c cell each =
    elim (cell == c.cursor) as (λ b. P (if b then record c { cursor = c.cursor + 1 } else c)) [
      | true ↦ each (c.cursor + 1)
      | false ↦ each c.cursor
    ]

-- either the pass goes on, or the cell is scanned
pub seen_each : (P : Collector → Type 0) (c : Collector) (cell : ℕ) (x : Colour)
    → ((cursor : ℕ) → P (record c { cursor = cursor }))
    → P (record c { clean = false; scan = Some (scanning_from cell) }) → P (seen c cell x)
seen_each P c cell colour.Blue on scans = passed_each P c cell on
seen_each P c cell colour.White on scans = passed_each P c cell on
seen_each P c cell colour.Gray on scans = scans
seen_each P c cell colour.Black on scans = passed_each P c cell on

-- a look at a cell, at whose beginning the pass may start over
pub look_each : (P : Collector → Type 0) (c : Collector) (cells cell : ℕ) (x : Colour)
    → ((cursor : ℕ) (clean : Bool) → P (record c { cursor = cursor; clean = clean }))
    → ((cursor : ℕ)
    → P (record c { cursor = cursor; clean = false; scan = Some (scanning_from cell) }))
    → P (seen (restarted c cells) cell x)
look_each P c cells cell x on scans =
    restarted_each (λ d. P (seen d cell x)) c cells (λ cursor clean.
    seen_each P (record c { cursor = cursor; clean = clean }) cell x (λ next. on next clean)
    (scans cursor))
