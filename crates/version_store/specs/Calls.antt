-- What a call leaves of a mutator of versions, whose fixed fields are those of a version.
-- Source: this project's.
use Rattle.std.specs.Prelude.{ℕ, List}
use Rattle.cell_words.specs.declared.fields.Field.{Field}
use Rattle.cell_words.specs.declared.fields.Field.TheVariants as field
use Rattle.heap_rule.specs.declared.known.Known.{Known}
use Rattle.held_places.specs.Calls as places
use Rattle.mutator_seat.specs.Bound.{Bound}
use Rattle.version_rule.specs.Pass.{Pass}
pub use Rattle.version_rule.specs.Shows.{version_asks}
use Rattle.version_rule.specs.Versions.{is_fixed}

-- what was known of a cell is still known
abbrev pub StillKnown : Known → Known → Type 0
StillKnown old new = places.StillKnown is_fixed old new

-- what was known at each place below an end is still known there
abbrev pub StaysKnown : ℕ → Bound Pass → Bound Pass → Type 0
StaysKnown end old new = places.StaysKnown is_fixed end old new

-- the held list is as it was, with these cells after it, and all is still known
abbrev pub Holds : List ℕ → Bound Pass → Bound Pass → Type 0
Holds cells old new = places.Holds is_fixed cells old new

-- one read of this field of the cell at a place, which gave this
abbrev pub WasRead : Bound Pass → Bound Pass → ℕ → ℕ → Field → Type 0
WasRead old new place f found = places.WasRead is_fixed old new place f found
