-- What a mutator that claims a cell learns of its places: the cell stands at none of them, and what
-- is known of two places of one cell agrees.
-- Source: this project's.
use Rattle.std.specs.Prelude.{ℕ, ◌≡◌, ◌<◌, false, List, length, slice_index_or}
use Rattle.cell_words.specs.Term.{Term}
use Rattle.heap_rule.specs.Lore.{has, known_at}
use Rattle.heap_rule.specs.declared.known.Known.{Known}
use Rattle.heap_rule.specs.declared.known.Known.TheVariants as knows

-- of a record with this term nothing is known, or the same
abbrev pub KnowsNoOther : Term → Known → Type 0
KnowsNoOther t knows.Nothing = Unit {0}
KnowsNoOther t (knows.Record u) = u ≡ t
KnowsNoOther t _ = ⊥

-- so many places are held as are known of; the cell stands at none; and places of one cell agree
pub record IsNewTo (cells : List ℕ) (known : List Known) (cell : ℕ) : Type 0 where
  pub fit : length known ≡ length cells
  pub apart : has cells cell ≡ false
  pub agree : (p q : ℕ) (t : Term) → p < length cells → q < length cells
      → slice_index_or cells p 0 ≡ slice_index_or cells q 0 → known_at known q ≡ knows.Record t
      → KnowsNoOther t (known_at known p)
