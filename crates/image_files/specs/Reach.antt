-- Which cells the anchor leads to, whatever they are for.
-- Source: this project's own.
use Rattle.std.specs.Prelude.{ℕ, ◌≡◌, ◌<◌}
use Rattle.cell_words.specs.declared.fields.Field.TheVariants.{Cell}
use Rattle.heap_census.specs.Heap.{Heap}

pub data IsReached (h : Heap) : ℕ → Type 0 where
  start : {c : ℕ} → c ≡ 0 → IsReached h c
  step : {c d : ℕ} (i : ℕ) → IsReached h c → i < 6 → h.field c i ≡ Cell d → IsReached h d
