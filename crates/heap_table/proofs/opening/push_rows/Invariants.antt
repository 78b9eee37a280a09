use Rattle.std.proofs.Common.{◌≡◌, ◌++◌, take}
use Rattle.heap_table.specs.Opening.{rows_words}
use Rattle.heap_table.proofs.opening.push_rows.Given as goal

-- what stood there, and the words of the rows so far
abbrev pub invariant-loop-row : goal.invariant-loop-row
invariant-loop-row l = l.words.items ≡ l.initial.words.items ++ rows_words (take l.row-index l.first)
