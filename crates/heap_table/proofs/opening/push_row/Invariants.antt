use Rattle.std.proofs.Common.{◌≡◌, ◌++◌, map, take}
use Rattle.cell_words.specs.Field.{pack_field_of}
use Rattle.heap_table.proofs.opening.push_row.Given as goal

-- what stood there, and the words of the fields so far
abbrev pub invariant-loop-field : goal.invariant-loop-field
invariant-loop-field l =
    l.words.items ≡ l.initial.words.items ++ map pack_field_of (take l.field-index l.row)
