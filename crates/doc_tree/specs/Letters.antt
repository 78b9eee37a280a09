-- What letters show: the first of the bytes in the value, or all of those in shared memory.
-- Source: this project's.
use Rattle.std.specs.Prelude.{ℕ, ◌≤◌, List, take}
use Rattle.std.specs.Arc.{arc_value}
use Rattle.doc_tree.specs.declared.letters.Stored.{Stored}
use Rattle.doc_tree.specs.declared.letters.Stored.TheVariants.{Short, Long}

abbrev pub bytes_in : Stored → List ℕ
bytes_in (Short len bytes) = take len bytes
bytes_in (Long bytes) = (arc_value bytes).items

-- no more bytes count than there are
abbrev pub IsWithin : Stored → Type 0
IsWithin (Short len bytes) = len ≤ 22
IsWithin (Long bytes) = Unit {0}
