-- The children of a scanned cell, as they go on the mark stack, and what that counts for.
-- Source: this project's.
use Rattle.std.specs.Prelude.{ℕ, List, [], ◌∷◌, Option, Some, None}
use Rattle.collector.specs.Counting.{plus, shades_one}
use Rattle.collector.specs.Stack.{Stack, has_room, pushed}
use Rattle.collector.specs.declared.report.CycleReport.{CycleReport}

abbrev pub child_pushed : Option ℕ → Stack → Stack
child_pushed None s = s
child_pushed (Some child) s = pushed child s

-- one after the other
abbrev pub all_pushed : List (Option ℕ) → Stack → Stack
all_pushed [] s = s
all_pushed (c ∷ cs) s = all_pushed cs (child_pushed c s)

-- a child counts as pushed, or as one that found the stack full
abbrev pub with_child : CycleReport → Option ℕ → Stack → CycleReport
with_child so_far None s = so_far
with_child so_far (Some child) s = plus so_far (shades_one (has_room s))

abbrev pub with_all : CycleReport → List (Option ℕ) → Stack → CycleReport
with_all so_far [] s = so_far
with_all so_far (c ∷ cs) s = with_all (with_child so_far c s) cs (child_pushed c s)
