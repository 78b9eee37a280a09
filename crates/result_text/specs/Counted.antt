-- What is written of a census.
-- Source: this project's own.
use Rattle.std.specs.Prelude.{ℕ, List, ◌++◌, codes}
use Rattle.cmd_text.specs.SummaryText.{total_text_of}
use Rattle.heap_census.specs.declared.numbers.Census.{Census}

-- each number in a line of its own
abbrev pub census_text_of : Census → List ℕ
census_text_of census =
    total_text_of (codes "cells") census.cells
    ++ total_text_of (codes "free") census.free
    ++ total_text_of (codes "versions") census.versions
    ++ total_text_of (codes "nodes") census.nodes
    ++ total_text_of (codes "entries") census.entries
    ++ total_text_of (codes "texts") census.texts
    ++ total_text_of (codes "shared") census.shared
    ++ total_text_of (codes "floating") census.floating
