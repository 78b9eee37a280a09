-- When there is no dump of a tree with so many nodes.
-- Source: this project's own.
use Rattle.std.specs.Prelude.{ℕ, ◌≡◌, ◌<◌, ◌≤◌}
use Rattle.dump_text.specs.declared.grow.TheConstants.{MOST_NODES}
use Rattle.doc_export.specs.declared.fault.DumpFault.{DumpFault}
use Rattle.doc_export.specs.declared.fault.DumpFault.TheVariants.{NoMemory, TooMany}

-- more nodes than a dump may have are too many, and that is told before memory is taken
abbrev pub Refuses : ℕ → DumpFault → Type 0
Refuses nodes (TooMany count) = (count ≡ nodes) × (MOST_NODES < nodes)
Refuses nodes NoMemory = nodes ≤ MOST_NODES
