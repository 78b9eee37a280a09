-- The root of version 0.
-- Source: this project's.
use Rattle.cell_words.specs.Term.{Term, five, null, num}

-- a node without text and without children: null for either, 1 node, 0 high
abbrev pub bare_root : Term
bare_root = five null null (num 1) (num 0) null
