use Rattle.std.proofs.Common.{◌≡◌, ◌≤◌, true, ◌++◌, length}
use Rattle.doc_tree.specs.Words.{path_of, path_with, pieces, are_names}
use Rattle.doc_tree.proofs.path.Path.read.Given as goal

-- the names so far and the pieces of the rest are the pieces of all
abbrev pub invariant-loop-at : goal.invariant-loop-at
invariant-loop-at l = record {
  short : length l.names.items ≤ 7;
  named : are_names l.names.items ≡ true;
  whole : path_with (l.names.items ++ pieces l.rest) ≡ path_of l.fn.bytes;
}

abbrev pub decreases-loop-at : goal.decreases-loop-at
decreases-loop-at l = length l.rest
