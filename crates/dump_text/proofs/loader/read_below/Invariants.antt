use Rattle.std.proofs.Common.{◌≡◌}
use Rattle.dump_text.specs.Answers.{IsGrown, names_in}
use Rattle.line_texts.specs.Lines.{lines_left}
use Rattle.dump_text.specs.Contents.{nodes_from}
use Rattle.dump_text.specs.Listing.{listed}
use Rattle.line_texts.proofs.Rests.{left}
use Rattle.dump_text.proofs.loader.read_below.Given as goal

abbrev pub invariant-loop-rest : goal.invariant-loop-rest
invariant-loop-rest l = record {
  grown : IsGrown (names_in l.last) l.tree;
  so_far : nodes_from (listed l.tree) (lines_left l.rest)
      ≡ nodes_from (listed l.fn.root) (lines_left l.fn.bytes);
}

abbrev pub decreases-loop-rest : goal.decreases-loop-rest
decreases-loop-rest l = left l.rest
