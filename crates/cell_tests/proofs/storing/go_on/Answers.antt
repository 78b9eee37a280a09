use Rattle.cell_tests.proofs.Anchored.{kept_anchor}
use Rattle.cell_tests.proofs.storing.go_on.Goals as goal

pub store_number-made-requires-clause-anchor : goal.store_number-made-requires-clause-anchor
store_number-made-requires-clause-anchor c =
    kept_anchor c.args.heap.now c.args.mutator.now c.answer.new.self c.requires.anchor
    c.answer.ensures.calm.kept
