use Rattle.std.proofs.Common.{◌≡◌, ◌≤◌, drop}
use Rattle.doc_tree.specs.Tree.{count}
use Rattle.doc_model.specs.Answers.{all_made}
use Rattle.doc_model.proofs.answer.all_made.Given as goal

-- the edits that are left make of this tree what all make of the first
abbrev pub invariant-loop-edit : goal.invariant-loop-edit
invariant-loop-edit l = record {
  rest : all_made l.draft l.edits l.tree ≡ all_made l.draft (drop l.edit-index l.edits) l.made;
  few : count l.made ≤ 1_000_000_000;
}
