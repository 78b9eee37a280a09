use Rattle.std.proofs.Common.{rules}
use Rattle.doc_tree.specs.Edits.{Gives, set_text}
use Rattle.doc_tree.proofs.Orderly.{lawful_set_text, shallow_set_text}
use Rattle.doc_tree.proofs.tree.Tree.set_text.Goals as goal

pub returns-clause-lawful : goal.returns-clause-lawful
returns-clause-lawful c =
    let is : Gives c.within_limits.result
    (set_text c.args.path.now c.args.text.now c.args.self.now) = search rules in
    lawful_set_text _ c.args.path.now c.args.text.now c.args.self.now is

pub returns-clause-shallow : goal.returns-clause-shallow
returns-clause-shallow c =
    let is : Gives c.within_limits.result
    (set_text c.args.path.now c.args.text.now c.args.self.now) = search rules in
    shallow_set_text _ c.args.path.now c.args.text.now c.args.self.now is c.names.ensures.path

pub returns-in_err-edited-clause-shallow : goal.returns-in_err-edited-clause-shallow
returns-in_err-edited-clause-shallow c =
    let is : Gives c.from_residual.result
    (set_text c.args.path.now c.args.text.now c.args.self.now) = search rules in
    shallow_set_text _ c.args.path.now c.args.text.now c.args.self.now is c.names.ensures.path
