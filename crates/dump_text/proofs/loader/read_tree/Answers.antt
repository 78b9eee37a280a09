use Rattle.std.proofs.Common.{Err, sym, subst}
use Rattle.line_texts.specs.Lines.{lines_of}
use Rattle.dump_text.specs.Answers.{Lists}
use Rattle.dump_text.specs.Contents.{nodes_of}
use Rattle.dump_text.specs.declared.fault.LoadError.{LoadError}
use Rattle.dump_text.proofs.Fronts.{root_read, root_stops}
use Rattle.dump_text.proofs.loader.read_tree.Goals as goal

pub returns-in-Err-clause-nodes : goal.returns-in-Err-clause-nodes
returns-in-Err-clause-nodes c =
    subst (λ (e : LoadError). Lists (Err e) (nodes_of (lines_of c.args.bytes.now)))
    (sym c.error_at.ensures)
    (root_stops c.in-Err.error c.args.bytes.now c.cut_line.result.0.now c.cut_line.result.1
    c.is_some.result c.cut_line.ensures.lines c.is_some.ensures c.in-Err.ensures)

pub returns-clause-nodes : goal.returns-clause-nodes
returns-clause-nodes c =
    root_read c.args.bytes.now c.cut_line.result.0.now c.cut_line.result.1 c.is_some.result
    c.in-Ok.text c.in_ok-lone_node.field-0 c.read_below.result c.cut_line.ensures.lines
    c.is_some.ensures c.in-Ok.ensures c.in_ok-lone_node.ensures.tree c.read_below.ensures.nodes
