use Rattle.std.proofs.Common.{sym, ◌∙◌}
use Rattle.dump_text.proofs.Fronts.{tree_stops}
use Rattle.dump_text.proofs.loader.read_dump.Goals as goal

pub returns-in-Err-clause-contents : goal.returns-in-Err-clause-contents
returns-in-Err-clause-contents c =
    tree_stops c.in-Err.error c.args.bytes.now c.cut_line.result.0.now c.cut_line.result.1
    c.in-Some.rest c.in-Some-read_head.version c.cut_line.ensures.lines c.in-Some.is
    (sym c.read_head.ensures ∙ c.in-Some-read_head.is) c.in-Err.ensures.nodes
