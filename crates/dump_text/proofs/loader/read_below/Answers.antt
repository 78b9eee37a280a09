use Rattle.std.proofs.Common.{◌≡◌, ◌+◌, length, Err, sym, subst, arith}
use Rattle.dump_text.specs.Answers.{Lists}
use Rattle.line_texts.specs.Lines.{lines_left}
use Rattle.dump_text.specs.Contents.{nodes_from}
use Rattle.dump_text.specs.Listing.{listed}
use Rattle.dump_text.specs.declared.fault.LoadError.{LoadError}
use Rattle.dump_text.proofs.Fronts.{ends, goes_on, missing, stops}
use Rattle.dump_text.proofs.Listings.{count_listed}
use Rattle.dump_text.proofs.loader.read_below.Goals as goal

pub returns-in-Ok-End-clause-nodes : goal.returns-in-Ok-End-clause-nodes
returns-in-Ok-End-clause-nodes c =
    let so_far = rw c.in-Some.is at c.loop-rest.invariant.so_far in
    ends (listed c.loop-rest.tree) c.in-Some.left.now c.cut_line.result.0.now c.cut_line.result.1
    c.is_some.result _ c.ended.result c.cut_line.ensures.lines c.is_some.ensures
    (rw c.in-Ok-End.field-0-is at c.in-Ok-End.ensures) so_far c.ended.ensures.nodes

pub loop-rest-preserved : goal.loop-rest-preserved
loop-rest-preserved c =
    let so_far = rw c.in-Some.is at c.loop-rest.invariant.so_far in
    let turn = rw c.in-Ok-Grown.field-0-is at c.in-Ok-Grown.ensures in
    record {
      grown = turn.1;
      so_far = goes_on (listed c.loop-rest.tree) (listed c.in-Ok-Grown.grown) c.in-Some.left.now
          c.cut_line.result.0.now c.cut_line.result.1 c.is_some.result _ c.cut_line.ensures.lines
          c.is_some.ensures turn.0 so_far;
    }

pub returns-in-Err-clause-nodes : goal.returns-in-Err-clause-nodes
returns-in-Err-clause-nodes c =
    let so_far = rw c.in-Some.is at c.loop-rest.invariant.so_far in
    let number = c.count.ensures.exact c.loop-rest.invariant.grown.lawful in
    let same : c.count.result + 2 ≡ length (listed c.loop-rest.tree) + 2 =
    omega (arith, number, count_listed c.loop-rest.tree) in
    subst (λ (e : LoadError). Lists (Err e) (nodes_from (listed c.args.root)
    (lines_left c.args.bytes))) (sym c.error_at.ensures)
    (stops c.in-Err.error (c.count.result + 2) (listed c.loop-rest.tree) c.in-Some.left.now
    c.cut_line.result.0.now c.cut_line.result.1 c.is_some.result _ c.cut_line.ensures.lines
    c.is_some.ensures same c.in-Err.ensures so_far)

pub returns-clause-nodes : goal.returns-clause-nodes
returns-clause-nodes c =
    let so_far = rw c.in_default.is at c.loop-rest.invariant.so_far in
    let number = c.count-2.ensures.exact c.loop-rest.invariant.grown.lawful in
    let same : c.count-2.result + 2 ≡ length (listed c.loop-rest.tree) + 2 =
    omega (arith, number, count_listed c.loop-rest.tree) in
    subst (λ (e : LoadError). Lists (Err e) (nodes_from (listed c.args.root)
    (lines_left c.args.bytes))) (sym c.fault_at.ensures)
    (missing (c.count-2.result + 2) (listed c.loop-rest.tree) _ same so_far)
