use Rattle.std.proofs.Common.{◌∙◌, ap, arith, refl, sym}
use Rattle.heap_rule.specs.Shape.{Shape}
use Rattle.mail_run.proofs.Joined.{all_mailers, all_over, closed}
use Rattle.mail_run.proofs.closing.run_opened.Goals as goal

pub close-heap-requires-clause-many : goal.close-heap-requires-clause-many
close-heap-requires-clause-many g c =
    let w = c.run_alongside-done.ensures.done in
    let done = c.run_alongside-done.result.0 in
    all_mailers c.args.opened.heap c.args.scripts.now c.lines_of-lines.result done.0.items done.1 w
    ∙ sym (ap (λ (h : Shape). h.mutators) c.requires.opened.shape_is)

pub close-heap-requires-clause-over : goal.close-heap-requires-clause-over
close-heap-requires-clause-over g c =
    let done = c.run_alongside-done.result.0 in
    all_over c.args.opened.heap c.args.scripts.now c.lines_of-lines.result done.0.items done.1
    c.run_alongside-done.ensures.done

pub close-heap-requires-clause-room : goal.close-heap-requires-clause-room
close-heap-requires-clause-room g c =
    let done = c.run_alongside-done.result.0 in
    let many = all_mailers c.args.opened.heap c.args.scripts.now c.lines_of-lines.result
    done.0.items done.1 c.run_alongside-done.ensures.done in
    omega (arith, many, c.requires.room)

pub returns : goal.returns
returns g c =
    let done = c.run_alongside-done.result.0 in
    record {
      closed = closed c.args.opened.heap c.args.scripts.now c.lines_of-lines.result done.0.items
          done.1 c.run_alongside-done.ensures.done c.args.cells c.args.cycles _
          c.close-heap.result.1.items c.requires.opened.shape_is c.lines_of-lines.ensures.lines
          c.close-heap.ensures.closed refl c.close-heap.ensures.own
          c.truncate.ensures.items;
    }
