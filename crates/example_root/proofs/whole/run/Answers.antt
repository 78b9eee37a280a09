use Rattle.example_root.proofs.Ending.{are_over, first_there, leaves}
use Rattle.example_root.proofs.Reading.{found_back}
use Rattle.example_root.proofs.whole.run.Goals as goal

pub close-closed-requires-clause-over : goal.close-closed-requires-clause-over
close-closed-requires-clause-over g c =
    are_over c.in_ok-opened.opened.heap 42 c.run_alongside-report.result.0
    c.run_alongside-report.ensures.done

pub returns : goal.returns
returns g c =
    let heap = c.in_ok-opened.opened.heap in
    let report = c.run_alongside-report.result.0 in
    let done = c.run_alongside-report.ensures.done in
    let closed = c.close-closed.result.0 in
    let is = c.in_ok-opened.ensures.opened.shape_is in
    let so = c.close-closed.ensures.closed in
    record {
      found = found_back 42 report.found done.first.seat closed.passes done.found
          (first_there 32 heap 42 report closed done is so);
      leaves = leaves 32 heap 42 report closed done is so;
    }
