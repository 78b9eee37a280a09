use Rattle.std.proofs.Common.{arith}
use Rattle.outside.proofs.Courses.{unbroken_done, orderly_failed}
use Rattle.outside.proofs.Taken.{appended_more}
use Rattle.outside.proofs.writing.write_all.Goals as goal

-- one call is made in a turn, and none after one that failed
pub returns-in_err-done-clause-calls : goal.returns-in_err-done-clause-calls
returns-in_err-done-clause-calls g c = omega (arith, c.write.ensures.calls)

pub returns-in_err-done-clause-orderly : goal.returns-in_err-done-clause-orderly
returns-in_err-done-clause-orderly g c = λ was.
    orderly_failed _ _ (rw c.in_err-done.was at c.write.ensures.course)
    (c.loop-done.invariant.unbroken was)

-- the front that was written grows by what this call took
pub loop-done-preserved : goal.loop-done-preserved
loop-done-preserved g c =
    let took = rw c.in_ok-done.was at c.write.ensures.taken in
    record {
      within = omega (arith, took.0);
      taken = appended_more _ _ _ _ _ _ c.loop-done.invariant.taken
          (rw c.split_at.ensures.back at rw c.in_ok-done.was at c.write.ensures.bytes);
      turns = omega (arith, took.1, c.write.ensures.calls);
      unbroken = λ was.
          unbroken_done _ _ (rw c.in_ok-done.was at c.write.ensures.course)
          (c.loop-done.invariant.unbroken was);
      later = omega (arith, c.write.ensures.faults);
      wanted = omega (arith, c.write.ensures.wants);
    }
