use Rattle.outside.proofs.Courses.{unbroken_orderly, unbroken_done, orderly_failed}
use Rattle.outside.proofs.reading.read_more.Goals as goal

-- one call is made, on every way, and none after one that failed
pub returns-in_err-count-clause-calls : goal.returns-in_err-count-clause-calls
returns-in_err-count-clause-calls g c = c.read.ensures.calls

pub returns-in_err-count-clause-orderly : goal.returns-in_err-count-clause-orderly
returns-in_err-count-clause-orderly g c =
    orderly_failed _ _ (rw c.in_err-count.was at c.read.ensures.course)

pub returns-in_err-extend_from_slice-clause-calls :
    goal.returns-in_err-extend_from_slice-clause-calls
returns-in_err-extend_from_slice-clause-calls g c = c.read.ensures.calls

pub returns-in_err-extend_from_slice-clause-orderly :
    goal.returns-in_err-extend_from_slice-clause-orderly
returns-in_err-extend_from_slice-clause-orderly g c = λ was.
    unbroken_orderly _ (unbroken_done _ _ (rw c.in_ok-count.was at c.read.ensures.course) was)

pub returns-clause-calls : goal.returns-clause-calls
returns-clause-calls g c = c.read.ensures.calls

pub returns-clause-unbroken : goal.returns-clause-unbroken
returns-clause-unbroken g c = unbroken_done _ _ (rw c.in_ok-count.was at c.read.ensures.course)

pub returns-clause-orderly : goal.returns-clause-orderly
returns-clause-orderly g c = λ was.
    unbroken_orderly _ (unbroken_done _ _ (rw c.in_ok-count.was at c.read.ensures.course) was)
