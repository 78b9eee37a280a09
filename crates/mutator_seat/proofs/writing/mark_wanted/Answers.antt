use Rattle.mutator_seat.proofs.writing.mark_wanted.Goals as goal

-- the marks are those of `mark_value`, which is not named here: without that call no fact gives
-- them
pub returns-in-Old-clause-marks : goal.returns-in-Old-clause-marks
returns-in-Old-clause-marks g c = rw c.in-Old.is search
