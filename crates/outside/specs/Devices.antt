-- What contracts see of the shelf over real files and of the sink over standard output: their own
-- counts, whether a file is open, and what is gathered. What a file holds and what became of
-- standard output they do not tell.
-- Source: this project's own.
use Rattle.std.specs.Prelude.{ℕ, Bool, true, false, List, ◌++◌, length, nat_lt}
use Rattle.std.specs.Prelude.{Option, None, if◌then◌else◌}
use Rattle.outside.specs.Calls.{after_call}
use Rattle.outside.specs.Causes.{next_count}
use Rattle.outside.specs.declared.course.Course.{Course}

-- what these devices tell of bytes: nothing
abbrev pub untold : Option (List ℕ)
untold = None

pub record FileState : Type 0 where
  pub is_open : Bool
  pub opens : ℕ
  pub faults : ℕ
  pub course : Course

-- a count of faults after a call that was done or failed
abbrev pub faults_after : ℕ → Bool → ℕ
faults_after faults true = faults
faults_after faults false = next_count faults

-- the shelf after `open`, which was done or failed
abbrev pub after_opening : FileState → Bool → FileState
after_opening s done =
    record {
      is_open = done;
      opens = next_count s.opens;
      faults = faults_after s.faults done;
      course = after_call s.course done;
    }

-- the shelf after `read`, which was done or failed
abbrev pub after_reading : FileState → Bool → FileState
after_reading s done =
    record s { faults = faults_after s.faults done; course = after_call s.course done }

pub record OutputState : Type 0 where
  pub gathered : List ℕ
  pub faults : ℕ
  pub wants : ℕ
  pub course : Course

-- how many bytes are gathered before they are written out
abbrev pub most_gathered : ℕ
most_gathered = 65536

-- what is gathered after a piece: it stands alone where what was there is written out first
abbrev pub gathered_with : List ℕ → List ℕ → List ℕ
gathered_with gathered piece =
    if nat_lt (length gathered) most_gathered then gathered ++ piece else piece
