-- The states of the shelves and sinks in memory, and what one call makes of them.
-- Source: this project's own.
use Rattle.std.specs.Prelude.{ℕ, List, ◌++◌, Option, None, true, false, take}
use Rattle.outside.specs.Calls.{after_call}
use Rattle.outside.specs.Causes.{next_count}
use Rattle.outside.specs.Named.{content_named}
use Rattle.outside.specs.declared.course.Course.{Course}

-- a shelf that gives at most `most` bytes in a read, and fails at the calls with the numbers in
-- `failing`
pub record ShelfState : Type 0 where
  pub files : List (List ℕ × List ℕ)
  pub most : ℕ
  pub failing : List ℕ
  pub calls : ℕ
  pub opens : ℕ
  pub faults : ℕ
  pub course : Course
  pub left : Option (List ℕ)

-- the shelf after `open` of a name
abbrev pub after_open : ShelfState → List ℕ → ShelfState
after_open s name =
    record s {
      calls = next_count s.calls;
      opens = next_count s.opens;
      course = after_call s.course true;
      left = content_named s.files name;
    }

-- the shelf after a failed `open`
abbrev pub after_failed_open : ShelfState → ShelfState
after_failed_open s =
    record s {
      calls = next_count s.calls;
      opens = next_count s.opens;
      faults = next_count s.faults;
      course = after_call s.course false;
      left = None;
    }

-- the shelf after `read`, which left so much of the open file
abbrev pub after_read : ShelfState → Option (List ℕ) → ShelfState
after_read s left =
    record s { calls = next_count s.calls; course = after_call s.course true; left = left }

-- the shelf after a failed `read`
abbrev pub after_failed_read : ShelfState → ShelfState
after_failed_read s =
    record s {
      calls = next_count s.calls;
      faults = next_count s.faults;
      course = after_call s.course false;
    }

-- a shelf that never fails
pub record SureState : Type 0 where
  pub files : List (List ℕ × List ℕ)
  pub opens : ℕ
  pub left : Option (List ℕ)

-- a sink that takes at most `most` bytes in a call, and fails at the calls in `failing`
pub record SinkState : Type 0 where
  pub most : ℕ
  pub failing : List ℕ
  pub calls : ℕ
  pub faults : ℕ
  pub wants : ℕ
  pub course : Course
  pub written : List ℕ

-- the sink after it took the first `n` bytes of a piece
abbrev pub after_write : SinkState → List ℕ → ℕ → SinkState
after_write s piece n =
    record s {
      calls = next_count s.calls;
      course = after_call s.course true;
      written = s.written ++ take n piece;
    }

-- the sink after a call that failed by its number
abbrev pub after_failed_write : SinkState → SinkState
after_failed_write s =
    record s {
      calls = next_count s.calls;
      faults = next_count s.faults;
      course = after_call s.course false;
    }

-- the sink after a call that found no memory: it is not numbered
abbrev pub after_want : SinkState → SinkState
after_want s = record s { wants = next_count s.wants; course = after_call s.course false }

-- a sink that takes every piece whole
pub record SureSinkState : Type 0 where
  pub wants : ℕ
  pub course : Course
  pub written : List ℕ

-- the sink after it took a piece
abbrev pub after_sure_write : SureSinkState → List ℕ → SureSinkState
after_sure_write s piece =
    record s { course = after_call s.course true; written = s.written ++ piece }

-- the sink after a call that found no memory
abbrev pub after_sure_want : SureSinkState → SureSinkState
after_sure_want s =
    record s { wants = next_count s.wants; course = after_call s.course false }
