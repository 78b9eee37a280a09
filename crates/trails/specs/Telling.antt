-- The same as Asks.antt says of a call, said forwards: as a function on what is still to be shown.
--
-- `Tells f old new` says: of all that is asked for, what `f` puts before a rest was shown between
-- the old marks and the new ones. Two calls are then two functions, one applied to the other. So a
-- generic reader of chains needs neither appends nor witnesses in its clauses.
-- Source: this project's.
use Rattle.std.specs.Prelude.{◌≡◌, List, ◌++◌}
use Rattle.trails.specs.Asks.{Ask, InOrder}
use Rattle.trails.specs.Marks.{Mark}

-- of all that is asked for, the marks have what stands before this rest, in order
pub record Due (all rest : List Ask) (marks : List Mark) : Type 0 where
  pub done : List Ask
  pub is : all ≡ done ++ rest
  pub shown : InOrder done marks

abbrev pub Tells : (List Ask → List Ask) → List Mark → List Mark → Type 0
Tells f old new = (all rest : List Ask) → Due all (f rest) old → Due all rest new

-- the marks begin with those
pub record Begins (before marks : List Mark) : Type 0 where
  pub rest : List Mark
  pub is : marks ≡ before ++ rest

-- all that the old marks begin with the new ones begin with too
abbrev pub Keeps : List Mark → List Mark → Type 0
Keeps old new = (before : List Mark) → Begins before old → Begins before new
